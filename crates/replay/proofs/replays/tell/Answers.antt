use Rattle.std.proofs.Common.{sym, arith}
use Rattle.std.proofs.lemmas.Result.{IfOk-weaker}
use Rattle.saving.specs.Saves.{saved}
use Rattle.replay.proofs.Telling.{line_of}
use Rattle.replay.proofs.replays.tell.Goals as goal

pub returns : goal.returns
returns g c = λ blank.
    let t = c.run-outcome.new.guard.tables in
    IfOk-weaker c.format.result _ _
    (λ s h. record {
      answered = c.run-outcome.result.answered;
      end = c.run-outcome.result.end;
      before = c.args.answers.now;
      room = omega (arith, c.requires);
      after = c.run-outcome.new.answers;
      last = t;
      ran = rw (sym blank) c.run-outcome.ensures.ran;
      line_is = line_of _ _ (saved t) c.in_ok-said.ensures c.in_ok-end.ensures c.in_ok-saved.ensures h;
    })
    c.format.ensures.ok
