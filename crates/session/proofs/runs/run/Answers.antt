use Rattle.std.proofs.Common.{refl, ◌∙◌, subst, arith}
use Rattle.histories.specs.Promises.{AllSecure}
use Rattle.session.specs.Sessions.{Stretch}
use Rattle.session.proofs.Goings.{from_roll, one, one_outcome, stretch_fits}
use Rattle.session.proofs.runs.run.Goals as goal

pub returns : goal.returns
returns g c =
    let m = g.S.Scheme.meaning c.args.guard.now.scheme in
    let told = c.in_default.ensures in
    let start = c.load.new.self.tables in
    let r = c.answer_all.result in
    let last = c.answer_all.new in
    record {
      ran = from_roll m c.args.roll.now c.args.calls.now start r.answered r.end c.args.answers.now last.answers c.args.guard.now.tables last.guard.tables
          c.if-answers-calls.false
          told.loads
          (subst (λ s. AllSecure (g.S.Scheme.meaning s) start) told.scheme told.secure)
          (subst (λ s. Stretch (g.S.Scheme.meaning s) start c.args.calls.now r.answered r.end c.args.answers.now last.answers last.guard.tables) told.scheme c.answer_all.ensures.ran);
      one = one m;
      outcome = one_outcome m;
      kept = λ _. c.answer_all.ensures.kept told.kept;
      fits = stretch_fits (g.S.Scheme.meaning c.load.new.self.scheme) start c.args.calls.now r.answered r.end c.args.answers.now last.answers last.guard.tables c.answer_all.ensures.ran;
      scheme = c.answer_all.ensures.scheme ∙ told.scheme;
    }

pub returns-then-answers-calls : goal.returns-then-answers-calls
returns-then-answers-calls g c = record {
  ran = (c.if-answers-calls.true, refl, refl, refl);
  one = one (g.S.Scheme.meaning c.args.guard.now.scheme);
  outcome = one_outcome (g.S.Scheme.meaning c.args.guard.now.scheme);
  kept = λ s. s;
  fits = omega arith;
  scheme = refl;
}

pub returns-in-Err : goal.returns-in-Err
returns-in-Err g c =
    let told = c.in-Err.ensures in
    record {
      ran = (c.if-answers-calls.false, told.loads.0, refl, refl, told.loads.1);
      one = one (g.S.Scheme.meaning c.args.guard.now.scheme);
      outcome = one_outcome (g.S.Scheme.meaning c.args.guard.now.scheme);
      kept = λ _. told.kept;
      fits = omega arith;
      scheme = told.scheme;
    }
