use Rattle.std.proofs.Common.{refl, subst, Ok, Err}
use Rattle.monitor.specs.Loads.{Tells}
use Rattle.session.specs.declared.outcomes.Stop.TheVariants.{BadRoll, NoRoom}
use Rattle.guard_c.proofs.runs.resave_with.Goals as goal

pub returns-in-Err-clause-told : goal.returns-in-Err-clause-told
returns-in-Err-clause-told g c = record {
  written = 0;
  end = Err (BadRoll c.in-Err.fault);
  resaved = (subst (λ s. Tells (g.S.Scheme.meaning s) c.args.roll.now (Err c.in-Err.fault)) c.new-guard.ensures.scheme c.in-Err.ensures.loads.0, refl, refl);
  report = c.report_end.ensures;
}

pub returns-in-Ok-clause-told : goal.returns-in-Ok-clause-told
returns-in-Ok-clause-told g c =
    let t = c.load.new.self.tables in
    record {
      written = c.in-Ok.written;
      end = Ok tt;
      resaved = (t, subst (λ s. Tells (g.S.Scheme.meaning s) c.args.roll.now (Ok t)) c.new-guard.ensures.scheme c.in_default.ensures.loads, c.in_default.ensures.saved, c.in-Ok.ensures.saves);
      report = c.report_end-in-Ok.ensures;
    }

pub returns-clause-told : goal.returns-clause-told
returns-clause-told g c =
    let t = c.load.new.self.tables in
    record {
      written = 0;
      end = Err NoRoom;
      resaved = (t, subst (λ s. Tells (g.S.Scheme.meaning s) c.args.roll.now (Ok t)) c.new-guard.ensures.scheme c.in_default.ensures.loads, c.in_default.ensures.saved, c.in-Err-save.ensures.saves, refl);
      report = c.report_end-in-Err-save.ensures;
    }
