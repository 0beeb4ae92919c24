use Rattle.std.proofs.Common.{refl}
use Rattle.histories.proofs.Faith.{faithful}
use Rattle.histories.proofs.Promised.{secure}
use Rattle.histories.proofs.Steadiness.{said_loaded, steady_said}
use Rattle.monitor.proofs.Answers.{one_answer, says_saved, blank_kept, steady_kept}
use Rattle.monitor.proofs.guards.Guard.load.Goals as goal

pub returns : goal.returns
returns g c =
    let m = g.S.Scheme.meaning c.args.self.now.scheme in
    let bytes = c.args.bytes.now in
    let t = c.in_ok-self.field-0 in
    let told = c.in_ok-self.ensures in
    record {
      loads = told;
      one = one_answer m;
      scheme = refl {a = c.args.self.now.scheme};
      steady = steady_kept m t (steady_said m bytes t told.0 told.1);
      kept = steady_said m bytes t told.0 told.1;
      saved = says_saved bytes t told.0;
      secure = secure m (g.met.S.Scheme.lawful c.args.self.now.scheme) t (said_loaded m bytes t told.0 told.1);
      faithful = faithful m (g.met.S.Scheme.lawful c.args.self.now.scheme) t (said_loaded m bytes t told.0 told.1);
    }

pub returns-in_err-self-clause-one : goal.returns-in_err-self-clause-one
returns-in_err-self-clause-one g c = one_answer (g.S.Scheme.meaning c.args.self.now.scheme)

pub returns-in_err-self-clause-steady : goal.returns-in_err-self-clause-steady
returns-in_err-self-clause-steady g c = let m = g.S.Scheme.meaning c.args.self.now.scheme in steady_kept m c.blank-self.result (blank_kept m c.blank-self.result c.blank-self.ensures)

pub returns-in_err-self-clause-kept : goal.returns-in_err-self-clause-kept
returns-in_err-self-clause-kept g c = blank_kept (g.S.Scheme.meaning c.args.self.now.scheme) c.blank-self.result c.blank-self.ensures
