use Rattle.std.proofs.Common.{◌≡◌, true, length, Ok, Err, ap, ◌∙◌, subst}
use Rattle.std.proofs.lemmas.Result.{IfOk-weaker}
use Rattle.labels.specs.Built.{house_of}
use Rattle.labels.specs.House.{house}
use Rattle.labels.specs.Meaning.{Meaning}
use Rattle.tables.specs.declared.types.Tables.{Tables}
use Rattle.monitor.specs.Loads.{Loads}
use Rattle.listing.specs.Reports.{listed}
use Rattle.listing.proofs.reports.report.Goals as goal

pub returns-in_ok-same-in-Ok : goal.returns-in_ok-same-in-Ok
returns-in_ok-same-in-Ok c =
    let bytes = c.args.bytes.now in
    let t = c.load.new.self.tables in
    let m : house_of c.new-guard.result.scheme ≡ house = ap house_of c.new-guard.ensures.scheme ∙ c.house_label.ensures.meaning in
    let loads = subst (λ (m : Meaning). Loads m bytes (Ok tt) t) m c.in-Ok.ensures.loads in
    let same : c.in_ok-same-in-Ok.same ≡ true = c.in_ok-same-in-Ok.ensures.1 c.in-Ok.ensures.saved in
    IfOk-weaker c.list.result _ _
    (λ s h. (Ok tt, t, loads, h ∙ ap (λ (u : Tables). listed u (length bytes) c.in_ok-same-in-Ok.same) c.tables.ensures ∙ ap (listed t (length bytes)) same))
    c.list.ensures

pub returns-in-Err : goal.returns-in-Err
returns-in-Err c =
    let bytes = c.args.bytes.now in
    let t = c.load.new.self.tables in
    let m : house_of c.new-guard.result.scheme ≡ house = ap house_of c.new-guard.ensures.scheme ∙ c.house_label.ensures.meaning in
    let loads = subst (λ (m : Meaning). Loads m bytes (Err c.in-Err.fault) t) m c.in-Err.ensures.loads in
    IfOk-weaker c.format.result _ _ (λ s h. (Err c.in-Err.fault, t, loads, h)) c.format.ensures.ok
