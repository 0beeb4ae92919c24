use Rattle.std.proofs.Common.{◌≡◌, ℕ, List, ◌++◌, length, drop, sym, ap, ◌∙◌, arith, eqb-true}
use borrow.Author.Tests.{both_ways}
use Rattle.std.proofs.lemmas.Slice.Eq.{slice_eq-Decides}
use Rattle.saving.specs.Saves.{saved}
use Rattle.listing.proofs.Saving.{read_whole}
use Rattle.listing.proofs.reports.saves_as.Goals as goal
use Rattle.listing.proofs.reports.saves_as.Goals.{in-Ok+then-n-bytes, in-Ok+else-n-bytes, in-Err}
use Rattle.std.proofs.lemmas.Bool.Decides.{Decides-eqb}

pub returns : goal.returns
returns c =
    let bytes = c.args.bytes.now in
    let s = saved c.args.guard.now.tables in
    let buf = c.as_mut_slice.result.now in
    let made = c.in_ok-buf.ensures in
    let held : length buf ≡ length bytes = c.as_mut_slice.ensures.len ∙ made.len in
    let items = c.in_ok-buf.buf.items in
    let v : buf ≡ items = c.as_mut_slice.ensures.value in
    elim c.match-save.branch [
      | in-Ok+then-n-bytes w ↦
          let told = w.in-Ok.ensures.saves in
          let n = w.in-Ok.n in
          let taken : n ≡ length bytes = w.if-n-bytes.true in
          let got : w.as_slice.result.now ≡ s =
          read_whole s items c.save.new.buf w.as_slice.result.now n c.in_ok-buf.buf.len told.all (ap length (sym v) ∙ held ∙ sym taken) (made.len ∙ sym taken)
          (told.there ∙ ap (λ (bs : List ℕ). s ++ drop n bs) v) w.as_slice.ensures.value in
          let same = slice_eq-Decides Decides-eqb _ _ _ w.eq.ensures in
          (λ t. sym got ∙ same.0 (sym w.result-is ∙ t), λ e. w.result-is ∙ same.1 (got ∙ e))
      | in-Ok+else-n-bytes w ↦
          let told = w.in-Ok.ensures.saves in
          (λ t. absurd (w.if-n-bytes.false (eqb-true _ _ (sym w.result-is ∙ t))), λ e. absurd (w.if-n-bytes.false (told.all ∙ ap length e)))
      | in-Err w ↦
          let told = w.in-Err.ensures.saves in
          (λ t. absurd (both_ways _ w.result-is t), λ e. let eq = ap length e in absurd (omega (arith, told.short)))
    ]
