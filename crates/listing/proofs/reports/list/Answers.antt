use Rattle.std.proofs.Common.{◌≡◌, ℕ, Bool, cond, List, ◌++◌, codes, decimal, sym, ap, ◌∙◌}
use Rattle.std.proofs.lemmas.Result.{IfOk-weaker}
use Rattle.listing.proofs.reports.list.Goals as goal
use Rattle.listing.proofs.reports.list.Goals.{then-same, else-same}

-- equal parts make equal texts
joined : (n : ℕ) (a b c d a' b' c' d' : List ℕ) → a ≡ a' → b ≡ b' → c ≡ c' → d ≡ d'
    → a ++ (b ++ (c ++ (decimal n ++ (codes " bytes, saved as " ++ (d ++ codes " bytes\n"))))) ≡ a' ++ (b' ++ (c' ++ (decimal n ++ (codes " bytes, saved as " ++ (d' ++ codes " bytes\n")))))
joined n a b c d a' b' c' d' p q r s = cc

pub returns : goal.returns
returns c =
    let said : Bool → List ℕ = λ b. cond b (codes "the same") (codes "OTHER") in
    let m : c.if-same.which.now ≡ said c.args.same =
    elim c.if-same.branch [ then-same w ↦ ap (λ x. x.now) w.which-is ∙ sym (ap said w.if-same.true) | else-same w ↦ ap (λ x. x.now) w.which-is ∙ sym (ap said w.if-same.false) ] in
    IfOk-weaker c.format.result _ _
    (λ s h. h ∙ joined c.args.count _ _ _ _ _ _ _ _ c.in_ok-users.ensures c.in_ok-groups.ensures c.in_ok-objects.ensures m)
    c.format.ensures.ok
