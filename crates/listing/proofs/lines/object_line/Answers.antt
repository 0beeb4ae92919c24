use Rattle.std.proofs.Common.{◌≡◌, ℕ, List, ◌++◌, codes, ap, ◌∙◌}
use Rattle.std.proofs.lemmas.Result.{IfOk-weaker}
use Rattle.std.specs.List.{repeat}
use Rattle.listing.proofs.Each.{each_repeated}
use Rattle.listing.proofs.lines.object_line.Goals as goal

-- equal parts make equal lines
joined : (a b c d a' b' c' d' : List ℕ) → a ≡ a' → b ≡ b' → c ≡ c' → d ≡ d' → a ++ (b ++ (c ++ (d ++ codes "\n"))) ≡ a' ++ (b' ++ (c' ++ (d' ++ codes "\n")))
joined a b c d a' b' c' d' p q r s = cc

pub returns : goal.returns
returns c =
    IfOk-weaker c.format.result _ _
    (λ s h. h ∙ joined _ _ _ _ _ _ _ _ (c.in_ok-space.ensures.bytes ∙ ap (λ (n : ℕ). repeat n (codes "  ")) c.from.ensures ∙ each_repeated (codes "  ") c.args.depth) c.in_ok-text.ensures c.in_ok-groups.ensures c.in_ok-rights.ensures)
    c.format.ensures.ok
