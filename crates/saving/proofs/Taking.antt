-- Bytes taken one run after another, by any sink.
use Rattle.std.proofs.Common.{◌≡◌, ℕ, List, ◌++◌, subst, append_assoc}
use Rattle.saving.specs.Takes.{Took}

module _ {S : Type 0} (puts : S → List ℕ → S → Type 0) where
  pub took_both : {b c d : S} (xs ys : List ℕ) → Took puts b xs c → Took puts c ys d → Took puts b (xs ++ ys) d
  took_both {b} {c} {d} xs ys p q a ws h = subst (λ l. puts a l d) (append_assoc ws xs ys) (q a (ws ++ xs) (p a ws h))

  pub took_as : {b c : S} (xs ys : List ℕ) → xs ≡ ys → Took puts b xs c → Took puts b ys c
  took_as {b} {c} xs ys e p a ws h = subst (λ l. puts a (ws ++ l) c) e (p a ws h)
