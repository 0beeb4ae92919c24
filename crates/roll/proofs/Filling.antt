-- Slots that are filled one after another, and read again in order. Assumes nothing.
use Rattle.std.proofs.Common.{◌≡◌, ℕ, zero, suc, ◌+◌, ◌-◌, ◌<◌, ◌≤◌, ◌≢◌, List, [], ◌∷◌, length, get_or, drop, set, Some, None, Option, sym, refl, ap, ◌∙◌, subst, arith, length-set, drop-cons, get_or-set_other, get_or-set_same}
use Rattle.records.specs.declared.forms.Record.{Record}
use Rattle.roll.specs.Slots.{slots}

module _ {A : Type 0} where
  -- a value for each of some numbers is put into its slot
  abbrev pub puts : List (Option A) → List (ℕ × A) → List (Option A)
  puts l [] = l
  puts l (p ∷ ps) = puts (set l p.0 (Some p.1)) ps

  -- the numbers ascend from m on
  abbrev pub Ascend : ℕ → List (ℕ × A) → Type 0
  Ascend m [] = Unit {0}
  Ascend m (p ∷ ps) = (m ≤ p.0) × Ascend (suc p.0) ps

  -- and are below k
  abbrev pub Within : ℕ → List (ℕ × A) → Type 0
  Within k [] = Unit {0}
  Within k (p ∷ ps) = (p.0 < k) × Within k ps

  pub length_puts : (l : List (Option A)) (ps : List (ℕ × A)) → length (puts l ps) ≡ length l
  length_puts l [] = refl
  length_puts l (p ∷ ps) = length_puts (set l p.0 (Some p.1)) ps ∙ length-set l p.0 (Some p.1)

  -- a slot below them all stays
  puts_below : (l : List (Option A)) (ps : List (ℕ × A)) (m j : ℕ) → Ascend m ps → j < m → get_or (puts l ps) j None ≡ get_or l j None
  puts_below l [] m j h lt = refl
  puts_below l (p ∷ ps) m j h lt =
      let up : m ≤ p.0 = h.0 in
      puts_below (set l p.0 (Some p.1)) ps (suc p.0) j h.1 (omega arith)
      ∙ (let ne : j ≢ p.0 = omega arith in get_or-set_other l p.0 j (Some p.1) None ne)

  -- empty slots are passed over
  skip : (record_at : ℕ → A → Record) (l : List (Option A)) (d m : ℕ) → m + d ≤ length l → ((j : ℕ) → m ≤ j → j < m + d → get_or l j None ≡ None)
      → slots record_at m (drop m l) ≡ slots record_at (m + d) (drop (m + d) l)
  skip record_at l zero m h none = let e : m ≡ m + 0 = omega arith in ap (λ (k : ℕ). slots record_at k (drop k l)) e
  skip record_at l (suc d) m h none =
      let here : drop m l ≡ None ∷ drop (suc m) l = drop-cons l m None (omega arith) ∙ ap (λ (o : Option A). o ∷ drop (suc m) l) (none m (omega arith) (omega arith)) in
      let e : suc m + d ≡ m + suc d = omega arith in
      ap (slots record_at m) here
      ∙ skip record_at l d (suc m) (omega arith) (λ j a b. none j (omega arith) (omega arith))
      ∙ ap (λ (k : ℕ). slots record_at k (drop k l)) e

  slots_empty : (record_at : ℕ → A → Record) (m : ℕ) (l : List (Option A)) → ((j : ℕ) → get_or l j None ≡ None) → slots record_at m l ≡ []
  slots_empty record_at m [] none = refl
  slots_empty record_at m (None ∷ l) none = slots_empty record_at (suc m) l (λ j. none (suc j))
  slots_empty record_at m (Some x ∷ l) none = let z : ◌≡◌ {A = Option A} (Some x) None = none 0 in absurd (some_none z)
    where
      some_none : {x : A} → ◌≡◌ {A = Option A} (Some x) None → ⊥
      some_none z = let q : ◌≡◌ {A = ℕ} 0 1 = cc in omega arith

  index_dropped : (m : ℕ) (l : List (Option A)) (j : ℕ) → get_or (drop m l) j None ≡ get_or l (m + j) None
  index_dropped zero l j = let e : j ≡ 0 + j = omega arith in ap (λ (k : ℕ). get_or l k None) e
  index_dropped (suc m) [] j = refl
  index_dropped (suc m) (x ∷ l) j = index_dropped m l j ∙ (let e : suc (m + j) ≡ suc m + j = omega arith in ap (λ (k : ℕ). get_or (x ∷ l) k None) e)

  abbrev pub records_at : (ℕ → A → Record) → List (ℕ × A) → List Record
  records_at record_at [] = []
  records_at record_at (p ∷ ps) = record_at p.0 p.1 ∷ records_at record_at ps

  -- what was put in ascending order is read in that order
  pub read_back : (record_at : ℕ → A → Record) (l : List (Option A)) (m : ℕ) (ps : List (ℕ × A)) → Ascend m ps → Within (length l) ps
      → ((j : ℕ) → m ≤ j → get_or l j None ≡ None) → slots record_at m (drop m (puts l ps)) ≡ records_at record_at ps
  read_back record_at l m [] up within none =
      slots_empty record_at m (drop m l) (λ j. index_dropped m l j ∙ none (m + j) (omega arith))
  read_back record_at l m (p ∷ ps) up within none =
      let n = p.0 in
      let l' : List (Option A) = set l n (Some p.1) in
      let all : List (Option A) = puts l' ps in
      let long : length all ≡ length l = length_puts l' ps ∙ length-set l n (Some p.1) in
      let room : n < length l = within.0 in
      let low : m ≤ n = up.0 in
      let gap : (j : ℕ) → m ≤ j → j < m + (n - m) → get_or all j None ≡ None
      = λ j a b.
      let ne : j ≢ n = omega arith in
      puts_below l' ps (suc n) j up.1 (omega arith) ∙ get_or-set_other l n j (Some p.1) None ne ∙ none j a in
      let there : get_or all n None ≡ Some p.1 = puts_below l' ps (suc n) n up.1 (omega arith) ∙ get_or-set_same l n (Some p.1) None room in
      let e : m + (n - m) ≡ n = omega arith in
      let rest : slots record_at (suc n) (drop (suc n) all) ≡ records_at record_at ps
      = read_back record_at l' (suc n) ps up.1 (subst (λ (k : ℕ). Within k ps) (sym (length-set l n (Some p.1))) within.1)
      (λ j a. let ne : j ≢ n = omega arith in get_or-set_other l n j (Some p.1) None ne ∙ none j (omega arith)) in
      skip record_at all (n - m) m (omega arith) gap
      ∙ ap (λ (k : ℕ). slots record_at k (drop k all)) e
      ∙ ap (slots record_at n) (drop-cons all n None (omega arith) ∙ ap (λ (o : Option A). o ∷ drop (suc n) all) there)
      ∙ ap (λ (rs : List Record). record_at n p.1 ∷ rs) rest
