-- One run of bytes after another, in each sink.
use Rattle.std.proofs.Common.{◌≡◌, ℕ, ◌+◌, ◌-◌, ◌≤◌, List, [], ◌++◌, length, take, drop, sym, refl, ap, ◌∙◌, append_assoc, add-zero, arith, length-append, length-drop, take-append-drop}
use borrow.Rule.Slice.PartMut.{put_mid}
use Rattle.std.proofs.lemmas.List.{drop-drop, length-take-le, take_at, drop_at}
use Rattle.saving.specs.declared.sinks.Writer.{Writer}
use Rattle.saving.specs.Saves.{wrote}
use Rattle.saving.specs.Writes.{Written}

pub wrote_none : (buf : List ℕ) (p : ℕ) → buf ≡ wrote buf p []
wrote_none buf p = sym (ap (λ k. take p buf ++ drop k buf) (add-zero p) ∙ take-append-drop p buf)

pub wrote_part : (buf : List ℕ) (p : ℕ) (xs ys : List ℕ) → ys ≡ xs → put_mid p (p + length xs - p) buf ys ≡ wrote buf p xs
wrote_part buf p xs ys e =
    let k : p + length xs - p ≡ length xs = omega arith in
    ap (λ l. take p buf ++ (l ++ drop (p + length xs - p) (drop p buf))) e ∙ ap (λ l. take p buf ++ (xs ++ l)) (drop-drop (p + length xs - p) p buf ∙ ap (λ n. drop (p + n) buf) k)

pub wrote_length : (buf : List ℕ) (p : ℕ) (xs : List ℕ) → p + length xs ≤ length buf → length (wrote buf p xs) ≡ length buf
wrote_length buf p xs h =
    let t : length (take p buf) ≡ p = length-take-le p buf (omega arith) in
    let d = length-drop (p + length xs) buf in
    simp length-append (omega arith)

pub wrote_more : (buf : List ℕ) (p : ℕ) (xs ys : List ℕ) → p + length xs ≤ length buf → wrote (wrote buf p xs) (p + length xs) ys ≡ wrote buf p (xs ++ ys)
wrote_more buf p xs ys h =
    let q = p + length xs in
    let buf₁ = wrote buf p xs in
    let t : length (take p buf) ≡ p = length-take-le p buf (omega arith) in
    let l : length (take p buf ++ xs) ≡ q = length-append (take p buf) xs ∙ ap (λ k. k + length xs) t in
    let r : buf₁ ≡ (take p buf ++ xs) ++ drop q buf = sym (append_assoc (take p buf) xs (drop q buf)) in
    let front : take q buf₁ ≡ take p buf ++ xs = ap (take q) r ∙ take_at (take p buf ++ xs) (drop q buf) q l in
    let back : drop q buf₁ ≡ drop q buf = ap (drop q) r ∙ drop_at (take p buf ++ xs) (drop q buf) q l in
    let n : q + length ys ≡ p + length (xs ++ ys) = let e = length-append xs ys in omega arith in
    let back₂ : drop (q + length ys) buf₁ ≡ drop (p + length (xs ++ ys)) buf = sym (drop-drop (length ys) q buf₁) ∙ ap (drop (length ys)) back ∙ drop-drop (length ys) q buf ∙ ap (λ k. drop k buf) n in
    (λ i. front i ++ (ys ++ back₂ i)) ∙ append_assoc (take p buf) xs (ys ++ drop (p + length (xs ++ ys)) buf) ∙ ap (λ l. take p buf ++ l) (sym (append_assoc xs ys (drop (p + length (xs ++ ys)) buf)))

pub written_none : (a : Writer) → Written a [] a
written_none a = record { held = refl; long = refl; bytes = λ _. wrote_none a.bytes.now a.place; place = λ _. omega arith }

pub written_more : (a b c : Writer) (xs ys : List ℕ) → Written a xs b → Written b ys c → Written a (xs ++ ys) c
written_more a b c xs ys p q =
    let e = length-append xs ys in
    let l = p.long in
    let first : a.place + length (xs ++ ys) ≤ length a.bytes.now → a.place + length xs ≤ length a.bytes.now = λ h. omega arith in
    let second : a.place + length (xs ++ ys) ≤ length a.bytes.now → b.place + length ys ≤ length b.bytes.now = λ h. let at = p.place (first h) in omega arith in
    record {
      held = q.held ∙ p.held;
      long = q.long ∙ p.long;
      bytes = λ h. q.bytes (second h) ∙ (λ i. wrote (p.bytes (first h) i) (p.place (first h) i) ys) ∙ wrote_more a.bytes.now a.place xs ys (first h);
      place = λ h. let s = p.place (first h) in let t = q.place (second h) in omega arith;
    }
