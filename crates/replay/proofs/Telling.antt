-- The answers one after another, the line of a case, and the lines of all. Assumes nothing.
use Rattle.std.proofs.Common.{◌≡◌, ℕ, suc, ◌+◌, ◌<◌, List, [], ◌∷◌, ◌++◌, length, get_or, take, drop, sym, ap, ◌∙◌, append_assoc, append-nil, arith, codes, decimal, take-suc, take_at, subst, Ok, Err, Result}
use Rattle.std.specs.Result.{MatchResult}
use Rattle.hex.specs.Hex.{encode_lower}
use Rattle.byte_cursor.specs.declared.cursors.Cursor.{Cursor}
use Rattle.byte_cursor.specs.Bytes.{left, Took}
use Rattle.saving.specs.Saves.{Stored, Refused}
use Rattle.saving.specs.declared.saves.NoRoom.{NoRoom}
use Rattle.session.specs.Sessions.{End}
use Rattle.replay.specs.Cases.{answers_text, end_text, written, Told, label_of, Replayed, one}

-- one more answer at the end
answers_snoc : (xs : List ℕ) (a : ℕ) → answers_text (xs ++ a ∷ []) ≡ answers_text xs ++ (decimal a ++ codes " ")
answers_snoc [] a = append-nil (decimal a ++ codes " ")
answers_snoc (x ∷ xs) a =
    ap (λ (l : List ℕ). (decimal x ++ codes " ") ++ l) (answers_snoc xs a) ∙ sym (append_assoc (decimal x ++ codes " ") (answers_text xs) (decimal a ++ codes " "))

pub stepped : (l : List ℕ) (k : ℕ) (out more : List ℕ) → k < length l → out ≡ answers_text (take k l) → more ≡ out ++ (decimal (get_or l k 0) ++ codes " ") → more ≡ answers_text (take (k + 1) l)
stepped l k out more h sofar e =
    let s : suc k ≡ k + 1 = omega arith in
    e ∙ ap (λ (a : List ℕ). a ++ (decimal (get_or l k 0) ++ codes " ")) sofar ∙ sym (answers_snoc (take k l) (get_or l k 0)) ∙ ap answers_text (sym (take-suc l k 0 h)) ∙ ap (λ (n : ℕ). answers_text (take n l)) s

-- what was stored stands in front
pub in_front : {bytes before after : List ℕ} {n : ℕ} → Stored bytes before after n → take n after ≡ bytes
in_front {bytes} {before} {after} {n} s = ap (take n) s.there ∙ take_at bytes (drop n before) n (sym s.all)

-- one case more is told
pub further : {cases : List ℕ} (out more line : List ℕ) (label : ℕ) (roll calls : List ℕ) {a b : Cursor} → Took a b (written label roll calls) → Told (label_of label) roll calls line
    → ((more : List ℕ) → Replayed (left a) more → Replayed cases (out ++ more)) → Replayed (left b) more → Replayed cases ((out ++ line) ++ more)
further {cases} out more line label roll calls {a} {b} t told sofar r =
    subst (Replayed cases) (sym (append_assoc out line more))
    (sofar (line ++ more) (subst (λ (bs : List ℕ). Replayed bs (line ++ more)) (sym t.split) (one label roll calls (left b) line more told r)))

-- the parts of a line make it
pub line_of : {a e s out : List ℕ} (known : List ℕ) (end : End) (bytes : List ℕ) → a ≡ answers_text known → e ≡ end_text end → s ≡ encode_lower bytes
    → out ≡ a ++ (e ++ (codes " " ++ (s ++ codes "\n"))) → out ≡ answers_text known ++ (end_text end ++ (codes " " ++ (encode_lower bytes ++ codes "\n")))
line_of known end bytes is_a is_e is_s o = rw (is_a, is_e, is_s) at o

-- a buffer as long as what is saved has room
pub saved_all : (bytes before after : List ℕ) (n : ℕ) (r : Result ℕ NoRoom) → length before ≡ length bytes → MatchResult r (Stored bytes before after) (λ e. Refused bytes before after) → MatchResult r (λ v. n ≡ v) (λ e. n ≡ 0) → take n after ≡ bytes
saved_all bytes before after n (Ok v) long s e = rw e (in_front s)
saved_all bytes before after n (Err x) long s e = absurd (let h = s.short in omega (arith, h, long))
