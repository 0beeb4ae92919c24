-- Bytes that were saved into a buffer of just their length.
use Rattle.std.proofs.Common.{◌≡◌, ℕ, ◌≤◌, List, ◌++◌, length, take, drop, ap, ◌∙◌, append-nil, arith, drop_of_length-le, take_all}

-- the whole buffer is what was saved
pub whole : (s buf after : List ℕ) (n : ℕ) → length buf ≤ n → after ≡ s ++ drop n buf → after ≡ s
whole s buf after n h e = e ∙ ap (λ (bs : List ℕ). s ++ bs) (drop_of_length-le buf h) ∙ append-nil s

-- and so is what is read of it
pub read_whole : (s buf after got : List ℕ) (n len : ℕ) → n ≡ length s → length buf ≡ n → len ≡ n → after ≡ s ++ drop n buf → got ≡ take len (after ++ drop (length after) buf) → got ≡ s
read_whole s buf after got n len p q r e g =
    let is : after ≡ s = whole s buf after n (omega arith) e in
    let long : length buf ≤ length after = omega (arith, ap length is) in
    let short : length after ≤ len = omega (arith, ap length is) in
    g ∙ ap (λ (bs : List ℕ). take len (after ++ bs)) (drop_of_length-le buf long) ∙ ap (take len) (append-nil after) ∙ take_all len after short ∙ is
