-- What `parse` reads, as what is written in decimal. Assumes nothing.
use Rattle.std.proofs.Common.{◌≡◌, ℕ, ◌^◌, ◌<◌, ◌⊎◌, List, length, get_or, Ok, Err, decimal, Option, Result, sym, ap, ◌∙◌, subst, inl, inr, arith, MatchOption}
use Rattle.std.specs.Result.{OkIff, result_ok}
use Rattle.std.specs.Str.Parse.{AllDigits, digits_value, ParsesUnsigned}
use Rattle.std.specs.Int.{IsInRange}
use Rattle.std.proofs.lemmas.Fmt.{decimal_digit, decimal_injective, digits_decimal, digits_value-decimal, decimal-digits_value, decimal_nonempty, first_decimal}
use Rattle.std.proofs.lemmas.Str.Parse.{IsNumeralModel, numerals_by_value, tells_digits, parse_plain, not_in_digits}
use Rattle.std.proofs.lemmas.Bool.{cases_eq, cases_lt}
use Rattle.notation.specs.Texts.{Lacks}

own : IsNumeralModel (AllDigits 10) (digits_value 10)
own = numerals_by_value (AllDigits 10) tells_digits

-- a byte that is no digit does not stand in a decimal
pub decimal_lacks : (c n : ℕ) → n < 2 ^ 64 → (IsInRange 48 57 c → ⊥) → Lacks c (decimal n)
decimal_lacks c n h other = not_in_digits own (decimal n) c (digits_decimal own n h) other

pub no_prefix : (n : ℕ) (bs : List ℕ) → n < 2 ^ 64 → bs ≡ decimal n → (get_or bs 0 0 ≡ 43) ⊎ ((1 < length bs) × (get_or bs 0 0 ≡ 48)) → ⊥
no_prefix n bs h e (inl plus) = decimal_lacks 43 n h (λ d. omega arith) 0 (decimal_nonempty n h) (ap (λ (ds : List ℕ). get_or ds 0 0) (sym e) ∙ plus)
no_prefix n bs h e (inr zero) = elim (cases_eq n 0) [
  | inl none ↦ (let one : length bs ≡ 1 = ap length (e ∙ ap decimal none ∙ decimal_digit 0 (omega arith)) in omega (arith, zero.0))
  | inr some ↦
      (let f : 48 < get_or (decimal n) 0 0 = first_decimal n (omega arith) h in
      let z : get_or (decimal n) 0 0 ≡ 48 = ap (λ (ds : List ℕ). get_or ds 0 0) (sym e) ∙ zero.1 in
      omega arith)
]

pub reads_number : {E : Type 0} (bs : List ℕ) (r : Result ℕ E) → ParsesUnsigned 64 10 bs r → ((get_or bs 0 0 ≡ 43) ⊎ ((1 < length bs) × (get_or bs 0 0 ≡ 48)) → ⊥)
    → MatchOption (result_ok r) ((n : ℕ) → n < 2 ^ 64 → bs ≡ decimal n → ⊥) (λ n. (n < 2 ^ 64) × (bs ≡ decimal n))
reads_number bs r reads plain =
    cases r (parse_plain own 64 bs r reads (λ p. plain (inl p)))
  where
    cases : {E : Type 0} (r : Result ℕ E) → OkIff r (AllDigits 10 bs × (0 < length bs) × (digits_value 10 bs < 2 ^ 64)) (digits_value 10 bs)
        → MatchOption (result_ok r) ((n : ℕ) → n < 2 ^ 64 → bs ≡ decimal n → ⊥) (λ n. (n < 2 ^ 64) × (bs ≡ decimal n))
    cases (Ok n) got =
        let back : decimal (digits_value 10 bs) ≡ bs = decimal-digits_value own bs got.0.0 got.0.1 (λ z. alone z) got.0.2 in
        (subst (λ (v : ℕ). v < 2 ^ 64) (sym got.1) got.0.2, sym back ∙ ap decimal (sym got.1))
      where
        alone : get_or bs 0 0 ≡ 48 → length bs ≡ 1
        alone z = let some : 0 < length bs = got.0.1 in elim (cases_lt 1 (length bs)) [ inl long ↦ absurd (plain (inr (long, z))) | inr short ↦ omega arith ]
    cases (Err d) got = λ n h e. got (
      subst (AllDigits 10) (sym e) (digits_decimal own n h),
      subst (λ (ds : List ℕ). 0 < length ds) (sym e) (decimal_nonempty n h),
      subst (λ (v : ℕ). v < 2 ^ 64) (sym (ap (digits_value 10) e ∙ digits_value-decimal own n h)) h,
    )

-- a number below 2^64, where it is one of 16 bits
pub part_of : {E : Type 0} (bs : List ℕ) (k : ℕ) (r : Result ℕ E) (o : Option ℕ) → o ≡ result_ok r → k < 2 ^ 64 → bs ≡ decimal k → OkIff r (k < 65536) k
    → MatchOption o ((n : ℕ) → n < 65536 → bs ≡ decimal n → ⊥) (λ n. (n < 65536) × (bs ≡ decimal n))
part_of bs k (Ok n) o is h e got = rw is (subst (λ (v : ℕ). v < 65536) (sym got.1) got.0, e ∙ ap decimal (sym got.1))
part_of bs k (Err d) o is h e got = rw is (λ n small f. got (let same = decimal_injective n k (omega arith) h (sym f ∙ e) in omega arith))
