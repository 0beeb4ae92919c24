-- The order of places is that of the statement's ranks.
use Rattle.std.proofs.Common.{◌≡◌, ℕ, ◌+◌, ◌<◌, ◌≤◌, true, false, Some, None, Option, sym, refl, ap, ◌∙◌, subst, arith}
use Rattle.std.specs.Ordering.{nat_cmp, is_le, partial_le, MatchOrdering}
use Rattle.std.specs.Option.{option_partial_cmp}
use Rattle.std.specs.Cmp.{ranked}
use Rattle.std.specs.declared.cmp.Ordering.{Ordering}
use Rattle.std.specs.declared.cmp.Ordering.TheVariants.{Less, Equal, Greater}
use Rattle.records.specs.declared.forms.Record.{Record}
use Rattle.records.specs.declared.forms.Record.TheVariants as record_of
use Rattle.records.specs.Records.{InForm}
use Rattle.roll.specs.declared.places.Place.{Place}
use Rattle.roll.specs.declared.places.Place.TheVariants.{User, Group, Object}
use Rattle.roll.specs.contracts.places.PlacePartialOrd.TheImpl as order
use Rattle.roll.specs.Rolls.{rank_of}
use Rattle.roll.specs.Places.{place_of}

abbrev pub places_cmp : Place → Place → Option Ordering
places_cmp = (order.ghosts).partial_cmp

abbrev pub rank_in : Place → ℕ
rank_in (User n) = 256 + n
rank_in (Group n) = 512 + n
rank_in (Object n) = 768 + n

-- the number is a byte
abbrev pub Small : Place → Type 0
Small (User n) = n < 256
Small (Group n) = n < 256
Small (Object n) = n < 256

greater : (k l : ℕ) (r : Ordering) → MatchOrdering r (k < l) (k ≡ l) (l < k) → is_le r ≡ false → l < k
greater k l Less m e = cc
greater k l Equal m e = cc
greater k l Greater m e = m

at_most : (k l : ℕ) (r : Ordering) → MatchOrdering r (k < l) (k ≡ l) (l < k) → is_le r ≡ true → k ≤ l
at_most k l Less m e = omega arith
at_most k l Equal m e = omega arith
at_most k l Greater m e = cc

above_place : (p q : Place) → Small p → Small q → partial_le places_cmp p q ≡ false → rank_in q < rank_in p
above_place (User n) (User m) a b h = omega (arith, greater n m (nat_cmp n m) (ranked n m _ refl) h)
above_place (Group n) (Group m) a b h = omega (arith, greater n m (nat_cmp n m) (ranked n m _ refl) h)
above_place (Object n) (Object m) a b h = omega (arith, greater n m (nat_cmp n m) (ranked n m _ refl) h)
above_place (User n) (Group m) a b h = cc
above_place (User n) (Object m) a b h = cc
above_place (Group n) (Object m) a b h = cc
above_place (Group n) (User m) a b h = omega arith
above_place (Object n) (User m) a b h = omega arith
above_place (Object n) (Group m) a b h = omega arith

at_most_place : (p q : Place) → Small p → Small q → partial_le places_cmp p q ≡ true → rank_in p ≤ rank_in q
at_most_place (User n) (User m) a b h = omega (arith, at_most n m (nat_cmp n m) (ranked n m _ refl) h)
at_most_place (Group n) (Group m) a b h = omega (arith, at_most n m (nat_cmp n m) (ranked n m _ refl) h)
at_most_place (Object n) (Object m) a b h = omega (arith, at_most n m (nat_cmp n m) (ranked n m _ refl) h)
at_most_place (User n) (Group m) a b h = omega arith
at_most_place (User n) (Object m) a b h = omega arith
at_most_place (Group n) (Object m) a b h = omega arith
at_most_place (Group n) (User m) a b h = cc
at_most_place (Object n) (User m) a b h = cc
at_most_place (Object n) (Group m) a b h = cc

some_rank : (p : Place) → 0 < rank_in p
some_rank (User n) = omega arith
some_rank (Group n) = omega arith
some_rank (Object n) = omega arith

place_rank : (x : Record) → rank_in (place_of x) ≡ rank_of x
place_rank (record_of.User u) = refl
place_rank (record_of.Group g) = refl
place_rank (record_of.Object o) = refl

place_small : (x : Record) → InForm x → Small (place_of x)
place_small (record_of.User u) f = omega (arith, f.1)
place_small (record_of.Group g) f = omega (arith, f.1)
place_small (record_of.Object o) f = omega (arith, f.1)

-- the rank of the last place, 0 where there is none
abbrev pub last_rank : Option Place → ℕ
last_rank None = 0
last_rank (Some p) = rank_in p

abbrev pub LastSmall : Option Place → Type 0
LastSmall None = Unit {0}
LastSmall (Some p) = Small p

-- the place p of a record in form
module _ (x : Record) (f : InForm x) {p : Place} (is : p ≡ place_of x) where
  pub placed : rank_in p ≡ rank_of x
  placed = ap rank_in is ∙ place_rank x

  pub small : Small p
  small = subst Small (sym is) (place_small x f)

  pub above : (last : Option Place) → LastSmall last → partial_le (option_partial_cmp places_cmp) (Some p) last ≡ false → last_rank last < rank_of x
  above None s h = omega (arith, some_rank p, placed)
  above (Some q) s h = omega (arith, above_place p q small s h, placed)

  pub behind : (last : Option Place) → LastSmall last → partial_le (option_partial_cmp places_cmp) (Some p) last ≡ true → rank_of x ≤ last_rank last
  behind None s h = cc
  behind (Some q) s h = omega (arith, at_most_place p q small s h, placed)
