-- What a granted call sets, with the value that it changes in hand. Assumes nothing.
use Rattle.std.proofs.Common.{◌≡◌, ℕ, true, false, Some, Option, sym, refl, ap}
use Rattle.std.specs.Option.{option_map}
use Rattle.labels.specs.Meaning.{Meaning}
use Rattle.tables.specs.declared.types.User.{User}
use Rattle.tables.specs.declared.types.Object.{Object}
use Rattle.tables.specs.declared.types.Tables.{Tables}
use Rattle.tables.specs.State.{user, object, user_at, object_at, has_user, has_object, blank_user, blank_object}
use Rattle.tables.specs.Changes.{put_user, put_object, at_user, at_object, moved, relabelled, remixed, regranted, listing, unlisting}
use Rattle.tables.proofs.Puts.{filled}
use Rattle.calls.specs.declared.types.Call.{Call}
use Rattle.calls.specs.declared.types.Call.TheVariants.{Enter, Launch, Leave, Read, Write, Create, Delete, Move, Raise, Mix, Unmix, Rights, Allow, Bar}
use Rattle.calls.specs.Calls.{asks, AllFine}
use Rattle.calls.specs.Effects.{effect}

-- the tables with one object or user changed by f, where it is known to stand
abbrev object_by : Tables → ℕ → (Object → Object) → Tables
object_by t o f = put_object t o (Some (f (object t o)))

abbrev user_by : Tables → ℕ → (User → User) → Tables
user_by t u f = put_user t u (Some (f (user t u)))

-- the effect of a call, where what it changes is known to stand
abbrev pub outcome : Tables → Call → Tables
outcome t (Enter u n l) = effect t (Enter u n l)
outcome t (Launch s o n l) = effect t (Launch s o n l)
outcome t (Leave s) = effect t (Leave s)
outcome t (Read s o) = t
outcome t (Write s o) = t
outcome t (Create s p n kind l) = effect t (Create s p n kind l)
outcome t (Delete s o) = effect t (Delete s o)
outcome t (Move s o q) = object_by t o (moved q)
outcome t (Raise s o l) = object_by t o (relabelled l)
outcome t (Mix s o) = object_by t o (remixed true)
outcome t (Unmix s o) = object_by t o (remixed false)
outcome t (Rights s o u mask) = object_by t o (regranted u (record { 0 = mask }))
outcome t (Allow s u o) = user_by t u (listing o)
outcome t (Bar s u o) = user_by t u (unlisting o)

object_stands : (t : Tables) (o : ℕ) (f : Object → Object) → has_object t o ≡ true → object_by t o f ≡ at_object t o f
object_stands t o f h = ap (λ (v : Option Object). put_object t o (option_map f v)) (sym (filled (object_at t o) blank_object h))

user_stands : (t : Tables) (u : ℕ) (f : User → User) → has_user t u ≡ true → user_by t u f ≡ at_user t u f
user_stands t u f h = ap (λ (v : Option User). put_user t u (option_map f v)) (sym (filled (user_at t u) blank_user h))

-- for a granted call that is the effect
pub outcome_effect : (m : Meaning) (t : Tables) (c : Call) → AllFine (asks m t c) → outcome t c ≡ effect t c
outcome_effect m t (Enter u n l) fine = refl
outcome_effect m t (Launch s o n l) fine = refl
outcome_effect m t (Leave s) fine = refl
outcome_effect m t (Read s o) fine = refl
outcome_effect m t (Write s o) fine = refl
outcome_effect m t (Create s p n kind l) fine = refl
outcome_effect m t (Delete s o) fine = refl
outcome_effect m t (Move s o q) fine = object_stands t o (moved q) fine.1.0
outcome_effect m t (Raise s o l) fine = object_stands t o (relabelled l) fine.1.0
outcome_effect m t (Mix s o) fine = object_stands t o (remixed true) fine.1.0
outcome_effect m t (Unmix s o) fine = object_stands t o (remixed false) fine.1.0
outcome_effect m t (Rights s o u mask) fine = object_stands t o (regranted u (record { 0 = mask })) fine.1.0
outcome_effect m t (Allow s u o) fine = user_stands t u (listing o) fine.1.0
outcome_effect m t (Bar s u o) fine = user_stands t u (unlisting o) fine.1.0
