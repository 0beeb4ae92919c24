use Rattle.std.proofs.Common.{◌≡◌, ℕ, ◌+◌, ◌<◌, List, ◌++◌, map, length, get_or, take, drop, set, Some, None, Option, sym, ap, ◌∙◌, arith}
use Rattle.std.proofs.lemmas.List.{get_or_default}
use Rattle.std.proofs.lemmas.List.Edits.{map_over_more}
use Rattle.std.specs.Option.{option_map}
use Rattle.tables.specs.declared.sets.ObjectSet.{ObjectSet}
use Rattle.tables.specs.Sets.{without_element}
use Rattle.tables.specs.declared.types.User.{User}
use Rattle.tables.specs.Changes.{unlisting}
use Rattle.tables.proofs.changes.strike.Goals as goal
use Rattle.tables.proofs.changes.strike.Goals.{in-Some, in_default}

-- one more slot is changed
over : (f : Option User → Option User) (xs ys : List (Option User)) (i : ℕ) (v : Option User) → i < length xs → i < length ys
    → ys ≡ map f (take i xs) ++ drop i xs → v ≡ f (get_or ys i None) → set ys i v ≡ map f (take (i + 1) xs) ++ drop (i + 1) xs
over f xs ys i v h k inv e = ap (set ys i) e ∙ map_over_more f xs ys i (get_or ys i None) h inv (get_or_default ys i None (get_or ys i None) k)

pub loop-place-preserved : goal.loop-place-preserved
loop-place-preserved c =
    let xs = c.args.users.now in
    let ys = c.loop-place.users in
    let i = c.loop-place.place-index in
    let f = option_map (unlisting c.args.o) in
    elim c.match-place.branch [
      | in-Some w ↦ (
          let x = w.in-Some.user in
          let off : w.remove.new.self ≡ record { 0 = without_element x.allowed.0 c.args.o } = λ k. record { 0 = w.remove.ensures.value k } in
          w.users-is ∙ over f xs ys i _ (omega arith) (omega arith) c.loop-place.invariant
          (ap (λ (s : ObjectSet). Some (record { admin = x.admin; groups = x.groups; allowed = s; floor = x.floor; top = x.top })) off ∙ sym (ap f w.in-Some.is)))
      | in_default w ↦ w.users-is ∙ over f xs ys i _ (omega arith) (omega arith) c.loop-place.invariant (w.in_default.is ∙ sym (ap f w.in_default.is))
    ]
