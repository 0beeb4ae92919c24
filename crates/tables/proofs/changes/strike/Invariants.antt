use Rattle.std.proofs.Common.{◌≡◌, ◌++◌, map, take, drop}
use Rattle.std.specs.Option.{option_map}
use Rattle.tables.specs.Changes.{unlisting}
use Rattle.tables.proofs.changes.strike.Given as goal

abbrev pub invariant-loop-place : goal.invariant-loop-place
invariant-loop-place l =
    l.users ≡ map (option_map (unlisting l.o)) (take l.place-index l.initial.users) ++ drop l.place-index l.initial.users
