use Rattle.std.proofs.Common.{◌≡◌, ◌++◌, string_bytes}
use Rattle.listing.specs.Listed.{each, member_text}
use Rattle.listing.proofs.sets.members.Given as goal

abbrev pub invariant-loop-k : goal.invariant-loop-k
invariant-loop-k l = string_bytes l.out ≡ l.title ++ each (member_text l.set.0) l.k-counter
