use Rattle.std.proofs.Common.{◌≡◌, string_bytes}
use Rattle.listing.specs.Listed.{each, grant_text}
use Rattle.listing.proofs.lines.grants.Given as goal

abbrev pub invariant-loop-user : goal.invariant-loop-user
invariant-loop-user l = string_bytes l.out ≡ each (grant_text l.sets) l.user-counter
