use Rattle.std.proofs.Common.{◌≡◌, [], drop, string_bytes}
use Rattle.listing.proofs.Naming.{named, rights}
use Rattle.listing.proofs.sets.rights_text.Given as goal

-- the rights that are left complete the text
abbrev pub invariant-loop-right : goal.invariant-loop-right
invariant-loop-right l = named l.set.0 (drop l.right-index rights) (string_bytes l.out) ≡ named l.set.0 rights []
