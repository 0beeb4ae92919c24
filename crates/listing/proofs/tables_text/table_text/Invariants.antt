use Rattle.std.proofs.Common.{◌≡◌, ◌++◌, None, get_or, string_bytes}
use Rattle.listing.specs.Listed.{each, told}
use Rattle.listing.proofs.tables_text.table_text.Given as goal

abbrev pub invariant-loop-number : goal.invariant-loop-number
invariant-loop-number g l = string_bytes l.out ≡ l.title ++ each (λ n. told (g.T.Entry.line_of n) (get_or l.slots n None)) l.number
