use Rattle.std.proofs.Common.{◌≡◌, ◌+◌, ◌-◌, ◌++◌, string_bytes}
use Rattle.listing.specs.Listed.{each, line_of_object, under, text_of_tree}
use Rattle.listing.proofs.tables_text.+tree_text.Given as goal

abbrev pub decreases-tree_text : goal.decreases-tree_text
decreases-tree_text l = 64 - l.depth

abbrev pub invariant-loop-o : goal.invariant-loop-o
invariant-loop-o l =
    string_bytes l.out
    ≡ line_of_object l.depth l.number l.object ++ each (under l.t l.number (λ o y. text_of_tree l.t (63 - l.depth) (l.depth + 1) o y)) l.o
