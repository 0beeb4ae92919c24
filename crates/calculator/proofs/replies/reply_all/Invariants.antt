use Rattle.std.proofs.Common.{ℕ, List, ◌++◌, string_bytes}
use Rattle.std.specs.Slice.Iter.{split_inclusive_rest}
use Rattle.calculator.specs.Lines.{lines_of}
use Rattle.calculator.specs.Replies.{Replies}
use Rattle.calculator.proofs.replies.reply_all.Given as goal

-- what is replied to the lines that are left completes what is replied to all
abbrev pub invariant-loop-i : goal.invariant-loop-i
invariant-loop-i l =
    (out : List ℕ) → Replies l.i-iterator.count (lines_of (split_inclusive_rest l.i-iterator.iter)) out → Replies 0 (lines_of l.text) (string_bytes l.out ++ out)
