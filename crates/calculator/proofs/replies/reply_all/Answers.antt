use Rattle.std.proofs.Common.{ℕ, List, [], ◌∷◌, Bor, refl, eqb, rules, of_calls, sym, ap, ◌∙◌, subst, append-nil, ◌++◌, string_bytes}
use Rattle.std.proofs.lemmas.Fn.{always_returns_same}
use Rattle.std.proofs.lemmas.List.{nil_from_length}
use Rattle.std.specs.Slice.Iter.{split_inclusive_rest}
use Rattle.calculator.specs.Lines.{lines_of}
use Rattle.calculator.specs.Replies.{Replies}
use Rattle.calculator.proofs.Reading.{are_lines, first_line, replies_first, replies_after}
use Rattle.calculator.proofs.replies.reply_all.Goals as goal

pub loop-i-preserved : goal.loop-i-preserved
loop-i-preserved c out rs =
    let cut = c.in-Some.ensures.steps in
    let reply = string_bytes c.in_ok-reply.reply in
    let newline = (cut.0.1.2 (λ b. eqb b 10) (always_returns_same _ _ _ (λ a r f k. search (rules, of_calls)))).1 in
    let line = first_line (split_inclusive_rest c.loop-i.i-iterator.iter) c.in-Some.line.now (split_inclusive_rest c.next.new.self.iter) cut.0.1.0 cut.0.0 cut.0.1.1 cut.0.2 newline c.strip_suffix.result c.in-Some.line refl c.strip_suffix.ensures.cases in
    replies_after (string_bytes c.loop-i.out) reply out (lines_of c.args.text.now) c.in_ok-push_str.ensures.bytes c.as_str.ensures.value
    (c.loop-i.invariant (reply ++ out) (replies_first c.loop-i.i-iterator.count c.unwrap_or-line.result.now reply out (line ∙ ap (λ (l : Bor (List ℕ)). l.now ∷ lines_of (split_inclusive_rest c.next.new.self.iter)) (sym c.unwrap_or-line.ensures)) cut.1 cut.2 c.in_ok-reply.ensures rs))

pub returns : goal.returns
returns c =
    let none = nil_from_length (split_inclusive_rest c.loop-i.i-iterator.iter) c.in-None.ensures.steps.0.0 in
    (lines_of c.args.text.now, are_lines c.args.text.now, subst (Replies 0 (lines_of c.args.text.now)) (append-nil (string_bytes c.loop-i.out)) (c.loop-i.invariant [] (rw none refl)))
