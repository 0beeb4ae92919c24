use Rattle.std.proofs.Common.{◌≡◌, ℕ, ◌+◌, ◌-◌, ◌<◌, List, ◌++◌, string_bytes, sym, refl, ap, ◌∙◌, arith, rules}
use Rattle.std.specs.Option.{option_map}
use Rattle.tables.specs.declared.types.Object.{Object}
use Rattle.listing.specs.Listed.{each, line_of_object, under, text_of_tree}
use Rattle.listing.proofs.Each.{started, stepped, passed}
use Rattle.listing.proofs.Trees.{under_some, under_none, tree_leaf, tree_node, tree_next}
use Rattle.listing.proofs.tables_text.+tree_text.Goals as goal
use Rattle.listing.proofs.tables_text.+tree_text.Goals.{in-Some+in_ok-tree_text+in_ok-push_str, in_default, then-depth+else-loop-o-test, else-depth}

pub loop-o-init : goal.loop-o-init
loop-o-init t c =
    let line = line_of_object c.args.depth c.args.number c.args.object.now in
    let f : ℕ → List ℕ = under c.args.t.now c.args.number (λ o y. text_of_tree c.args.t.now (63 - c.args.depth) (c.args.depth + 1) o y) in
    passed line f 0 (string_bytes c.in_ok-out.out) (started line f (string_bytes c.in_ok-out.out) c.in_ok-out.ensures) refl

pub loop-o-preserved : goal.loop-o-preserved
loop-o-preserved t c =
    let line = line_of_object c.args.depth c.args.number c.args.object.now in
    let g : ℕ → Object → List ℕ = λ o y. text_of_tree c.args.t.now (63 - c.args.depth) (c.args.depth + 1) o y in
    let f : ℕ → List ℕ = under c.args.t.now c.args.number g in
    let o = c.loop-o.o in
    let past : 0 < o = omega arith in
    elim c.match-child_of.branch [
      | in-Some+in_ok-tree_text+in_ok-push_str w ↦
          let text = text_of_tree c.args.t.now (64 - (c.args.depth + 1)) (c.args.depth + 1) o w.in-Some.child.now in
          let child = sym c.child_of.ensures ∙ ap (option_map (λ x. x.now)) w.in-Some.is in
          stepped line f o (string_bytes c.loop-o.out) (string_bytes c.match-child_of.out) text c.loop-o.invariant
          (search rules)
          (under_some c.args.t.now c.args.number g o w.in-Some.child.now past child
          ∙ tree_next c.args.t.now c.args.depth o w.in-Some.child.now c.if-depth.true)
      | in_default w ↦
          let child = sym c.child_of.ensures ∙ ap (option_map (λ x. x.now)) w.in_default.is in
          ap string_bytes w.out-is ∙ passed line f o (string_bytes c.loop-o.out) c.loop-o.invariant (under_none c.args.t.now c.args.number g o past child)
    ]

pub returns : goal.returns
returns t c =
    let line = line_of_object c.args.depth c.args.number c.args.object.now in
    let f : ℕ → List ℕ = under c.args.t.now c.args.number (λ o y. text_of_tree c.args.t.now (63 - c.args.depth) (c.args.depth + 1) o y) in
    elim c.if-depth.branch [
      | then-depth+else-loop-o-test w ↦
          let all : w.loop-o.o ≡ 64 = omega arith in
          tree_node c.args.t.now c.args.depth c.args.number c.args.object.now (string_bytes c.if-depth.out) w.if-depth.true
          (ap string_bytes w.out-is ∙ w.loop-o.invariant ∙ ap (λ (k : ℕ). line ++ each f k) all)
      | else-depth w ↦
          tree_leaf c.args.t.now c.args.depth c.args.number c.args.object.now (string_bytes c.if-depth.out) w.if-depth.false
          (ap string_bytes w.out-is ∙ c.in_ok-out.ensures)
    ]
