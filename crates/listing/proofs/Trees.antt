-- An object of the tree, and those under it.
use Rattle.std.proofs.Common.{◌≡◌, ℕ, suc, ◌+◌, ◌-◌, ◌<◌, ◌≤◌, Bool, cond, List, [], ◌++◌, Some, None, sym, ap, ◌∙◌, arith, ne_eqb}
use Rattle.tables.specs.declared.types.Object.{Object}
use Rattle.tables.specs.declared.types.Tables.{Tables}
use Rattle.tables.specs.State.{object_at}
use Rattle.listing.specs.Listed.{each, told, child_under, line_of_object, under, text_of_tree}

past_root : (t : Tables) (n : ℕ) (f : ℕ → Object → List ℕ) (o : ℕ) → 0 < o → under t n f o ≡ told (f o) (child_under n (object_at t o))
past_root t n f o h = ap (λ (b : Bool). cond b [] (told (f o) (child_under n (object_at t o)))) (ne_eqb o 0 (λ e. omega arith))

pub under_some : (t : Tables) (n : ℕ) (f : ℕ → Object → List ℕ) (o : ℕ) (y : Object) → 0 < o → child_under n (object_at t o) ≡ Some y → under t n f o ≡ f o y
under_some t n f o y h child = past_root t n f o h ∙ ap (told (f o)) child

pub under_none : (t : Tables) (n : ℕ) (f : ℕ → Object → List ℕ) (o : ℕ) → 0 < o → child_under n (object_at t o) ≡ None → under t n f o ≡ []
under_none t n f o h child = past_root t n f o h ∙ ap (told (f o)) child

pub tree_leaf : (t : Tables) (d n : ℕ) (x : Object) (out : List ℕ) → 64 ≤ d → out ≡ line_of_object d n x → out ≡ text_of_tree t (64 - d) d n x
unfolding text_of_tree
tree_leaf t d n x out h e =
    let z : 64 - d ≡ 0 = omega arith in
    e ∙ sym (ap (λ (k : ℕ). text_of_tree t k d n x) z)

pub tree_node : (t : Tables) (d n : ℕ) (x : Object) (out : List ℕ) → d < 64 → out ≡ line_of_object d n x ++ each (under t n (λ o y. text_of_tree t (63 - d) (d + 1) o y)) 64 → out ≡ text_of_tree t (64 - d) d n x
unfolding text_of_tree
tree_node t d n x out h e =
    let z : 64 - d ≡ suc (63 - d) = omega arith in
    e ∙ sym (ap (λ (k : ℕ). text_of_tree t k d n x) z)

-- one level further down
pub tree_next : (t : Tables) (d o : ℕ) (y : Object) → d < 64 → text_of_tree t (63 - d) (d + 1) o y ≡ text_of_tree t (64 - (d + 1)) (d + 1) o y
tree_next t d o y h =
    let z : 63 - d ≡ 64 - (d + 1) = omega arith in
    ap (λ (k : ℕ). text_of_tree t k (d + 1) o y) z
