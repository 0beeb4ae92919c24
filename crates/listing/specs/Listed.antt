-- What is printed of the tables: a line for each entry. Assumes nothing.
use Rattle.std.specs.Prelude.{ℕ, zero, suc, ◌+◌, cond, List, [], ◌∷◌, ◌++◌, Some, None, codes, decimal, Option, ◌==◌, slice_index_or}
use Rattle.labels.specs.Parts.{parts_of, notation}
use Rattle.tables.specs.declared.sets.Right.{Right}
use Rattle.tables.specs.declared.sets.Right.TheVariants as right
use Rattle.tables.specs.declared.sets.Rights.{Rights}
use Rattle.tables.specs.Sets.{has, bit_of}
use Rattle.tables.specs.declared.types.User.{User}
use Rattle.tables.specs.declared.types.Object.{Object}
use Rattle.tables.specs.declared.types.Tables.{Tables}
use Rattle.tables.specs.State.{user_at, group_at, object_at, no_rights}
use Rattle.listing.specs.Words.{word_of_kind, word_of_right}

-- the texts of the numbers below n, one behind another
unfoldable pub each : (ℕ → List ℕ) → ℕ → List ℕ
each f zero = []
each f (suc k) = each f k ++ f k

-- a label in the house notation
abbrev pub label_text : ℕ → List ℕ
label_text n = notation (parts_of n)

-- the numbers in a set, behind a title: nothing where the set is empty
abbrev pub member_text : ℕ → ℕ → List ℕ
member_text set k = cond (has set k) (codes " " ++ decimal k) []

abbrev pub members_text : List ℕ → ℕ → List ℕ
members_text title set = cond (set == 0) [] (title ++ each (member_text set) 64)

-- a word behind a text, with a comma between them where there is a text
abbrev pub comma : List ℕ → List ℕ → List ℕ
comma [] w = w
comma (x ∷ xs) w = (x ∷ xs) ++ (codes ", " ++ w)

-- a right of a set is named behind a text
abbrev pub naming : ℕ → List ℕ → Right → List ℕ
naming set text r = cond (has set (bit_of r)) (comma text (word_of_right r)) text

abbrev pub or_none : List ℕ → List ℕ
or_none [] = codes "no rights"
or_none (x ∷ xs) = x ∷ xs

-- the rights of a set in words
unfoldable pub text_of_rights : ℕ → List ℕ
text_of_rights set =
    or_none (naming set (naming set (naming set (naming set (naming set (naming set (naming set [] right.Read) right.Write) right.Create) right.Delete) right.ChangeRights) right.Execute) right.WriteAttributes)

-- the line of a user
abbrev pub line_of_user : ℕ → User → List ℕ
line_of_user n u =
    codes "user " ++ (decimal n ++ (cond u.admin (codes ", administrator") []
    ++ (members_text (codes ", groups") u.groups.0 ++ (members_text (codes ", allow list") u.allowed.0
    ++ (codes ", range " ++ (label_text u.floor ++ (codes " to " ++ (label_text u.top ++ codes "\n"))))))))

-- the line of a group
abbrev pub line_of_group : ℕ → Rights → List ℕ
line_of_group n role = codes "group " ++ (decimal n ++ (codes ": " ++ (text_of_rights role.0 ++ codes "\n")))

-- the rights of user u on an object: nothing where it has none
abbrev pub grant_text : List Rights → ℕ → List ℕ
grant_text sets u = cond ((slice_index_or sets u no_rights).0 == 0) [] (codes "; user " ++ (decimal u ++ (codes ": " ++ text_of_rights (slice_index_or sets u no_rights).0)))

abbrev pub indent : ℕ → List ℕ
indent depth = each (λ _. codes "  ") depth

-- what an object is: its number, kind, owner and label, and whether it is mixed
abbrev pub text_of_object : ℕ → Object → List ℕ
text_of_object n x =
    codes "object " ++ (decimal n ++ (codes ", " ++ (word_of_kind x.kind ++ (codes ", owner " ++ (decimal x.owner
    ++ (codes ", label " ++ (label_text x.label ++ cond x.mixed (codes ", mixed") [])))))))

-- the line of an object at a depth of the tree: its groups and the rights on it follow
abbrev pub line_of_object : ℕ → ℕ → Object → List ℕ
line_of_object depth n x =
    indent depth ++ (text_of_object n x ++ (members_text (codes ", groups") x.groups.0 ++ (each (grant_text x.rights) 16 ++ codes "\n")))

-- what is in a slot, told by f: nothing of an empty one
abbrev pub told : {A : Type 0} → (A → List ℕ) → Option A → List ℕ
told f None = []
told f (Some x) = f x

-- what is in a slot, if it is an object whose parent is n
abbrev pub child_under : ℕ → Option Object → Option Object
child_under n None = None
child_under n (Some x) = cond (x.parent == n) (Some x) None

-- object o, told by f, if its parent is n; object 0 is under nothing
abbrev pub under : Tables → ℕ → (ℕ → Object → List ℕ) → ℕ → List ℕ
under t n f o = cond (o == 0) [] (told (f o) (child_under n (object_at t o)))

-- an object and, under it, those whose parent it is, in ascending order and to a depth of so many more
unfoldable pub text_of_tree : Tables → ℕ → ℕ → ℕ → Object → List ℕ
text_of_tree t zero depth n x = line_of_object depth n x
text_of_tree t (suc more) depth n x = line_of_object depth n x ++ each (under t n (λ o y. text_of_tree t more (depth + 1) o y)) 64

-- the three tables
abbrev pub text_of_users : Tables → List ℕ
text_of_users t = codes "users:\n" ++ each (λ n. told (line_of_user n) (user_at t n)) 16

abbrev pub text_of_groups : Tables → List ℕ
text_of_groups t = codes "groups:\n" ++ each (λ n. told (line_of_group n) (group_at t n)) 16

-- objects are no deeper in a tree than they are many
abbrev pub text_of_objects : Tables → List ℕ
text_of_objects t = codes "objects:\n" ++ told (text_of_tree t 64 0 0) (object_at t 0)
