-- What the private functions of the reader promise: each call is read as some of five arguments, four bytes and then a label. Assumes nothing.
use Rattle.std.specs.Prelude.{◌≡◌, ℕ, ◌+◌, ◌*◌, ◌/◌, ◌%◌, Bool, true, false, cond, List, [], ◌∷◌, ◌==◌, slice_index, slice_index_or}
use Rattle.byte_cursor.specs.declared.cursors.Cursor.{Cursor}
use Rattle.byte_cursor.specs.Bytes.{Took, Field}
use Rattle.calls.specs.declared.types.Call.{Call}
use Rattle.calls.specs.declared.types.Call.TheVariants.{Enter, Launch, Leave, Read, Write, Create, Delete, Move, Raise, Mix, Unmix, Rights, Allow, Bar}
use Rattle.stream.specs.declared.reads.Arguments.{Arguments}
use Rattle.stream.specs.Forms.{odd}

-- the widths of the five arguments
abbrev pub five : List ℕ
five = 1 ∷ 1 ∷ 1 ∷ 1 ∷ 8 ∷ []

abbrev pub listed : Arguments → List ℕ
listed p = p.first ∷ p.second ∷ p.third ∷ p.fourth ∷ p.label ∷ []

-- which of the five arguments the calls with a number have
abbrev pub kept : ℕ → List Bool
kept k =
    let one = true ∷ false ∷ false ∷ false ∷ false ∷ [] in
    let two = true ∷ true ∷ false ∷ false ∷ false ∷ [] in
    let three = true ∷ true ∷ true ∷ false ∷ false ∷ [] in
    let four = true ∷ true ∷ true ∷ true ∷ false ∷ [] in
    let two-label = true ∷ true ∷ false ∷ false ∷ true ∷ [] in
    let three-label = true ∷ true ∷ true ∷ false ∷ true ∷ [] in
    let four-label = true ∷ true ∷ true ∷ true ∷ true ∷ [] in
    slice_index_or ([] ∷ two-label ∷ three-label ∷ one ∷ two ∷ two ∷ four-label ∷ two ∷ three ∷ two-label ∷ two ∷ two ∷ four ∷ three ∷ three ∷ []) k []

-- the items that are kept
abbrev pub pick : List Bool → List ℕ → List ℕ
pick [] us = []
pick (k ∷ ks) [] = []
pick (true ∷ ks) (u ∷ us) = u ∷ pick ks us
pick (false ∷ ks) (u ∷ us) = pick ks us

-- the map over all items, from the map over those that are kept
abbrev pub spread_map : List Bool → ℕ → ℕ
spread_map [] bits = 0
spread_map (true ∷ ks) bits = bits % 2 + 2 * spread_map ks (bits / 2)
spread_map (false ∷ ks) bits = 2 * spread_map ks bits

-- the call with the number k whose arguments are among the five: one without a label, and any
abbrev pub byte_call_of : ℕ → List ℕ → Call
byte_call_of k ps =
    let a = slice_index ps 0 in
    let b = slice_index ps 1 in
    let c = slice_index ps 2 in
    let d = slice_index ps 3 in
    let z = Bar a b c in
    slice_index_or (z ∷ z ∷ z ∷ Leave a ∷ Read a b ∷ Write a b ∷ z ∷ Delete a b ∷ Move a b c ∷ z ∷ Mix a b ∷ Unmix a b ∷ Rights a b c d ∷ Allow a b c ∷ []) k z

abbrev pub call_of : ℕ → List ℕ → Call
call_of k ps =
    let a = slice_index ps 0 in
    let b = slice_index ps 1 in
    let c = slice_index ps 2 in
    let d = slice_index ps 3 in
    let l = slice_index ps 4 in
    cond (k == 1) (Enter a b l) (cond (k == 2) (Launch a b c l) (cond (k == 6) (Create a b c d l) (cond (k == 9) (Raise a b l) (byte_call_of k ps))))

-- the arguments vs in the map were read one after another from a to b, those with a bit in the map; each other is 0
abbrev pub Reads : ℕ → List ℕ → List ℕ → Cursor → Cursor → Type 0
Reads bits [] [] a b = Took a b [] × (b.first ≡ a.first)
Reads bits [] (v ∷ vs) a b = ⊥
Reads bits (w ∷ ws) [] a b = ⊥
Reads bits (w ∷ ws) (v ∷ vs) a c = (b : Cursor) × Field w (odd bits) a b v × Reads (bits / 2) ws vs b c
