-- What each call sets once it is granted: what it names, and nothing else. Assumes nothing.
use Rattle.std.specs.Prelude.{ℕ, zero, suc, true, false, replicate, Some, None}
use Rattle.tables.specs.Kinds.{kind_of}
use Rattle.tables.specs.declared.types.Object.{Object}
use Rattle.tables.specs.declared.types.Tables.{Tables}
use Rattle.tables.specs.State.{subject, no_rights}
use Rattle.tables.specs.Changes.{put_subject, put_object, at_user, at_object, moved, relabelled, remixed, regranted, listing, unlisting, without_object}
use Rattle.calls.specs.declared.types.Call.{Call}
use Rattle.calls.specs.declared.types.Call.TheVariants.{Enter, Launch, Leave, Read, Write, Create, Delete, Move, Raise, Mix, Unmix, Rights, Allow, Bar}

-- the object that create makes for a user, under p, of kind k, labelled l: unmixed, with no groups or rights
abbrev pub created : ℕ → ℕ → ℕ → ℕ → Object
created u p k l = record { kind = kind_of k; parent = p; owner = u; label = l; mixed = false; groups = record { 0 = 0 }; rights = replicate 16 no_rights }

abbrev pub effect : Tables → Call → Tables
effect t (Enter u n l) = put_subject t n (Some (record { user = u; label = l; program = None }))
effect t (Launch s o n l) = put_subject t n (Some (record { user = (subject t s).user; label = l; program = Some o }))
effect t (Leave s) = put_subject t s None
effect t (Read s o) = t
effect t (Write s o) = t
effect t (Create s p n k l) = put_object t n (Some (created (subject t s).user p k l))
effect t (Delete s o) = without_object t o
effect t (Move s o q) = at_object t o (moved q)
effect t (Raise s o l) = at_object t o (relabelled l)
effect t (Mix s o) = at_object t o (remixed true)
effect t (Unmix s o) = at_object t o (remixed false)
effect t (Rights s o u mask) = at_object t o (regranted u (record { 0 = mask }))
effect t (Allow s u o) = at_user t u (listing o)
effect t (Bar s u o) = at_user t u (unlisting o)

-- the tables after a call that got this answer: a refused call changes nothing
abbrev pub after : Tables → Call → ℕ → Tables
after t c zero = effect t c
after t c (suc w) = t
