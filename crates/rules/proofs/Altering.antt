-- Who may alter what: the answer, from the parties and from what lets the one alter the other. Assumes nothing.
use Rattle.std.proofs.Common.{◌≡◌, ℕ, true, Ok, Err, Result, refl, inl, inr, arith}
use Rattle.labels.specs.Meaning.{Meaning}
use Rattle.tables.specs.declared.sets.Right.{Right}
use Rattle.tables.specs.Rights.{HasRight}
use Rattle.tables.specs.declared.types.Kind.{Kind}
use Rattle.tables.specs.declared.types.Subject.{Subject}
use Rattle.tables.specs.declared.types.Object.{Object}
use Rattle.tables.specs.declared.types.Tables.{Tables}
use Rattle.tables.specs.State.{subject, object}
use Rattle.calls.specs.Calls.{Answered}
use Rattle.calls.specs.declared.types.Refusal.{Refusal}
use Rattle.calls.specs.Refusals.{answer_number}
use Rattle.rules.specs.Parties.{Found, FlowsTo, Alters, altering}

module _ (m : Meaning) (t : Tables) (s o : ℕ) (k : Kind) (r : Right) (x : Subject) (y : Object) (f : Found t s o x y) (is_kind : y.kind ≡ k) where
  kind_here : (object t o).kind ≡ k
  kind_here = rw f.thing is_kind

  right_here : HasRight t x.user y r → HasRight t (subject t s).user (object t o) r
  right_here h = rw (f.maker, f.thing) h

  right_there : HasRight t (subject t s).user (object t o) r → HasRight t x.user y r
  right_there h = rw (f.maker, f.thing) at h

  flow_here : FlowsTo m x y → m.flow (subject t s).label (object t o).label ≡ true
  flow_here h = rw (f.maker, f.thing) h

  flow_there : m.flow (subject t s).label (object t o).label ≡ true → FlowsTo m x y
  flow_there h = rw (f.maker, f.thing) at h

  pub altered : (res : Result (Unit {0}) Refusal) → Alters m t x y r res → Answered (altering m t s o k r) (answer_number res)
  altered (Ok u) a = (f.maker_there, (f.thing_there, (kind_here, (right_here a.0, (flow_here a.1, tt)))))
  altered (Err e) (inl a) = rw a.0 (
    ((λ _. f.maker_there), ((λ _. f.thing_there), ((λ _. kind_here), ((λ h. absurd (omega (arith, h))), ((λ h. absurd (omega (arith, h))), tt))))),
    λ fine. a.1 (right_there (fine.1.1.1.0 refl)),
  )
  altered (Err e) (inr a) = rw a.0 (
    ((λ _. f.maker_there), ((λ _. f.thing_there), ((λ _. kind_here), ((λ _. right_here a.1), ((λ h. absurd (omega (arith, h))), tt))))),
    λ fine. a.2 (flow_there (fine.1.1.1.1.0 refl)),
  )
