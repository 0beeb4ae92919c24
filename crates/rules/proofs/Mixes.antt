-- What refuses that a container is marked as mixed refuses that it is marked as unmixed. Assumes nothing.
use Rattle.std.proofs.Common.{ℕ, ◌<◌, suc, arith}
use Rattle.labels.specs.Meaning.{Meaning}
use Rattle.tables.specs.declared.types.Tables.{Tables}
use Rattle.tables.specs.State.{object}
use Rattle.sound.specs.Nesting.{HoldsUnder}
use Rattle.calls.specs.declared.types.Call.TheVariants.{Mix, Unmix}
use Rattle.calls.specs.declared.types.Refusal.{Refusal}
use Rattle.calls.specs.declared.types.Refusal.TheVariants.{NobodyThere, SeatTaken, NoLabel, WrongKind, NoRight, NotListed, WrongWay, OutOfRange, WontNest, StillRigged}
use Rattle.calls.specs.Refusals.{refusal_number}
use Rattle.calls.specs.Calls.{asks, Answer, FineAt}

module _ (m : Meaning) (t : Tables) (s o : ℕ) where
  -- nothing of a mixed mark is asked under a number above 9
  none_above : (w : ℕ) → 9 < w → FineAt w (asks m t (Mix s o))
  none_above w big = ((λ e. absurd (omega arith)), ((λ e. absurd (omega arith)), ((λ e. absurd (omega arith)), ((λ e. absurd (omega arith)), ((λ e. absurd (omega arith)), tt)))))

  front : (w : ℕ) → FineAt w (asks m t (Unmix s o)) → FineAt w (asks m t (Mix s o))
  front w f = (f.0, (f.1.0, (f.1.1.0, (f.1.1.1.0, (f.1.1.1.1.0, tt)))))

  neither : (w : ℕ) → Answer m t (Mix s o) (suc w) → Answer m t (Unmix s o) (suc w)
  neither w a =
      let b = a.0 in
      let late : 9 < suc w → HoldsUnder m t o (object t o).label = λ lt. absurd (a.1 (none_above (suc w) lt)) in
      ((b.0, (b.1.0, (b.1.1.0, (b.1.1.1.0, (b.1.1.1.1.0, (late, tt)))))), λ f. a.1 (front (suc w) f))

  pub refused_too : (e : Refusal) → Answer m t (Mix s o) (refusal_number e) → Answer m t (Unmix s o) (refusal_number e)
  refused_too NobodyThere a = neither 0 a
  refused_too SeatTaken a = neither 1 a
  refused_too NoLabel a = neither 2 a
  refused_too WrongKind a = neither 3 a
  refused_too NoRight a = neither 4 a
  refused_too NotListed a = neither 5 a
  refused_too WrongWay a = neither 6 a
  refused_too OutOfRange a = neither 7 a
  refused_too WontNest a = neither 8 a
  refused_too StillRigged a = neither 9 a
