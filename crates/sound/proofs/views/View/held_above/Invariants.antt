use Rattle.std.proofs.Common.{ℕ, ◌-◌, length}
use Rattle.tables.specs.Ways.{Under}
use Rattle.sound.proofs.Walk.{HeldAt, Left}
use Rattle.sound.proofs.views.View.held_above.Given as goal

abbrev pub invariant-loop-step : goal.invariant-loop-step
invariant-loop-step g l =
    let m = g.S.Scheme.meaning l.self.scheme.now in
    HeldAt m l.self.tables.now l.l l.p × Left m l.self.tables.now l.l l.p l.at (length l.self.tables.now.objects - l._step) × ((a : ℕ) → Under l.self.tables.now l.at a → Under l.self.tables.now l.p a)
