use Rattle.std.proofs.Common.{◌-◌, length}
use Rattle.tables.specs.Ways.{Below}
use Rattle.tables.proofs.Climb.{WithinSteps}
use Rattle.tables.proofs.ways.climbs.Given as goal

abbrev pub invariant-loop-step : goal.invariant-loop-step
invariant-loop-step l =
    (Below l.objects l.x l.p → WithinSteps l.objects l.at l.p (length l.objects - l._step))
    × (Below l.objects l.at l.p → Below l.objects l.x l.p)
