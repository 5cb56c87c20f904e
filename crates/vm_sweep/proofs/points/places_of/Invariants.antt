use Rattle.std.proofs.Common.{◌≡◌, map}
use Rattle.std.specs.List.{range_with_len}
use Rattle.vm_sweep.specs.SweptRuns.{place_of, point_at}
use Rattle.vm_sweep.proofs.points.places_of.Given as goal

-- those of the machines so far
abbrev pub invariant-loop-machine : goal.invariant-loop-machine
invariant-loop-machine l =
    l.places.items ≡ map (λ machine. place_of (point_at l.points l.curves machine l.curve)) (range_with_len 0 l.machine)
