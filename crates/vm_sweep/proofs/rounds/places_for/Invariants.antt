use Rattle.std.proofs.Common.{◌≡◌, ◌≤◌, ◌+◌, All, vec_len, vec_capacity}
use Rattle.vm_sweep.specs.Orders.{shape_of}
use Rattle.vm_sweep.specs.Rounds.{CanRun}
use Rattle.vm_sweep.proofs.rounds.places_for.Given as goal

-- one for each copy so far
abbrev pub invariant-loop-copy : goal.invariant-loop-copy
invariant-loop-copy l = record {
  count : vec_len l.places + 1 ≡ l._copy;
  room : l.count ≤ vec_capacity l.places;
  ready : All (CanRun l.config (shape_of l.like)) l.places.items;
}
