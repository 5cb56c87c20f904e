use Rattle.std.proofs.Common.{◌≡◌, ◌-◌, ◌≤◌, All, vec_capacity, vec_len}
use Rattle.vm_frames.proofs.memory.owners.Given as goal

abbrev pub invariant-loop-owners : goal.invariant-loop-owners
invariant-loop-owners l = record {
  each : All (λ o. o.value ≡ l.block.value) l.owners.items;
  within : vec_len l.owners ≤ l.count;
  room : l.count ≤ vec_capacity l.owners;
}

abbrev pub decreases-loop-owners : goal.decreases-loop-owners
decreases-loop-owners l = l.count - vec_len l.owners
