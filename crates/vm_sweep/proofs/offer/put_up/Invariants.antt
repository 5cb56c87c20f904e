use Rattle.std.proofs.Common.{◌≡◌, ◌≤◌, ◌+◌, ◌++◌, map, reverse, vec_len, vec_capacity}
use Rattle.vm_sweep.specs.Offers.{offered}
use Rattle.vm_sweep.proofs.offer.put_up.Given as goal

abbrev pub invariant-loop-job : goal.invariant-loop-job
invariant-loop-job g l = record {
  items : l.offers.items ++ map offered (reverse l.jobs.items) ≡ map offered (reverse l.initial.jobs.items);
  room : vec_len l.offers + vec_len l.jobs ≤ vec_capacity l.offers;
  capacity : vec_capacity l.jobs ≡ vec_capacity l.initial.jobs;
}

abbrev pub decreases-loop-job : goal.decreases-loop-job
decreases-loop-job g l = vec_len l.jobs
