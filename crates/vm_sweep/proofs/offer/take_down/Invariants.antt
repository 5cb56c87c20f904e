use Rattle.std.proofs.Common.{◌≡◌, ◌≤◌, ◌+◌, ◌++◌, reverse, vec_len, vec_capacity}
use Rattle.vm_sweep.specs.Offers.{jobs_of}
use Rattle.vm_sweep.proofs.offer.take_down.Given as goal

abbrev pub invariant-loop-offer : goal.invariant-loop-offer
invariant-loop-offer g l = record {
  items : l.jobs.items ++ jobs_of (reverse l.offers.items) ≡ jobs_of (reverse l.initial.offers.items);
  room : vec_len l.jobs + vec_len l.offers ≤ vec_capacity l.jobs;
}

abbrev pub decreases-loop-offer : goal.decreases-loop-offer
decreases-loop-offer g l = vec_len l.offers
