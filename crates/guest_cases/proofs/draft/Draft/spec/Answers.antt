use Rattle.std.proofs.Common.{arith, rules}
use Rattle.guest_cases.proofs.draft.Draft.spec.Goals as goal

pub invariant_of-result : goal.invariant_of-result
invariant_of-result c = record {
  some_frames = omega arith;
  min_within = omega arith;
  few_pages = omega arith;
  some_shares = omega arith;
  few_shares = omega arith;
  some_samples = omega arith;
  few_samples = omega arith;
  some_period = omega arith;
  short_period = omega arith;
  some_rate = omega arith;
  low_rate = omega arith;
  some_quantum = omega arith;
  short_quantum = omega arith;
  seed_fits = search rules;
  stream_fits = search rules;
  page_from = omega arith;
  page_to = omega arith;
  short_trace = omega (arith, c.in_ok-trace.ensures.short);
  steps = c.in_ok-trace.ensures.within;
  bounded = c.in_ok-trace.ensures.bounded;
}
