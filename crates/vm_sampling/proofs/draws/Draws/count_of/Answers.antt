use Rattle.std.proofs.Common.{◌≤◌}
use Rattle.vm_sampling.proofs.draws.Draws.count_of.Goals as goal

pub make_draws-requires : goal.make_draws-requires
make_draws-requires c =
    let invariant = c.self.invariant in
    let some : 1 ≤ c.self.inside.size = invariant.some_pages in
    record {
      few_draws = rw c.deref_mut.ensures.value invariant.few_draws;
      pages_in_range = (some, invariant.few_pages);
      pages = rw c.deref_mut.ensures.value invariant.are_pages;
      all = rw c.deref_mut-2.ensures.value invariant.all_counted;
      counted = rw (c.deref_mut.ensures.value, c.deref_mut-2.ensures.value) invariant.counted;
    }
