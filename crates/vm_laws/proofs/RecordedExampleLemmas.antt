-- The small recorded host is in its ranges.
use Rattle.std.proofs.Common.{zero, suc, ◌≤◌, All, IfSome, List, [], ◌∷◌, Some, None, refl, arith}
use Rattle.std.specs.List.{AllByRecursion, IsDistinct}
use Rattle.vm_recorded.specs.Hosts.{IsGuest, IsHost}
use Rattle.vm_recorded.specs.Traces.{longest_from, steps_from}
use Rattle.vm_samples.specs.Policies.{IsGuestPolicy, IsPolicy}
use Rattle.vm_laws.specs.RecordedExamples.{host}

all : {X : Type 0} (P : X → Type 0) (xs : List X) → AllByRecursion P xs → All P xs
all P [] each k d below = absurd (omega (arith, below))
all P (x ∷ xs) each zero d below = each.0
all P (x ∷ xs) each (suc k) d below = all P xs each.1 k d (omega (arith, below))

in-policy : IsPolicy host.policy
unfolding IsDistinct
in-policy = record {
  unit_from = omega arith;
  unit_to = omega arith;
  some_memory = omega arith;
  few_memory = omega arith;
  small_overhead = omega arith;
  some_rate = omega arith;
  small_rate = omega arith;
  few_moves = omega arith;
  part_taxed = omega arith;
  falling = record { high = omega arith; soft = omega arith; hard = omega arith; low = omega arith };
  small_headroom = omega arith;
  part_cached = omega arith;
  settles = omega arith;
  not_all = omega arith;
  some_patience = omega arith;
  small_patience = omega arith;
  few_guests = omega arith;
  guests = all IsGuestPolicy [] tt;
  names_differ = tt;
}

both : AllByRecursion (IsGuest 3) host.guests
both = (
  record {
    name = refl;
    some_pages = omega arith;
    few_pages = omega arith;
    some_min = omega arith;
    within_cap = omega arith;
    within_size = omega arith;
    some_shares = omega arith;
    few_shares = omega arith;
    some_epochs = omega arith;
    few_epochs = omega arith;
    uses = all (λ used. IfSome used (λ units. units ≤ 4)) (Some 3 ∷ None ∷ Some 1 ∷ []) (omega arith, (tt, (omega arith, tt)));
  },
  (
    record {
      name = refl;
      some_pages = omega arith;
      few_pages = omega arith;
      some_min = omega arith;
      within_cap = omega arith;
      within_size = omega arith;
      some_shares = omega arith;
      few_shares = omega arith;
      some_epochs = omega arith;
      few_epochs = omega arith;
      uses = all (λ used. IfSome used (λ units. units ≤ 5)) (Some 2 ∷ []) (omega arith, tt);
    },
    tt,
  ),
)

pub in-range : IsHost host
unfolding IsDistinct
in-range = record {
  policy = in-policy;
  some_frames = omega arith;
  few_frames = omega arith;
  few_epochs = omega arith;
  few_guests = omega arith;
  guests = all (IsGuest 3) host.guests both;
  names_differ = ((refl, tt), (tt, tt));
  few_steps = all (λ g. steps_from 0 g.uses ≤ 1000000) host.guests (omega arith, (omega arith, tt));
  short_epochs = all (λ g. longest_from 0 g.uses ≤ 65536) host.guests (omega arith, (omega arith, tt));
}
