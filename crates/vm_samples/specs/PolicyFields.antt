-- What the fields of a policy show, and what is true of them.
use Rattle.std.specs.Prelude.{string_bytes}
use Rattle.vm_samples.specs.declared.policy.GuestPolicy.TheInside as guest
use Rattle.vm_samples.specs.declared.policy.Policy.TheInside as policy
use Rattle.vm_samples.specs.Policies.{GuestPolicyView, PolicyView, IsGuestPolicy, IsPolicy}

abbrev pub guest_of : guest.Inside → GuestPolicyView
guest_of g = record {
  name = string_bytes g.name;
  min = g.min;
  max = g.max;
  shares = g.shares;
  steer = g.steer;
}

abbrev pub IsGuest : guest.Inside → Type 0
IsGuest g = IsGuestPolicy (guest_of g)

abbrev pub policy_of_fields : policy.Inside → PolicyView
policy_of_fields p = record {
  unit = p.unit;
  memory = p.memory;
  overhead = p.overhead;
  rate = p.rate;
  rebalance = p.rebalance;
  tax = p.tax;
  percents = p.percents;
  headroom = p.headroom;
  cache = p.cache;
  most = p.most;
  patience = p.patience;
  guests = p.guests.items;
}

abbrev pub IsPolicyInside : policy.Inside → Type 0
IsPolicyInside p = IsPolicy (policy_of_fields p)
