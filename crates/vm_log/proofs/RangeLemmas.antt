-- What is taken of any samples is a recorded host in range.
use Rattle.std.proofs.Common.{◌≡◌, ℕ, ◌≤◌, ◌||◌, inl, inr, nat_lt, All, Bool, true, false, bytes_eq, List, [], ◌∷◌, Option, Some, None, Result, length, map, max, min, unwrap_or, sym, refl, ap, subst, arith, if◌then◌else◌}
use Rattle.std.specs.List.{AllByRecursion, IsDistinct, list_any}
use Rattle.std.proofs.lemmas.Bool.Decides.{nat_tests}
use Rattle.std.proofs.lemmas.List.Elements.{All-cons, All-head, All-nil, All-tail}
use Rattle.vm_recorded.specs.declared.limit.Limit.{Limit}
use Rattle.vm_recorded.specs.declared.limit.Limit.TheVariants.{Epochs, Guests, Steps, EpochSteps}
use Rattle.vm_recorded.specs.Hosts.{GuestView, HostView, IsGuest, IsHost, names_of}
use Rattle.vm_recorded.specs.Limits.{has_long_epoch, has_many_steps, is_long, limit_of, or_bytes}
use Rattle.vm_recorded.specs.Traces.{longest_from, steps_from}
use Rattle.vm_samples.specs.declared.sample.BadSample.{BadSample}
use Rattle.vm_samples.specs.Policies.{GuestPolicyView, IsGuestPolicy, IsPolicy, PolicyView}
use Rattle.vm_samples.specs.Samples.{DomainView}
use Rattle.vm_steer.specs.declared.bounds.Bounds.{Bounds}
use Rattle.vm_steer.specs.declared.rules.Rules.{Rules}
use Rattle.vm_steer.specs.Entries.{EntryView}
use Rattle.vm_steer.specs.Look.{bounds_at, rules_in, rules_of}
use Rattle.vm_steer.specs.Numbers.{least_of, most_of}
use Rattle.vm_log.specs.Epochs.{epochs_of}
use Rattle.vm_log.specs.HostOf.{guest_of, host_of}
use Rattle.vm_log.specs.NamesSeen.{guest_names}
use Rattle.vm_log.specs.Seen.{size_in}
use Rattle.vm_log.specs.Taking.{taken_of}
use Rattle.vm_log.proofs.RangeNameLemmas.{AreSamples, IsSteeredAmong, guest_named, guests_distinct, guests_steered}
use Rattle.vm_log.proofs.RangeTakingLemmas.{IsFit, PassNone, taken_fit}
use Rattle.vm_log.proofs.RangeUseLemmas.{few_used, no_epochs, size_is, some_epochs, within_epochs}

-- ---- what the policy says at a size

record AreRules (rules : Rules) : Type 0 where
  some : 1 ≤ rules.shares
  few : rules.shares ≤ 1000000

rules_range : (guests : List GuestPolicyView) (name : List ℕ) → All IsGuestPolicy guests → AreRules (rules_of guests name)
rules_range [] name each = record { some = omega arith; few = omega arith }
rules_range (g ∷ guests) name each = go (bytes_eq g.name name) (rules_range guests name (All-tail IsGuestPolicy g guests each))
  where
    go : (b : Bool) → AreRules (rules_of guests name) → AreRules (if b then rules_in g else rules_of guests name)
    go true later = let is = All-head IsGuestPolicy g guests each in record { some = is.some_shares; few = is.few_shares }
    go false later = later

record AreBounds (size : ℕ) (bounds : Bounds) : Type 0 where
  some_min : 1 ≤ bounds.min
  within_cap : bounds.min ≤ bounds.cap
  within_size : bounds.cap ≤ size
  some_shares : 1 ≤ bounds.shares
  few_shares : bounds.shares ≤ 1000000

most_small : (size : ℕ) (greatest : Option ℕ) → most_of size greatest ≤ size
most_small size None = omega arith
most_small size (Some most) = omega arith

least_small : (size ballooned most : ℕ) (least : Option ℕ) → 1 ≤ size → most ≤ size → least_of size ballooned most least ≤ size
least_small size ballooned most None some few = omega arith
least_small size ballooned most (Some least) some few = omega arith

least_some : (size ballooned most : ℕ) (least : Option ℕ) → 1 ≤ least_of size ballooned most least
least_some size ballooned most None = omega arith
least_some size ballooned most (Some least) = omega arith

bounds_range : (ballooned : ℕ) (rules : Rules) (size : ℕ) → 1 ≤ size → AreRules rules → AreBounds size (bounds_at ballooned rules size)
unfolding bounds_at
bounds_range ballooned rules size some are =
    let most = most_of size rules.max in
    let few = most_small size rules.max in
    let small = least_small size ballooned most rules.min some few in record {
      some_min = least_some size ballooned most rules.min;
      within_cap = omega arith;
      within_size = omega (arith, few, small);
      some_shares = are.some;
      few_shares = are.few;
    }

-- ---- a guest

guest_range : (policy : PolicyView) (every : ℕ) (samples : List (List EntryView)) (name : List ℕ) → IsPolicy policy → 1 ≤ every → AreSamples samples
    → IsSteeredAmong name samples → IsGuest (length (epochs_of every samples)) (guest_of policy every samples name)
unfolding guest_of
guest_range policy every samples name is some seen there =
    let size = unwrap_or (size_in name samples) 0 in
    let few = size_is name samples seen there in
    let bounds = bounds_range policy.most (rules_of policy.guests name) size few.some (rules_range policy.guests name is.guests) in record {
      name = (guest_named name samples seen there).1.good;
      some_pages = few.some;
      few_pages = few.few;
      some_min = bounds.some_min;
      within_cap = bounds.within_cap;
      within_size = bounds.within_size;
      some_shares = bounds.some_shares;
      few_shares = bounds.few_shares;
      some_epochs = some_epochs every name samples some seen there;
      few_epochs = within_epochs every name samples;
      uses = few_used every name samples seen;
    }

guests_range : (policy : PolicyView) (every : ℕ) (samples : List (List EntryView)) (names : List (List ℕ)) → IsPolicy policy → 1 ≤ every → AreSamples samples
    → AllByRecursion (λ name. IsSteeredAmong name samples) names → All (IsGuest (length (epochs_of every samples))) (map (guest_of policy every samples) names)
guests_range policy every samples [] is some seen there = All-nil (IsGuest (length (epochs_of every samples)))
guests_range policy every samples (name ∷ names) is some seen there =
    All-cons (IsGuest (length (epochs_of every samples))) (guest_of policy every samples name) (map (guest_of policy every samples) names)
    (guest_range policy every samples name is some seen there.0) (guests_range policy every samples names is some seen there.1)

named : (policy : PolicyView) (every : ℕ) (samples : List (List EntryView)) (names : List (List ℕ)) → names_of (map (guest_of policy every samples) names) ≡ names
unfolding guest_of
named policy every samples [] = refl
named policy every samples (name ∷ names) = ap (λ (l : List (List ℕ)). name ∷ l) (named policy every samples names)

-- ---- limits

record IsLimited (host : HostView) : Type 0 where
  few_epochs : host.epochs ≤ 10000
  few_guests : length host.guests ≤ 256
  few_steps : All (λ g. steps_from 0 g.uses ≤ 1000000) host.guests
  short_epochs : All (λ g. longest_from 0 g.uses ≤ 65536) host.guests

upto : (n most : ℕ) → nat_lt most n ≡ false → n ≤ most
upto n most e = grind (arith, nat_tests)

neither : (a b : Bool) → (a || b) ≡ false → (a ≡ false) × (b ≡ false)
neither true b none = absurd (cc)
neither false b none = (refl, none)

few_steps_in : (guests : List GuestView) → list_any has_many_steps guests ≡ false → All (λ g. steps_from 0 g.uses ≤ 1000000) guests
few_steps_in [] none = All-nil (λ (g : GuestView). steps_from 0 g.uses ≤ 1000000)
few_steps_in (g ∷ guests) none =
    let parts = neither (has_many_steps g) (list_any has_many_steps guests) none in
    All-cons (λ (g : GuestView). steps_from 0 g.uses ≤ 1000000) g guests (upto (steps_from 0 g.uses) 1000000 parts.0) (few_steps_in guests parts.1)

short_in : (guests : List GuestView) → list_any has_long_epoch guests ≡ false → All (λ g. longest_from 0 g.uses ≤ 65536) guests
short_in [] none = All-nil (λ (g : GuestView). longest_from 0 g.uses ≤ 65536)
short_in (g ∷ guests) none =
    let parts = neither (has_long_epoch g) (list_any has_long_epoch guests) none in
    All-cons (λ (g : GuestView). longest_from 0 g.uses ≤ 65536) g guests (upto (longest_from 0 g.uses) 65536 parts.0) (short_in guests parts.1)

limited : (host : HostView) → limit_of host ≡ None → IsLimited host
unfolding limit_of
limited host none =
    go (nat_lt 10000 host.epochs) (nat_lt 256 (length host.guests)) (list_any has_many_steps host.guests) (list_any has_long_epoch host.guests) refl refl refl refl none
  where
    go : (a b c d : Bool) → nat_lt 10000 host.epochs ≡ a → nat_lt 256 (length host.guests) ≡ b → list_any has_many_steps host.guests ≡ c
        → list_any has_long_epoch host.guests ≡ d → (if a then Some Epochs else (if b then Some Guests else (if c then Some Steps else (if d then Some EpochSteps else None)))) ≡ None
        → IsLimited host
    go false false false false p q r s none = record {
      few_epochs = upto host.epochs 10000 p;
      few_guests = upto (length host.guests) 256 q;
      few_steps = few_steps_in host.guests r;
      short_epochs = short_in host.guests s;
    }
    go true b c d p q r s none = absurd (cc)
    go false true c d p q r s none = absurd (cc)
    go false false true d p q r s none = absurd (cc)
    go false false false true p q r s none = absurd (cc)

-- without bytes
limit_short : (limit : Option Limit) (long : Bool) → or_bytes limit long ≡ None → limit ≡ None
limit_short None long none = refl
limit_short (Some limit) long none = none

-- without samples there are no epochs and no guests
nothing_limited : (policy : PolicyView) (every : ℕ) → 1 ≤ every → limit_of (host_of policy every []) ≡ None
unfolding limit_of host_of
nothing_limited policy every some = ap (λ (n : ℕ). if nat_lt 10000 n then Some Epochs else None) (no_epochs every some)

passes_none : (policy : PolicyView) (every : ℕ) (samples : List (List EntryView)) → 1 ≤ every → PassNone policy every samples → limit_of (host_of policy every samples) ≡ None
passes_none policy every samples some (inl none) = subst (λ (l : List (List EntryView)). limit_of (host_of policy every l) ≡ None) (sym none) (nothing_limited policy every some)
passes_none policy every samples some (inr none) = limit_short (limit_of (host_of policy every samples)) (is_long (host_of policy every samples)) none

-- ---- the host

host_range : (policy : PolicyView) (every : ℕ) (samples : List (List EntryView)) → IsPolicy policy → 1 ≤ every → IsFit policy every samples → IsHost (host_of policy every samples)
unfolding host_of
host_range policy every samples is some fit =
    let limits = limited (host_of policy every samples) (passes_none policy every samples some fit.none) in
    let memory = is.few_memory in record {
      policy = is;
      some_frames = omega arith;
      few_frames = omega (arith, memory);
      few_epochs = limits.few_epochs;
      few_guests = limits.few_guests;
      guests = guests_range policy every samples (guest_names samples) is some fit.seen (guests_steered samples);
      names_differ = subst (IsDistinct bytes_eq) (sym (named policy every samples (guest_names samples))) (guests_distinct samples);
      few_steps = limits.few_steps;
      short_epochs = limits.short_epochs;
    }

pub in_range : (policy : PolicyView) → IsPolicy policy → (every : ℕ) → 1 ≤ every → (samples : List (Result (List DomainView) BadSample))
    → IsHost (host_of policy every (taken_of every policy samples).samples)
in_range policy is every some samples = host_range policy every (taken_of every policy samples).samples is some (taken_fit every some policy samples)
