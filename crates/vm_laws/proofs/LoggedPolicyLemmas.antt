-- Every policy that a text means is in range.
use Rattle.std.proofs.Common.{◌≡◌, ℕ, ◌+◌, ◌*◌, ◌/◌, ◌^◌, ◌<◌, ◌≤◌, ◌&&◌, nat_le, nat_lt, All, IfOk, IfSome, Bool, true, false, bytes_eq, List, [], ◌∷◌, ◌++◌, Option, Some, None, Result, Ok, Err, length, length-append, max, refl, subst, arith, if◌then◌else◌}
use Rattle.std.specs.Int.{div_ceil}
use Rattle.std.specs.List.{IsDistinct, list_all}
use Rattle.std.proofs.Math.Nat.{lt_of_mul-lt-mul_right}
use Rattle.std.proofs.lemmas.Bool.{and_parts}
use Rattle.std.proofs.lemmas.Bool.Decides.{nat_tests}
use Rattle.std.proofs.lemmas.Grind.{div_ceil_times}
use Rattle.std.proofs.lemmas.List.Elements.{All-nil, All-push}
use Rattle.serde_json.specs.Data.{Data}
use Rattle.vm_plan.specs.declared.thresholds.Percents.{Percents}
use Rattle.vm_samples.specs.declared.fault.PolicyFault.{PolicyFault}
use Rattle.vm_samples.specs.declared.fault.Wrong.{Wrong}
use Rattle.vm_samples.specs.declared.fault.Wrong.TheVariants.{NotAName, NotNumbers, NotObjects, TooMany, Twice, Range}
use Rattle.vm_samples.specs.declared.place.Key.TheVariants as key
use Rattle.vm_samples.specs.declared.place.Place.{Place}
use Rattle.vm_samples.specs.declared.place.Place.TheVariants.{Guest, Root}
use Rattle.vm_samples.specs.Keys.{falling_percents, in_range, is_object, is_whole, items_in, least_units, most_units, number_in, number_or, objects_among, objects_or_none, percents_among, percents_or, required_number, required_size, size_in, text_in, truth_or, units_in, units_or}
use Rattle.vm_samples.specs.Names.{is_name}
use Rattle.vm_samples.specs.Outcomes.{◌>>=◌}
use Rattle.vm_samples.specs.Placed.{at}
use Rattle.vm_samples.specs.Places.{found}
use Rattle.vm_samples.specs.Policies.{AreFalling, GuestPolicyView, IsGuestPolicy, IsPolicy, PolicyView, names_of}
use Rattle.vm_samples.specs.PolicyOf.{amounts_at, cache_or, cache_within, default_percents, default_rate, fields_at, fresh_name, guest_at, guests_at, has_name, name_in, policy_of, root_at, root_in, scale_at, settles, shares_at, unit_or, wants_at}
use Rattle.vm_samples.specs.Roots.{AreAmounts, AreFields, AreShares, AreWants, IsScale}
use Rattle.vm_samples.proofs.GuestLemmas.{names_push, no_names}
use Rattle.vm_samples.proofs.UnitLemmas.{unit_within}

-- ---- what is read, one behind the other

pub bind_in : {A B E : Type 0} (P : A → Type 0) (Q : B → Type 0) (r : Result A E) (next : A → Result B E) → IfOk r P → ((x : A) → P x → IfOk (next x) Q)
    → IfOk (r >>= next) Q
bind_in P Q (Ok x) next here more = more x here
bind_in P Q (Err e) next here more = tt

bind_any : {A B E : Type 0} (Q : B → Type 0) (r : Result A E) (next : A → Result B E) → ((x : A) → IfOk (next x) Q) → IfOk (r >>= next) Q
bind_any Q (Ok x) next more = more x
bind_any Q (Err e) next more = tt

-- what is made in the end
abbrev made : {A : Type 0} (P : A → Type 0) → A → Result A PolicyFault
made P x = Ok x

at_in : {A : Type 0} (P : A → Type 0) (place : Place) (r : Result A Wrong) → IfOk r P → IfOk (at place r) P
at_in P place (Ok x) here = here
at_in P place (Err wrong) here = tt

-- ---- numbers

record IsWithin (least greatest n : ℕ) : Type 0 where
  low : least ≤ n
  high : n ≤ greatest

not_above : (a b : ℕ) → nat_le a b ≡ true → a ≤ b
not_above a b e = grind (arith, nat_tests)

in_range_in : (least greatest n : ℕ) → IfOk (in_range least greatest n) (IsWithin least greatest)
in_range_in least greatest n = go (nat_le least n && nat_le n greatest) refl
  where
    go : (t : Bool) → (nat_le least n && nat_le n greatest) ≡ t → IfOk (if t then Ok n else Err Range) (IsWithin least greatest)
    go true e = let parts = and_parts (nat_le least n) (nat_le n greatest) e in record { low = not_above least n parts.0; high = not_above n greatest parts.1 }
    go false e = tt

number_in_in : (d : Data) (least greatest : ℕ) → IfOk (number_in d least greatest) (IsWithin least greatest)
number_in_in d least greatest = bind_any (IsWithin least greatest) _ (in_range least greatest) (λ n. in_range_in least greatest n)

number_or_in : (o : Option Data) (least greatest default : ℕ) → least ≤ default → default ≤ greatest → IfOk (number_or o least greatest default) (IsWithin least greatest)
number_or_in None least greatest default low high = record { low = low; high = high }
number_or_in (Some d) least greatest default low high = number_in_in d least greatest

units_in_in : (unit : ℕ) (d : Data) (least greatest : ℕ) → IfOk (units_in unit d least greatest) (IsWithin least greatest)
units_in_in unit d least greatest =
    bind_any (IsWithin least greatest) (size_in d) (λ kib. in_range least greatest (div_ceil kib unit)) (λ kib. in_range_in least greatest (div_ceil kib unit))

units_or_in : (unit : ℕ) (o : Option Data) (least greatest default : ℕ) → least ≤ default → default ≤ greatest
    → IfOk (units_or unit o least greatest default) (IsWithin least greatest)
units_or_in unit None least greatest default low high = record { low = low; high = high }
units_or_in unit (Some d) least greatest default low high = units_in_in unit d least greatest

record IsUnits (o : Option ℕ) : Type 0 where
  some : IfSome o (λ n. 1 ≤ n)
  few : IfSome o (λ n. n ≤ 2 ^ 54)

least_units_in : (unit : ℕ) (o : Option Data) → IfOk (least_units unit o) IsUnits
least_units_in unit None = record { some = tt; few = tt }
least_units_in unit (Some d) =
    bind_in (IsWithin 1 (2 ^ 54)) IsUnits (units_in unit d 1 (2 ^ 54)) (λ n. Ok (Some n)) (units_in_in unit d 1 (2 ^ 54))
    (λ n is. record { some = is.low; few = is.high })

most_units_in : (unit : ℕ) (o : Option Data) → IfOk (most_units unit o) IsUnits
most_units_in unit None = record { some = tt; few = tt }
most_units_in unit (Some d) =
    bind_in (IsWithin 1 (2 ^ 54)) IsUnits (size_in d >>= (λ kib. in_range 1 (2 ^ 54) (kib / unit))) (λ n. Ok (Some n))
    (bind_any (IsWithin 1 (2 ^ 54)) (size_in d) (λ kib. in_range 1 (2 ^ 54) (kib / unit)) (λ kib. in_range_in 1 (2 ^ 54) (kib / unit)))
    (λ n is. record { some = is.low; few = is.high })

-- ---- percents

falling_in : (greatest : ℕ) (ds : List Data) → IfOk (falling_percents greatest ds) (AreFalling greatest)
falling_in greatest [] = tt
falling_in greatest (a ∷ []) = tt
falling_in greatest (a ∷ b ∷ []) = tt
falling_in greatest (a ∷ b ∷ c ∷ []) = tt
falling_in greatest (a ∷ b ∷ c ∷ d ∷ []) =
    bind_in (IsWithin 0 greatest) (AreFalling greatest) (number_in a 0 greatest) _ (number_in_in a 0 greatest)
    (λ high h. bind_in (IsWithin 0 high) (AreFalling greatest) (number_in b 0 high) _ (number_in_in b 0 high)
    (λ soft s. bind_in (IsWithin 0 soft) (AreFalling greatest) (number_in c 0 soft) _ (number_in_in c 0 soft)
    (λ hard i. bind_in (IsWithin 0 hard) (AreFalling greatest) (number_in d 0 hard) _ (number_in_in d 0 hard)
    (λ low l. record { high = h.high; soft = s.high; hard = i.high; low = l.high }))))
falling_in greatest (a ∷ b ∷ c ∷ d ∷ e ∷ ds) = tt

percents_among_in : (greatest : ℕ) (ds : List Data) → IfOk (percents_among greatest ds) (AreFalling greatest)
percents_among_in greatest ds = go (list_all is_whole ds)
  where
    go : (t : Bool) → IfOk (if t then falling_percents greatest ds else Err NotNumbers) (AreFalling greatest)
    go true = falling_in greatest ds
    go false = tt

percents_or_in : (o : Option Data) → IfOk (percents_or o 10000 default_percents) (AreFalling 10000)
percents_or_in None = record { high = omega arith; soft = omega arith; hard = omega arith; low = omega arith }
percents_or_in (Some d) = bind_any (AreFalling 10000) (items_in NotNumbers d) (percents_among 10000) (λ ds. percents_among_in 10000 ds)

-- ---- the root

unit_or_in : (o : Option Data) (memory : ℕ) → IfOk (unit_or o memory) (IsWithin 4 1048576)
unit_or_in None memory = let unit = unit_within memory in record { low = omega (arith, unit.0); high = unit.1 }
unit_or_in (Some d) memory = bind_any (IsWithin 4 1048576) (size_in d) (in_range 4 1048576) (λ n. in_range_in 4 1048576 n)

scale_made : (unit memory : ℕ) → IsWithin 4 1048576 unit → IsWithin 1 262144 memory → IfOk (made IsScale (record { unit = unit; memory = memory })) IsScale
scale_made unit memory u m = record { unit_from = u.low; unit_to = u.high; some_memory = m.low; few_memory = m.high }

scale_in : (d : Data) → IfOk (scale_at d) IsScale
unfolding scale_at
scale_in d =
    bind_any IsScale (at (Root key.Version) (required_number (found key.Version d) 1 1)) _
    (λ version. bind_any IsScale (at (Root key.Memory) (required_size (found key.Memory d))) _
    (λ memory. bind_in (IsWithin 4 1048576) IsScale (at (Root key.Unit) (unit_or (found key.Unit d) memory)) _
    (at_in (IsWithin 4 1048576) (Root key.Unit) (unit_or (found key.Unit d) memory) (unit_or_in (found key.Unit d) memory))
    (λ unit u. bind_in (IsWithin 1 262144) IsScale (at (Root key.Memory) (in_range 1 262144 (memory / unit))) _
    (at_in (IsWithin 1 262144) (Root key.Memory) (in_range 1 262144 (memory / unit)) (in_range_in 1 262144 (memory / unit)))
    (λ units m. scale_made unit units u m))))

rate_in : (unit memory : ℕ) → 4 ≤ unit → memory ≤ 262144 → IsWithin 1 262144 (max (div_ceil 131072 unit) (memory / 64))
rate_in unit memory some few =
    let times = div_ceil_times 131072 unit (omega (arith, some)) in
    let low : 0 * unit < div_ceil 131072 unit * unit = omega (arith, times.0) in
    let high : div_ceil 131072 unit * unit < 262144 * unit = omega (arith, times.1, some) in
    let a = lt_of_mul-lt-mul_right unit low in
    let b = lt_of_mul-lt-mul_right unit high in
    record { low = omega (arith, a); high = omega (arith, b, few) }

amounts_made : (overhead rate rebalance : ℕ) → IsWithin 0 1024 overhead → IsWithin 1 262144 rate → IsWithin 0 262144 rebalance
    → IfOk (made AreAmounts (record { overhead = overhead; rate = rate; rebalance = rebalance })) AreAmounts
amounts_made overhead rate rebalance o r m = record { small_overhead = o.high; some_rate = r.low; small_rate = r.high; few_moves = m.high }

amounts_in : (scale : _) (d : Data) → IsScale scale → IfOk (amounts_at scale d) AreAmounts
unfolding amounts_at
amounts_in scale d is =
    let most = rate_in scale.unit scale.memory is.unit_from is.few_memory in
    let overheads = units_or scale.unit (found key.Overhead d) 0 1024 0 in
    let rates = units_or scale.unit (found key.Rate d) 1 262144 (default_rate scale) in
    bind_in (IsWithin 0 1024) AreAmounts (at (Root key.Overhead) overheads) _
    (at_in (IsWithin 0 1024) (Root key.Overhead) overheads (units_or_in scale.unit (found key.Overhead d) 0 1024 0 (omega arith) (omega arith)))
    (λ overhead o. bind_in (IsWithin 1 262144) AreAmounts (at (Root key.Rate) rates) _
    (at_in (IsWithin 1 262144) (Root key.Rate) rates (units_or_in scale.unit (found key.Rate d) 1 262144 (default_rate scale) most.low most.high))
    (λ rate r. bind_in (IsWithin 0 262144) AreAmounts (at (Root key.Rebalance) (units_or scale.unit (found key.Rebalance d) 0 262144 rate)) _
    (at_in (IsWithin 0 262144) (Root key.Rebalance) (units_or scale.unit (found key.Rebalance d) 0 262144 rate)
    (units_or_in scale.unit (found key.Rebalance d) 0 262144 rate (omega arith) r.high))
    (λ rebalance m. amounts_made overhead rate rebalance o r m)))

shares_made : (tax : ℕ) (percents : Percents) → IsWithin 0 9999 tax → AreFalling 10000 percents → IfOk (made AreShares (record { tax = tax; percents = percents })) AreShares
shares_made tax percents t p = record { part_taxed = t.high; falling = p }

shares_in : (d : Data) → IfOk (shares_at d) AreShares
unfolding shares_at
shares_in d =
    let taxes = number_or (found key.Tax d) 0 9999 7500 in
    let all = percents_or (found key.Percent d) 10000 default_percents in
    bind_in (IsWithin 0 9999) AreShares (at (Root key.Tax) taxes) _
    (at_in (IsWithin 0 9999) (Root key.Tax) taxes (number_or_in (found key.Tax d) 0 9999 7500 (omega arith) (omega arith)))
    (λ tax t. bind_in (AreFalling 10000) AreShares (at (Root key.Percent) all) _
    (at_in (AreFalling 10000) (Root key.Percent) all (percents_or_in (found key.Percent d)))
    (λ percents p. shares_made tax percents t p))

record IsCache (headroom n : ℕ) : Type 0 where
  few : n ≤ 100
  settle : (100 + headroom) * n < 10000

below : (a b : ℕ) → nat_lt a b ≡ true → a < b
below a b e = grind (arith, nat_tests)

cache_in : (o : Option Data) (headroom : ℕ) → IfOk (cache_or o headroom) (IsCache headroom)
cache_in None headroom = go (settles headroom 50) refl
  where
    go : (t : Bool) → settles headroom 50 ≡ t → IsCache headroom (if t then 50 else 0)
    go true e = record { few = omega arith; settle = below ((100 + headroom) * 50) 10000 e }
    go false e = record { few = omega arith; settle = omega arith }
cache_in (Some d) headroom =
    bind_in (IsWithin 0 100) (IsCache headroom) (number_in d 0 100) (cache_within headroom) (number_in_in d 0 100) (λ n is. go n is.high (settles headroom n) refl)
  where
    go : (n : ℕ) → n ≤ 100 → (t : Bool) → settles headroom n ≡ t → IfOk (if t then Ok n else Err Range) (IsCache headroom)
    go n few true e = record { few = few; settle = below ((100 + headroom) * n) 10000 e }
    go n few false e = tt

wants_made : (headroom cache most patience : ℕ) → IsWithin 0 1000 headroom → IsCache headroom cache → IsWithin 0 99 most → IsWithin 1 10000 patience
    → IfOk (made AreWants (record { headroom = headroom; cache = cache; most = most; patience = patience })) AreWants
wants_made headroom cache most patience h c m p = record {
  small_headroom = h.high;
  part_cached = c.few;
  settles = c.settle;
  not_all = m.high;
  some_patience = p.low;
  small_patience = p.high;
}

wants_in : (d : Data) → IfOk (wants_at d) AreWants
unfolding wants_at
wants_in d =
    let headrooms = number_or (found key.Headroom d) 0 1000 20 in
    let mosts = number_or (found key.Most d) 0 99 65 in
    let patiences = number_or (found key.Patience d) 1 10000 5 in
    bind_in (IsWithin 0 1000) AreWants (at (Root key.Headroom) headrooms) _
    (at_in (IsWithin 0 1000) (Root key.Headroom) headrooms (number_or_in (found key.Headroom d) 0 1000 20 (omega arith) (omega arith)))
    (λ headroom h. bind_in (IsCache headroom) AreWants (at (Root key.Cache) (cache_or (found key.Cache d) headroom)) _
    (at_in (IsCache headroom) (Root key.Cache) (cache_or (found key.Cache d) headroom) (cache_in (found key.Cache d) headroom))
    (λ cache c. bind_in (IsWithin 0 99) AreWants (at (Root key.Most) mosts) _
    (at_in (IsWithin 0 99) (Root key.Most) mosts (number_or_in (found key.Most d) 0 99 65 (omega arith) (omega arith)))
    (λ most m. bind_in (IsWithin 1 10000) AreWants (at (Root key.Patience) patiences) _
    (at_in (IsWithin 1 10000) (Root key.Patience) patiences (number_or_in (found key.Patience d) 1 10000 5 (omega arith) (omega arith)))
    (λ patience p. wants_made headroom cache most patience h c m p))))

fields_made : (scale : _) (amounts : _) (shares : _) (wants : _) → IsScale scale → AreAmounts amounts → AreShares shares → AreWants wants
    → IfOk (made AreFields (record { scale = scale; amounts = amounts; shares = shares; wants = wants })) AreFields
fields_made scale amounts shares wants s a h w = record { scale = s; amounts = a; shares = h; wants = w }

fields_in : (d : Data) → IfOk (fields_at d) AreFields
unfolding fields_at
fields_in d =
    bind_in IsScale AreFields (scale_at d) _ (scale_in d)
    (λ scale s. bind_in AreAmounts AreFields (amounts_at scale d) _ (amounts_in scale d s)
    (λ amounts a. bind_in AreShares AreFields (shares_at d) _ (shares_in d)
    (λ shares h. bind_in AreWants AreFields (wants_at d) _ (wants_in d)
    (λ wants w. fields_made scale amounts shares wants s a h w))))

-- ---- guests

record IsNew (earlier : List GuestPolicyView) (name : List ℕ) : Type 0 where
  good : is_name name ≡ true
  apart : has_name name earlier ≡ false

fresh_in : (earlier : List GuestPolicyView) (name : List ℕ) → IfOk (fresh_name earlier name) (IsNew earlier)
fresh_in earlier name = go (is_name name) (has_name name earlier) refl refl
  where
    go : (a b : Bool) → is_name name ≡ a → has_name name earlier ≡ b → IfOk (if a then (if b then Err Twice else Ok name) else Err NotAName) (IsNew earlier)
    go true false p q = record { good = p; apart = q }
    go true true p q = tt
    go false b p q = tt

name_in_in : (earlier : List GuestPolicyView) (o : Option Data) → IfOk (name_in earlier o) (IsNew earlier)
name_in_in earlier o = bind_any (IsNew earlier) (text_in o) (fresh_name earlier) (λ name. fresh_in earlier name)

record IsNext (earlier : List GuestPolicyView) (g : GuestPolicyView) : Type 0 where
  is : IsGuestPolicy g
  apart : has_name g.name earlier ≡ false

next_made : (earlier : List GuestPolicyView) (name : List ℕ) (min max : Option ℕ) (shares : ℕ) (steer : Bool) → IsNew earlier name → IsUnits min → IsUnits max
    → IsWithin 1 1000000 shares → IfOk (made (IsNext earlier) (record { name = name; min = min; max = max; shares = shares; steer = steer })) (IsNext earlier)
next_made earlier name min max shares steer n l m s = record {
  is = record { name = n.good; some_min = l.some; least = l.few; some_max = m.some; greatest = m.few; some_shares = s.low; few_shares = s.high };
  apart = n.apart;
}

guest_in : (unit : ℕ) (earlier : List GuestPolicyView) (d : Data) → IfOk (guest_at unit earlier d) (IsNext earlier)
unfolding guest_at
guest_in unit earlier d =
    let place = length earlier in
    let names = name_in earlier (found key.Name d) in
    let mins = least_units unit (found key.Min d) in
    let maxes = most_units unit (found key.Max d) in
    let all = number_or (found key.Shares d) 1 1000000 1000 in
    bind_in (IsNew earlier) (IsNext earlier) (at (Guest place key.Name) names) _
    (at_in (IsNew earlier) (Guest place key.Name) names (name_in_in earlier (found key.Name d)))
    (λ name n. bind_in IsUnits (IsNext earlier) (at (Guest place key.Min) mins) _
    (at_in IsUnits (Guest place key.Min) mins (least_units_in unit (found key.Min d)))
    (λ least l. bind_in IsUnits (IsNext earlier) (at (Guest place key.Max) maxes) _
    (at_in IsUnits (Guest place key.Max) maxes (most_units_in unit (found key.Max d)))
    (λ most m. bind_in (IsWithin 1 1000000) (IsNext earlier) (at (Guest place key.Shares) all) _
    (at_in (IsWithin 1 1000000) (Guest place key.Shares) all (number_or_in (found key.Shares d) 1 1000000 1000 (omega arith) (omega arith)))
    (λ shares s. bind_any (IsNext earlier) (at (Guest place key.Steer) (truth_or (found key.Steer d) true)) _
    (λ steer. next_made earlier name least most shares steer n l m s)))))

record AreGuests (most : ℕ) (guests : List GuestPolicyView) : Type 0 where
  few : length guests ≤ most
  within : All IsGuestPolicy guests
  differ : IsDistinct bytes_eq (names_of guests)

guests_in : (unit most : ℕ) (ds : List Data) (earlier : List GuestPolicyView) → length earlier + length ds ≤ most → All IsGuestPolicy earlier
    → IsDistinct bytes_eq (names_of earlier) → IfOk (guests_at unit ds earlier) (AreGuests most)
guests_in unit most [] earlier few within differ = record { few = omega (arith, few); within = within; differ = differ }
guests_in unit most (d ∷ ds) earlier few within differ =
    bind_in (IsNext earlier) (AreGuests most) (guest_at unit earlier d) (λ g. guests_at unit ds (earlier ++ g ∷ [])) (guest_in unit earlier d)
    (λ g next. guests_in unit most ds (earlier ++ g ∷ []) (omega (arith, few, length-append earlier (g ∷ []))) (All-push IsGuestPolicy earlier g within next.is)
    (names_push earlier g differ next.apart))

objects_among_in : (ds : List Data) → IfOk (objects_among 256 ds) (λ objects. length objects ≤ 256)
objects_among_in ds = go (list_all is_object ds) (nat_le (length ds) 256) refl
  where
    go : (a b : Bool) → nat_le (length ds) 256 ≡ b → IfOk (if a then (if b then Ok ds else Err TooMany) else Err NotObjects) (λ (objects : List Data). length objects ≤ 256)
    go true true e = not_above (length ds) 256 e
    go true false e = tt
    go false b e = tt

objects_in_in : (o : Option Data) → IfOk (objects_or_none 256 o) (λ objects. length objects ≤ 256)
objects_in_in None = omega arith
objects_in_in (Some d) = bind_any (λ (objects : List Data). length objects ≤ 256) (items_in NotObjects d) (objects_among 256) (λ ds. objects_among_in ds)

-- ---- the whole

policy_made : (fields : _) (guests : List GuestPolicyView) → AreFields fields → AreGuests 256 guests → IfOk (made IsPolicy (record {
  unit = fields.scale.unit;
  memory = fields.scale.memory;
  overhead = fields.amounts.overhead;
  rate = fields.amounts.rate;
  rebalance = fields.amounts.rebalance;
  tax = fields.shares.tax;
  percents = fields.shares.percents;
  headroom = fields.wants.headroom;
  cache = fields.wants.cache;
  most = fields.wants.most;
  patience = fields.wants.patience;
  guests = guests;
})) IsPolicy
policy_made fields guests f g = record {
  unit_from = f.scale.unit_from;
  unit_to = f.scale.unit_to;
  some_memory = f.scale.some_memory;
  few_memory = f.scale.few_memory;
  small_overhead = f.amounts.small_overhead;
  some_rate = f.amounts.some_rate;
  small_rate = f.amounts.small_rate;
  few_moves = f.amounts.few_moves;
  part_taxed = f.shares.part_taxed;
  falling = f.shares.falling;
  small_headroom = f.wants.small_headroom;
  part_cached = f.wants.part_cached;
  settles = f.wants.settles;
  not_all = f.wants.not_all;
  some_patience = f.wants.some_patience;
  small_patience = f.wants.small_patience;
  few_guests = g.few;
  guests = g.within;
  names_differ = g.differ;
}

abbrev AreFew : List Data → Type 0
AreFew objects = length objects ≤ 256

root_range : (d : Data) → IfOk (root_at d) IsPolicy
unfolding root_at
root_range d =
    bind_in AreFields IsPolicy (fields_at d) _ (fields_in d)
    (λ fields f. bind_in AreFew IsPolicy (at (Root key.Guests) (objects_or_none 256 (found key.Guests d))) _
    (at_in AreFew (Root key.Guests) (objects_or_none 256 (found key.Guests d)) (objects_in_in (found key.Guests d)))
    (λ objects few. bind_in (AreGuests 256) IsPolicy (guests_at fields.scale.unit objects []) _
    (guests_in fields.scale.unit 256 objects [] (omega (arith, few)) (All-nil IsGuestPolicy) no_names)
    (λ guests g. policy_made fields guests f g)))

text_range : (text : List ℕ) → IfOk (policy_of text) IsPolicy
unfolding policy_of
text_range text = bind_any IsPolicy (root_in text) root_at root_range

-- the policy of a text is in range
pub policy_range : (text : List ℕ) (policy : PolicyView) → policy_of text ≡ Ok policy → IsPolicy policy
policy_range text policy is = subst (λ (r : Result PolicyView PolicyFault). IfOk r IsPolicy) is (text_range text)
