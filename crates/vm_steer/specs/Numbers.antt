-- The numbers of a steered domain, in units but for the KiB that its sample tells. What is divided is rounded down where nothing is said.
use Rattle.std.specs.Prelude.{ℕ, ◌+◌, ◌-◌, ◌*◌, ◌/◌, ◌&&◌, ◌||◌, Bool, false, Option, Some, None, min, max, nat_le, nat_lt, if◌then◌else◌}
use Rattle.std.specs.Int.{div_ceil}
use Rattle.vm_steer.specs.Remembered.{RememberedView}

-- ---- what it holds

-- KiB in units, rounded up
abbrev pub units_up : (unit kib : ℕ) → ℕ
units_up unit kib = div_ceil kib unit

abbrev pub size_of : (unit maximum : ℕ) → ℕ
size_of unit maximum = maximum / unit

-- at least 1, and at most the size
abbrev pub held_of : (unit current size : ℕ) → ℕ
held_of unit current size = min size (max 1 (units_up unit current))

-- ---- what it uses

-- What its guest could give, in KiB: of what the kernel could drop, the part `cache` of a hundred counts as used.
abbrev pub less_cache : (cache usable unused : ℕ) → ℕ
less_cache cache usable unused = if nat_lt unused usable then unused + (usable - unused) * (100 - cache) / 100 else usable

abbrev pub idle_told : (cache : ℕ) → (usable unused : Option ℕ) → ℕ
idle_told cache None None = 0
idle_told cache None (Some unused) = unused
idle_told cache (Some usable) None = usable
idle_told cache (Some usable) (Some unused) = less_cache cache usable unused

-- what was read from swap, or where nothing is told what is remembered of it
abbrev pub swap_in_of : Option RememberedView → Option ℕ → ℕ
swap_in_of last (Some swap_in) = swap_in
swap_in_of (Some last) None = last.swap_in
swap_in_of None None = 0

-- whether a unit or more was read from swap since the last sample
abbrev pub has_swapped : (unit : ℕ) → Option RememberedView → (swap_in : ℕ) → Bool
has_swapped unit None swap_in = false
has_swapped unit (Some last) swap_in = nat_le unit (swap_in - last.swap_in)

-- who swaps has nothing idle
abbrev pub idle_of : (swapped : Bool) → (told : ℕ) → ℕ
idle_of swapped told = if swapped then 0 else told

abbrev pub used_of : (unit current idle held : ℕ) → ℕ
used_of unit current idle held = min held (units_up unit (current - idle))

-- ---- the active fraction, of 65536

-- what is used of what is held
abbrev pub fraction_of : (used held : ℕ) → ℕ
fraction_of used held = 65536 * used / held

abbrev pub slow_of : Option RememberedView → ℕ → ℕ
slow_of None fraction = fraction
slow_of (Some last) fraction = (7 * last.slow + fraction) / 8

abbrev pub fast_of : Option RememberedView → ℕ → ℕ
fast_of None fraction = fraction
fast_of (Some last) fraction = (last.fast + fraction) / 2

abbrev pub active_of : (slow fast fraction : ℕ) → ℕ
active_of slow fast fraction = max (max slow fast) fraction

-- ---- its limits

-- the policy's greatest, at most the size, or the size
abbrev pub most_of : (size : ℕ) → Option ℕ → ℕ
most_of size None = size
most_of size (Some most) = min most size

-- The policy's least, at most the size, or what is left where the part `most` of a hundred is ballooned, at most the cap; at least 1.
abbrev pub least_of : (size ballooned most : ℕ) → Option ℕ → ℕ
least_of size ballooned most None = max 1 (min (div_ceil (size * (100 - ballooned)) 100) most)
least_of size ballooned most (Some least) = max 1 (min least size)

-- where the policy's least is above its greatest, that is the cap
abbrev pub cap_of : (most least : ℕ) → ℕ
cap_of most least = max most least

-- what is remembered, or what it holds, within its limits
abbrev pub target_of : Option RememberedView → (held min_ cap : ℕ) → ℕ
target_of None held min_ cap = min cap (max min_ held)
target_of (Some last) held min_ cap = min cap (max min_ last.target)

-- ---- a balloon that doesn't follow

-- whether it holds no less than in its last sample, and more than it was asked to, or was believed then
abbrev pub has_stayed : (patience held : ℕ) → RememberedView → Bool
has_stayed patience held last = nat_le last.held held && (nat_lt last.target held || nat_le patience last.still)

-- one sample more; after as many as it was believed for it is asked again
abbrev pub one_more : (patience still : ℕ) → ℕ
one_more patience still = if nat_le (2 * patience) (still + 1) then 0 else still + 1

-- in how many samples it didn't follow
abbrev pub still_of : (patience held : ℕ) → Option RememberedView → ℕ
still_of patience held None = 0
still_of patience held (Some last) = if has_stayed patience held last then one_more patience last.still else 0

-- ---- what it wants

-- what it uses and the headroom beyond that, at most its cap, beside its target
abbrev pub demand_of : (headroom used cap target : ℕ) → ℕ
demand_of headroom used cap target = min cap (div_ceil (used * (100 + headroom)) 100) - target
