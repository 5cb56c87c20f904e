-- A configuration with other values of its guests.
use Rattle.std.specs.Prelude.{ℕ, zero, suc, ◌+◌, ◌*◌, ◌%◌, ◌^◌, List, [], ◌∷◌, map, Option, IsSomeAnd, slice_get}
use Rattle.std.specs.Int.{div_ceil}
use Rattle.std.specs.Option.{option_map}
use Rattle.vm_guest.specs.Config.{GuestConfig}
use Rattle.vm_domains.specs.Domains.{Domain, configs_of}
use Rattle.vm_config.specs.declared.config.Config.{Config}
use Rattle.vm_variants.specs.declared.error.GuestError.{GuestError}
use Rattle.vm_variants.specs.declared.guest_setting.GuestSetting.{GuestSetting}
use Rattle.vm_variants.specs.Guests.{IsInRange, refusal_of, value_of, with_value}

-- a domain whose configuration is changed
abbrev pub reconfigured : (GuestConfig → GuestConfig) → Domain → Domain
reconfigured change d = record d { config = change d.config }

-- ---- one guest

-- the list with a change of the element at a place, counted from 0, if there is one
abbrev pub changed_at : {A : Type 0} → ℕ → (A → A) → List A → List A
changed_at place change [] = []
changed_at zero change (x ∷ xs) = change x ∷ xs
changed_at (suc place) change (x ∷ xs) = x ∷ changed_at place change xs

-- the guest at a place has another value of a setting
abbrev pub with_guest_value : GuestSetting → (place value : ℕ) → Config → Config
with_guest_value setting place value c = record c { domains = changed_at place (reconfigured (with_value setting value)) c.domains }

-- the value of the guest at a place, if there is one
abbrev pub guest_value : GuestSetting → (place : ℕ) → Config → Option ℕ
guest_value setting place c = option_map (value_of setting) (slice_get (configs_of c.domains) place)

-- there is a guest at the place, and the value is in its range
abbrev pub IsAllowed : GuestSetting → (place value : ℕ) → Config → Type 0
IsAllowed setting place value c = IsSomeAnd (slice_get (configs_of c.domains) place) (IsInRange setting value)

-- why a value of the guest at a place is refused, if it is
abbrev pub refusal_in : GuestSetting → (place value : ℕ) → Config → Option GuestError
refusal_in setting place value c = refusal_of setting place value (slice_get (configs_of c.domains) place)

-- ---- each guest

abbrev pub with_each : (GuestConfig → GuestConfig) → Config → Config
with_each change c = record c { domains = map (reconfigured change) c.domains }

-- a percentage of its size as its minimum, rounded up
abbrev pub with_min_percent : ℕ → GuestConfig → GuestConfig
with_min_percent percent guest = record guest { min = div_ceil (percent * guest.size) 100 }

abbrev pub with_minimums : (percent : ℕ) → Config → Config
with_minimums percent c = with_each (with_min_percent percent) c

-- a number added to its seed, modulo 2^64
abbrev pub with_seed_added : ℕ → GuestConfig → GuestConfig
with_seed_added added guest = record guest { seed = (guest.seed + added) % 2 ^ 64 }

abbrev pub with_seeds_added : (added : ℕ) → Config → Config
with_seeds_added added c = with_each (with_seed_added added) c
