-- The policy that a text means, or its first fault. Keys are looked at in the order of the lines of `policy_of` and of what these
-- name.
use Rattle.std.specs.Prelude.{ℕ, zero, suc, ◌+◌, ◌*◌, ◌/◌, List, [], ◌∷◌, ◌++◌, Bool, true, if◌then◌else◌, max, nat_le, nat_lt, length, bytes_eq, Option, Some, None, Result, Ok, Err}
use Rattle.std.specs.Int.{div_ceil}
use Rattle.std.specs.List.{list_any}
use Rattle.std.specs.Str.{is_utf8}
use Rattle.serde_json.specs.Data.{Data}
use Rattle.serde_json.specs.Read.{read}
use Rattle.vm_plan.specs.declared.thresholds.Percents.{Percents}
use Rattle.vm_samples.specs.declared.fault.PolicyFault.{PolicyFault}
use Rattle.vm_samples.specs.declared.fault.Wrong.{Wrong}
use Rattle.vm_samples.specs.declared.fault.Wrong.TheVariants.{NotJson, NotAnObject, NotAName, Twice, Range}
use Rattle.vm_samples.specs.declared.place.Key.TheVariants as key
use Rattle.vm_samples.specs.declared.place.Place.TheVariants.{Text, Root, Guest}
use Rattle.vm_samples.specs.declared.policy_text.Fields.{Fields}
use Rattle.vm_samples.specs.declared.root.Amounts.{Amounts}
use Rattle.vm_samples.specs.declared.root.Scale.{Scale}
use Rattle.vm_samples.specs.declared.root.Shares.{Shares}
use Rattle.vm_samples.specs.declared.root.Wants.{Wants}
use Rattle.vm_samples.specs.Keys.{in_range, is_object, least_units, most_units, number_in, number_or, objects_or_none, percents_or, required_number, required_size, size_in, text_in, truth_or, units_or}
use Rattle.vm_samples.specs.Names.{is_name}
use Rattle.vm_samples.specs.Outcomes.{◌>>=◌}
use Rattle.vm_samples.specs.Placed.{at}
use Rattle.vm_samples.specs.Places.{found}
use Rattle.vm_samples.specs.Policies.{GuestPolicyView, PolicyView}

-- ---- the keys of the root

-- 1 MiB, doubled so often at most until memory is at most 262144 units
abbrev pub doubled : ℕ → ℕ → ℕ → ℕ
doubled zero unit memory = unit
doubled (suc times) unit memory = if nat_le (memory / unit) 262144 then unit else doubled times (2 * unit) memory

-- where no unit is given, for a memory of so many KiB; 1 GiB is the greatest unit
abbrev pub default_unit : ℕ → ℕ
default_unit memory = doubled 10 1024 memory

abbrev pub unit_or : Option Data → ℕ → Result ℕ Wrong
unit_or None memory = Ok (default_unit memory)
unit_or (Some d) memory = size_in d >>= in_range 4 1048576

-- the version, and the unit in KiB with the memory in units, rounded down, whose range is judged once the unit is known
unfoldable pub scale_at : Data → Result Scale PolicyFault
scale_at d = do
  version ← at (Root key.Version) (required_number (found key.Version d) 1 1)
  memory ← at (Root key.Memory) (required_size (found key.Memory d))
  unit ← at (Root key.Unit) (unit_or (found key.Unit d) memory)
  units ← at (Root key.Memory) (in_range 1 262144 (memory / unit))
  Ok (record { unit = unit; memory = units })

-- the greater of 128 MiB, rounded up, and a 64th of memory, in units
abbrev pub default_rate : Scale → ℕ
default_rate scale = max (div_ceil 131072 scale.unit) (scale.memory / 64)

unfoldable pub amounts_at : Scale → Data → Result Amounts PolicyFault
amounts_at scale d = do
  overhead ← at (Root key.Overhead) (units_or scale.unit (found key.Overhead d) 0 1024 0)
  rate ← at (Root key.Rate) (units_or scale.unit (found key.Rate d) 1 262144 (default_rate scale))
  rebalance ← at (Root key.Rebalance) (units_or scale.unit (found key.Rebalance d) 0 262144 rate)
  Ok (record { overhead = overhead; rate = rate; rebalance = rebalance })

abbrev pub default_percents : Percents
default_percents = record { high = 600; soft = 400; hard = 200; low = 100 }

unfoldable pub shares_at : Data → Result Shares PolicyFault
shares_at d = do
  tax ← at (Root key.Tax) (number_or (found key.Tax d) 0 9999 7500)
  percents ← at (Root key.Percent) (percents_or (found key.Percent d) 10000 default_percents)
  Ok (record { tax = tax; percents = percents })

-- what counts as used of the cache leaves some of it idle, with this headroom
abbrev pub settles : ℕ → ℕ → Bool
settles headroom cache = nat_lt ((100 + headroom) * cache) 10000

abbrev pub cache_within : ℕ → ℕ → Result ℕ Wrong
cache_within headroom cache = if settles headroom cache then Ok cache else Err Range

abbrev pub cache_or : Option Data → ℕ → Result ℕ Wrong
cache_or None headroom = Ok (if settles headroom 50 then 50 else 0)
cache_or (Some d) headroom = number_in d 0 100 >>= cache_within headroom

unfoldable pub wants_at : Data → Result Wants PolicyFault
wants_at d = do
  headroom ← at (Root key.Headroom) (number_or (found key.Headroom d) 0 1000 20)
  cache ← at (Root key.Cache) (cache_or (found key.Cache d) headroom)
  most ← at (Root key.Most) (number_or (found key.Most d) 0 99 65)
  patience ← at (Root key.Patience) (number_or (found key.Patience d) 1 10000 5)
  Ok (record { headroom = headroom; cache = cache; most = most; patience = patience })

-- ---- guests

-- whether a guest has this name
abbrev pub has_name : List ℕ → List GuestPolicyView → Bool
has_name name guests = list_any (λ guest. bytes_eq guest.name name) guests

-- a text that is a name, and no earlier guest's
abbrev pub fresh_name : List GuestPolicyView → List ℕ → Result (List ℕ) Wrong
fresh_name earlier name = if is_name name then (if has_name name earlier then Err Twice else Ok name) else Err NotAName

abbrev pub name_in : List GuestPolicyView → Option Data → Result (List ℕ) Wrong
name_in earlier found = text_in found >>= fresh_name earlier

-- the guest behind these ones, with units of so many KiB
unfoldable pub guest_at : ℕ → List GuestPolicyView → Data → Result GuestPolicyView PolicyFault
guest_at unit earlier d = do
  name ← at (Guest (length earlier) key.Name) (name_in earlier (found key.Name d))
  min ← at (Guest (length earlier) key.Min) (least_units unit (found key.Min d))
  max ← at (Guest (length earlier) key.Max) (most_units unit (found key.Max d))
  shares ← at (Guest (length earlier) key.Shares) (number_or (found key.Shares d) 1 1000000 1000)
  steer ← at (Guest (length earlier) key.Steer) (truth_or (found key.Steer d) true)
  Ok (record { name = name; min = min; max = max; shares = shares; steer = steer })

-- the guests, one by one, behind these ones
abbrev pub guests_at : ℕ → List Data → List GuestPolicyView → Result (List GuestPolicyView) PolicyFault
guests_at unit [] earlier = Ok earlier
guests_at unit (d ∷ ds) earlier = do
  guest ← guest_at unit earlier d
  guests_at unit ds (earlier ++ guest ∷ [])

-- ---- the whole

-- all keys of the root but its guests
unfoldable pub fields_at : Data → Result Fields PolicyFault
fields_at d = do
  scale ← scale_at d
  amounts ← amounts_at scale d
  shares ← shares_at d
  wants ← wants_at d
  Ok (record { scale = scale; amounts = amounts; shares = shares; wants = wants })

-- all keys of the root, and then each guest
unfoldable pub root_at : Data → Result PolicyView PolicyFault
root_at d = do
  fields ← fields_at d
  objects ← at (Root key.Guests) (objects_or_none 256 (found key.Guests d))
  guests ← guests_at fields.scale.unit objects []
  Ok (record {
    unit = fields.scale.unit;
    memory = fields.scale.memory;
    overhead = fields.amounts.overhead;
    rate = fields.amounts.rate;
    rebalance = fields.amounts.rebalance;
    tax = fields.shares.tax;
    percents = fields.shares.percents;
    headroom = fields.wants.headroom;
    cache = fields.wants.cache;
    most = fields.wants.most;
    patience = fields.wants.patience;
    guests = guests;
  })

abbrev pub json_in : Option Data → Result Data Wrong
json_in None = Err NotJson
json_in (Some d) = Ok d

-- the JSON value that the bytes are, which have to be UTF-8
abbrev pub data_in : List ℕ → Result Data Wrong
data_in bytes = if is_utf8 bytes then json_in (read bytes) else Err NotJson

abbrev pub object_of : Data → Result Data Wrong
object_of d = if is_object d then Ok d else Err NotAnObject

abbrev pub root_in : List ℕ → Result Data PolicyFault
root_in text = at Text (data_in text >>= object_of)

-- the policy that a text means
unfoldable pub policy_of : List ℕ → Result PolicyView PolicyFault
policy_of text = do
  root ← root_in text
  root_at root
