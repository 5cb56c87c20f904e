-- The keys of a policy, and those that its objects have.
use Rattle.std.specs.Prelude.{ℕ, List, [], ◌∷◌, Option, Some, None, option_and_then, codes, map}
use Rattle.json.specs.Find.{at, get}
use Rattle.json.specs.Json.{Json}
use Rattle.vm_keys.specs.Keys.{keys_in}
use Rattle.vm_samples.specs.Places.{name_of}
use Rattle.vm_samples.specs.declared.place.Key.TheVariants.{Version, Memory, Unit, Overhead, Rate, Rebalance, Tax, Percent, Headroom, Cache, Most, Patience, Guests, Name, Min, Max, Shares, Steer}

-- in the order of their table
abbrev pub root_keys : List (List ℕ)
root_keys = map name_of
    (Version ∷ Memory ∷ Unit ∷ Overhead ∷ Rate ∷ Rebalance ∷ Tax ∷ Percent ∷ Headroom ∷ Cache ∷ Most ∷ Patience ∷ Guests ∷ [])

abbrev pub guest_keys : List (List ℕ)
guest_keys = map name_of (Name ∷ Min ∷ Max ∷ Shares ∷ Steer ∷ [])

abbrev pub keys_or_none : Option Json → List (List ℕ)
keys_or_none None = []
keys_or_none (Some j) = keys_in j

-- the keys of a guest, by its number
abbrev pub keys_of_guest : ℕ → Json → List (List ℕ)
keys_of_guest guest root = keys_or_none (option_and_then (at guest) (get (codes "guests") root))
