-- The keys of a policy, as they are written, and what stands at them.
use Rattle.std.specs.Prelude.{ℕ, List, Option, codes}
use Rattle.serde_json.specs.Data.{Data}
use Rattle.serde_json.specs.Find.{get}
use Rattle.vm_samples.specs.declared.place.Key.{Key}
use Rattle.vm_samples.specs.declared.place.Key.TheVariants.{Version, Memory, Unit, Overhead, Rate, Rebalance, Tax, Percent, Headroom, Cache, Most, Patience, Guests, Name, Min, Max, Shares, Steer}

abbrev pub name_of : Key → List ℕ
name_of Version = codes "version"
name_of Memory = codes "memory"
name_of Unit = codes "unit"
name_of Overhead = codes "overhead"
name_of Rate = codes "rate"
name_of Rebalance = codes "rebalance"
name_of Tax = codes "tax"
name_of Percent = codes "percent"
name_of Headroom = codes "headroom"
name_of Cache = codes "cache"
name_of Most = codes "most"
name_of Patience = codes "patience"
name_of Guests = codes "guests"
name_of Name = codes "name"
name_of Min = codes "min"
name_of Max = codes "max"
name_of Shares = codes "shares"
name_of Steer = codes "steer"

-- what stands at a key
abbrev pub found : Key → Data → Option Data
found key d = get (name_of key) d
