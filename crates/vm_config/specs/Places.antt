-- The places of a configuration, and what is read at one: a value, or the error with the place.
use Rattle.std.specs.Prelude.{◌≡◌, ℕ, Bool, List, ◌⊎◌, IsErrAnd, Option, Some, None, Result, Ok, Err, codes}
use Rattle.serde_json.specs.Data.{Data}
use Rattle.serde_json.specs.Find.{get}
use Rattle.vm_config.specs.declared.error.ConfigError.{ConfigError}
use Rattle.vm_config.specs.declared.error.ConfigError.TheVariants.{Memory}
use Rattle.vm_config.specs.declared.place.Key.{Key}
use Rattle.vm_config.specs.declared.place.Key.TheVariants.{Version, Frames, Swap, Overhead, Tax, Percent, PageRate, Rebalance, Page, Quantum, Epochs, Guests, Commands, Name, Size, Min, Shares, Samples, Period, Rate, Seed, Stream, Autostart, Tell, Driver, Trace, At, Line}
use Rattle.vm_config.specs.declared.place.Part.{Part}
use Rattle.vm_config.specs.declared.place.Place.{Place}
use Rattle.vm_config.specs.declared.place.Place.TheVariants as place
use Rattle.vm_config.specs.declared.fault.Fault.{Fault}
use Rattle.vm_plan.specs.declared.thresholds.Percents.{Percents}
use Rattle.vm_config.specs.Keys.{required_number, number_or, number_if, flag_or, flag_if, own_driver_or, own_driver_if, percents_or}

-- the key, as it is written
abbrev pub name_of : Key → List ℕ
name_of Version = codes "version"
name_of Frames = codes "frames"
name_of Swap = codes "swap"
name_of Overhead = codes "overhead"
name_of Tax = codes "tax"
name_of Percent = codes "percent"
name_of PageRate = codes "page_rate"
name_of Rebalance = codes "rebalance"
name_of Page = codes "page"
name_of Quantum = codes "quantum"
name_of Epochs = codes "epochs"
name_of Guests = codes "guests"
name_of Commands = codes "commands"
name_of Name = codes "name"
name_of Size = codes "size"
name_of Min = codes "min"
name_of Shares = codes "shares"
name_of Samples = codes "samples"
name_of Period = codes "period"
name_of Rate = codes "rate"
name_of Seed = codes "seed"
name_of Stream = codes "stream"
name_of Autostart = codes "autostart"
name_of Tell = codes "tell"
name_of Driver = codes "driver"
name_of Trace = codes "trace"
name_of At = codes "at"
name_of Line = codes "line"

-- ---- an error with its place

abbrev pub placed : {A : Type 0} → Place → Result A ConfigError → Result A Fault
placed where_it_is (Ok x) = Ok x
placed where_it_is (Err error) = Err (record { error = error; place = where_it_is })

-- of the text as a whole
abbrev pub in_text : {A : Type 0} → Result A ConfigError → Result A Fault
in_text answer = placed place.Text answer

-- at a key of a part
abbrev pub at : {A : Type 0} → Part → Key → Result A ConfigError → Result A Fault
at part key answer = placed (place.Key part key) answer

abbrev pub number_at : Data → Part → Key → ℕ → ℕ → Result ℕ Fault
number_at d part key least greatest = at part key (required_number (get (name_of key) d) least greatest)

abbrev pub number_or_at : Data → Part → Key → ℕ → ℕ → ℕ → Result ℕ Fault
number_or_at d part key least greatest default = at part key (number_or (get (name_of key) d) least greatest default)

abbrev pub number_if_at : Bool → Data → Part → Key → ℕ → ℕ → ℕ → Result ℕ Fault
number_if_at is_known d part key least greatest default = at part key (number_if is_known (get (name_of key) d) least greatest default)

abbrev pub flag_or_at : Data → Part → Key → Bool → Result Bool Fault
flag_or_at d part key default = at part key (flag_or (get (name_of key) d) default)

abbrev pub flag_if_at : Bool → Data → Part → Key → Bool → Result Bool Fault
flag_if_at is_known d part key default = at part key (flag_if is_known (get (name_of key) d) default)

abbrev pub own_driver_or_at : Data → Part → Result Bool Fault
own_driver_or_at d part = at part Driver (own_driver_or (get (name_of Driver) d))

abbrev pub own_driver_if_at : Bool → Data → Part → Result Bool Fault
own_driver_if_at is_known d part = at part Driver (own_driver_if is_known (get (name_of Driver) d))

abbrev pub percents_or_at : Data → Part → Key → ℕ → Percents → Result Percents Fault
percents_or_at d part key most default = at part key (percents_or (get (name_of key) d) most default)

-- ---- parts of an answer

abbrev pub without_place : {A : Type 0} → Result A Fault → Result A ConfigError
without_place (Ok x) = Ok x
without_place (Err fault) = Err fault.error

abbrev pub error_in : {A : Type 0} → Result A ConfigError → Option ConfigError
error_in (Ok x) = None
error_in (Err error) = Some error

abbrev pub fault_in : {A : Type 0} → Result A Fault → Option Fault
fault_in (Ok x) = None
fault_in (Err fault) = Some fault

-- the answer is the one that is wanted, or want of memory at some place
abbrev pub IsOrLacksMemory : {A : Type 0} → Result A Fault → Result A Fault → Type 0
IsOrLacksMemory result wanted = (result ≡ wanted) ⊎ IsErrAnd result (λ fault. fault.error ≡ Memory)
