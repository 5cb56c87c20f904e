-- What is told of a text that is refused: its first fault, with the number and its range where it is out of that.
use Rattle.std.specs.Prelude.{ℕ, Bool, true, false, List, ◌++◌, codes, if◌then◌else◌, option_map, option_and_then, Option, Some, None}
use Rattle.std.specs.Fmt.{decimal}
use Rattle.json.specs.Json.{Json}
use Rattle.vm_config.specs.declared.error.ConfigError.{ConfigError}
use Rattle.vm_config.specs.declared.error.ConfigError.TheVariants.{NotJson, Missing, Kind, Range as OutOfRange, Name, Twice, Trace, Memory}
use Rattle.vm_config.specs.declared.fault.Fault.{Fault}
use Rattle.vm_config.specs.declared.place.Key.{Key}
use Rattle.vm_config.specs.declared.place.Key.TheVariants.{Version, Frames, Swap, Overhead, Tax, Percent, PageRate, Rebalance, Page, Quantum, Epochs, Guests, Commands, Name as NameKey, Size, Min, Shares, Samples, Period, Rate, Seed, Stream, Autostart, Tell, Driver, Trace as TraceKey, At, Line}
use Rattle.vm_config.specs.declared.place.Part.{Part}
use Rattle.vm_config.specs.declared.place.Place.{Place}
use Rattle.vm_config.specs.declared.place.Place.TheVariants as place
use Rattle.vm_config.specs.FaultTexts.{text_of}
use Rattle.vm_config.specs.Places.{name_of}
use Rattle.vm_trace.specs.TraceError as step
use Rattle.vm_check.specs.declared.range.Range.{Range}
use Rattle.vm_check.specs.declared.refused.Ranged.{Ranged}
use Rattle.vm_check.specs.Document.{number_at, part_in, version_of}
use Rattle.vm_check.specs.Ranges.{range_of}

-- ---- a number out of its range

infixl 10 ◌>>=◌
abbrev pub ◌>>=◌ : {A B : Type 0} → Option A → (A → Option B) → Option B
o >>= f = option_and_then f o

-- a number as it is written, its range, and at a minimum the size of its guest, which bounds it too
pub record RangedView : Type 0 where
  pub value : List ℕ
  pub range : Range
  pub size : Option (List ℕ)

abbrev pub ranged : Ranged → RangedView
ranged r = record { value = r.value.now; range = r.range; size = option_map (λ s. s.now) r.size }

abbrev pub is_min : Key → Bool
is_min Version = false
is_min Frames = false
is_min Swap = false
is_min Overhead = false
is_min Tax = false
is_min Percent = false
is_min PageRate = false
is_min Rebalance = false
is_min Page = false
is_min Quantum = false
is_min Epochs = false
is_min Guests = false
is_min Commands = false
is_min NameKey = false
is_min Size = false
is_min Min = true
is_min Shares = false
is_min Samples = false
is_min Period = false
is_min Rate = false
is_min Seed = false
is_min Stream = false
is_min Autostart = false
is_min Tell = false
is_min Driver = false
is_min TraceKey = false
is_min At = false
is_min Line = false

abbrev pub size_for : Key → Json → Option (List ℕ)
size_for key owner = if is_min key then number_at (codes "size") owner else None

-- at a key of a part, if a number with a range stands there
abbrev pub ranged_in : Part → Key → Json → Option RangedView
ranged_in part key j = do
  owner ← part_in part j
  value ← number_at (name_of key) owner
  range ← range_of (version_of j) key
  Some (record { value = value; range = range; size = size_for key owner })

abbrev pub ranged_at : Place → Json → Option RangedView
ranged_at place.Text j = None
ranged_at (place.Key part key) j = ranged_in part key j

abbrev pub is_range : ConfigError → Bool
is_range NotJson = false
is_range Missing = false
is_range Kind = false
is_range OutOfRange = true
is_range Name = false
is_range Twice = false
is_range (Trace guest number fault) = false
is_range Memory = false

-- where a fault is that
abbrev pub ranged_by : Option Json → Fault → Option RangedView
ranged_by j fault = if is_range fault.error then option_and_then (ranged_at fault.place) j else None

-- the greatest that is allowed: the size of the guest, or that of the range
abbrev pub size_or : ℕ → Option (List ℕ) → List ℕ
size_or greatest None = decimal greatest
size_or greatest (Some size) = size

abbrev pub ranged_text : Place → RangedView → List ℕ
ranged_text p r =
    text_of p ++ (codes ": " ++ (r.value ++ (codes ", allowed " ++ (decimal r.range.least ++ (codes " to " ++ size_or r.range.greatest r.size)))))

-- ---- another fault

-- the words of an error without a number
abbrev pub words_of : ConfigError → List ℕ
words_of NotJson = codes "not a JSON text"
words_of Missing = codes "a required key is absent"
words_of Kind = codes "a value is not of its key's kind"
words_of OutOfRange = codes "a value is outside its key's range"
words_of Name = codes "a name has a character or a length that names do not have"
words_of Twice = codes "two guests have one name"
words_of (Trace guest number fault) = codes "a step has a fault"
words_of Memory = codes "out of memory"

-- a value of another kind; the text as a whole is no object
abbrev pub kind_words : Place → List ℕ
kind_words place.Text = codes "not an object"
kind_words (place.Key part key) = words_of Kind

abbrev pub words_at : Place → ConfigError → List ℕ
words_at p NotJson = words_of NotJson
words_at p Missing = words_of Missing
words_at p Kind = kind_words p
words_at p OutOfRange = words_of OutOfRange
words_at p Name = words_of Name
words_at p Twice = words_of Twice
words_at p (Trace guest number fault) = codes "step " ++ (decimal number ++ (codes ": " ++ step.text_of fault))
words_at p Memory = words_of Memory

abbrev pub plain_text : Fault → List ℕ
plain_text fault = text_of fault.place ++ (codes ": " ++ words_at fault.place fault.error)

-- ---- the line

abbrev pub text_by : Fault → Option RangedView → List ℕ
text_by fault None = plain_text fault
text_by fault (Some r) = ranged_text fault.place r

-- of the JSON value of a text, if it has one, and its first fault
abbrev pub refused_text : Option Json → Fault → List ℕ
refused_text j fault = text_by fault (ranged_by j fault)
