-- What stands at one key of a policy: a value, or what is wrong.
use Rattle.std.specs.Prelude.{◌&&◌, ℕ, ◌^◌, ◌/◌, List, [], ◌∷◌, Bool, if◌then◌else◌, is_some, nat_le, length, Option, Some, None, option_and_then, Result, Ok, Err}
use Rattle.std.specs.Int.{div_ceil}
use Rattle.std.specs.List.{list_all}
use Rattle.std.specs.Option.{ok_or}
use Rattle.serde_json.specs.Data.{Data, Items, no_items, item}
use Rattle.serde_json.specs.Find.{as_array, as_bool, as_number, as_object, as_str, as_u64}
use Rattle.vm_commands.specs.Sizes.{pages_of_size}
use Rattle.vm_plan.specs.declared.thresholds.Percents.{Percents}
use Rattle.vm_samples.specs.declared.fault.Wrong.{Wrong}
use Rattle.vm_samples.specs.declared.fault.Wrong.TheVariants.{Absent, NotWhole, NotAText, NotASize, NotATruth, NotNumbers, NotObjects, TooMany, Range}
use Rattle.vm_samples.specs.Outcomes.{◌>>=◌}

-- a value that has to be there
abbrev pub required : {A : Type 0} → Option A → Result A Wrong
required None = Err Absent
required (Some x) = Ok x

abbrev pub in_range : ℕ → ℕ → ℕ → Result ℕ Wrong
in_range least greatest n = if nat_le least n && nat_le n greatest then Ok n else Err Range

-- ---- numbers

-- A number written with a minus sign, a fraction or an exponent, or of 2^64 and above, is no whole number.
abbrev pub as_whole : Data → Option ℕ
as_whole d = option_and_then as_u64 (as_number d)

abbrev pub number_in : Data → ℕ → ℕ → Result ℕ Wrong
number_in d least greatest = ok_or (as_whole d) NotWhole >>= in_range least greatest

abbrev pub required_number : Option Data → ℕ → ℕ → Result ℕ Wrong
required_number None least greatest = Err Absent
required_number (Some d) least greatest = number_in d least greatest

abbrev pub number_or : Option Data → ℕ → ℕ → ℕ → Result ℕ Wrong
number_or None least greatest default = Ok default
number_or (Some d) least greatest default = number_in d least greatest

-- ---- truth values

abbrev pub truth_or : Option Data → Bool → Result Bool Wrong
truth_or None default = Ok default
truth_or (Some d) default = ok_or (as_bool d) NotATruth

-- ---- texts

abbrev pub text_in : Option Data → Result (List ℕ) Wrong
text_in found = required found >>= (λ d. ok_or (as_str d) NotAText)

-- ---- sizes

-- the KiB of a size, rounded up: its pages of one KiB
abbrev pub kib_of : List ℕ → Result ℕ Wrong
kib_of text = ok_or (pages_of_size 1 text) NotASize

abbrev pub size_in : Data → Result ℕ Wrong
size_in d = ok_or (as_str d) NotAText >>= kib_of

abbrev pub required_size : Option Data → Result ℕ Wrong
required_size None = Err Absent
required_size (Some d) = size_in d

-- a size in units of so many KiB, rounded up
abbrev pub units_in : ℕ → Data → ℕ → ℕ → Result ℕ Wrong
units_in unit d least greatest = size_in d >>= (λ kib. in_range least greatest (div_ceil kib unit))

abbrev pub units_or : ℕ → Option Data → ℕ → ℕ → ℕ → Result ℕ Wrong
units_or unit None least greatest default = Ok default
units_or unit (Some d) least greatest default = units_in unit d least greatest

-- the least and the most units of a guest: at least one, if there are any
abbrev pub least_units : ℕ → Option Data → Result (Option ℕ) Wrong
least_units unit None = Ok None
least_units unit (Some d) = units_in unit d 1 (2 ^ 54) >>= (λ n. Ok (Some n))

-- rounded down
abbrev pub most_units : ℕ → Option Data → Result (Option ℕ) Wrong
most_units unit None = Ok None
most_units unit (Some d) = size_in d >>= (λ kib. in_range 1 (2 ^ 54) (kib / unit)) >>= (λ n. Ok (Some n))

-- ---- lists

abbrev pub list_of : Items → List Data
list_of no_items = []
list_of (item d ds) = d ∷ list_of ds

-- the items of a list; what is none is refused so
abbrev pub items_in : Wrong → Data → Result (List Data) Wrong
items_in wrong d = ok_or (as_array d) wrong >>= (λ items. Ok (list_of items))

abbrev pub is_object : Data → Bool
is_object d = is_some (as_object d)

-- objects alone, at most so many
abbrev pub objects_among : ℕ → List Data → Result (List Data) Wrong
objects_among limit ds = if list_all is_object ds then (if nat_le (length ds) limit then Ok ds else Err TooMany) else Err NotObjects

abbrev pub objects_in : ℕ → Data → Result (List Data) Wrong
objects_in limit d = items_in NotObjects d >>= objects_among limit

-- none where the key is absent
abbrev pub objects_or_none : ℕ → Option Data → Result (List Data) Wrong
objects_or_none limit None = Ok []
objects_or_none limit (Some d) = objects_in limit d

-- ---- percents

abbrev pub is_whole : Data → Bool
is_whole d = is_some (as_whole d)

-- four percents, the first at most `greatest`, and none above the one before it
abbrev pub falling_percents : ℕ → List Data → Result Percents Wrong
falling_percents greatest (a ∷ b ∷ c ∷ d ∷ []) = do
  high ← number_in a 0 greatest
  soft ← number_in b 0 high
  hard ← number_in c 0 soft
  low ← number_in d 0 hard
  Ok (record { high = high; soft = soft; hard = hard; low = low })
falling_percents greatest _ = Err Range

-- an item that is no number is told before one that is out of range
abbrev pub percents_among : ℕ → List Data → Result Percents Wrong
percents_among greatest ds = if list_all is_whole ds then falling_percents greatest ds else Err NotNumbers

abbrev pub percents_in : ℕ → Data → Result Percents Wrong
percents_in greatest d = items_in NotNumbers d >>= percents_among greatest

abbrev pub percents_or : Option Data → ℕ → Percents → Result Percents Wrong
percents_or None greatest default = Ok default
percents_or (Some d) greatest default = percents_in greatest d
