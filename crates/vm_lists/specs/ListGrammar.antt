-- Which texts are lists of which values.
use Rattle.std.specs.Prelude.{◌≡◌, ℕ, ◌+◌, ◌-◌, ◌*◌, ◌^◌, ◌<◌, ◌≤◌, ◌⊎◌, ⊤, List, [], ◌∷◌, ◌++◌, length, map, codes, Result, Ok, IsErrAnd}
use Rattle.std.specs.List.{AllPass, concat, join_with_byte}
use Rattle.std.specs.Char.{is_ascii_digit}
use Rattle.std.specs.Str.Parse.{digits_value}
use Rattle.vm_lists.specs.declared.bounds.Unit.{Unit as Units}
use Rattle.vm_lists.specs.declared.bounds.Unit.TheVariants.{Whole, Hundredths}
use Rattle.vm_lists.specs.declared.bounds.Limits.{Limits}
use Rattle.vm_lists.specs.declared.faults.ListFault.{ListFault}
use Rattle.vm_lists.specs.declared.faults.ListFaultKind.TheVariants.{Memory}
use Rattle.vm_lists.specs.Items.{one_of}
use Rattle.vm_lists.specs.Lists.{IsWithin}
use Rattle.vm_lists.specs.Ranges.{range_of}

-- 1 to so many decimal digits
pub record IsNumeral (most : ℕ) (word : List ℕ) (n : ℕ) : Type 0 where
  pub some : 1 ≤ length word
  pub short : length word ≤ most
  pub decimal : AllPass is_ascii_digit word
  pub value : digits_value 10 word ≡ n

-- one or two decimals count tenths or hundredths
abbrev pub AreDecimals : List ℕ → ℕ → Type 0
AreDecimals word hundredths = (n : ℕ) × IsNumeral 2 word n × (hundredths ≡ n * 10 ^ (2 - length word))

-- percent with decimals behind a point
pub record IsPointed (word : List ℕ) (value : ℕ) : Type 0 where
  pub front : List ℕ
  pub decimals : List ℕ
  pub percent : ℕ
  pub hundredths : ℕ
  pub whole : word ≡ front ++ (codes "." ++ decimals)
  pub before : IsNumeral 10 front percent
  pub behind : AreDecimals decimals hundredths
  pub sum : value ≡ 100 * percent + hundredths

abbrev pub IsNumber : Units → List ℕ → ℕ → Type 0
IsNumber Whole word value = IsNumeral 10 word value
IsNumber Hundredths word value = ((percent : ℕ) × IsNumeral 10 word percent × (value ≡ 100 * percent)) ⊎ IsPointed word value

-- the forms of an item, with their numbers
pub data Form : Type 0 where
  Single : ℕ → Form
  Range : ℕ → ℕ → Form
  Stepped : ℕ → ℕ → ℕ → Form

abbrev pub HasForm : Units → List ℕ → Form → Type 0
HasForm unit text (Single number) = IsNumber unit text number
HasForm unit text (Range from to) =
    (a b : List ℕ) × IsNumber unit a from × IsNumber unit b to × (text ≡ a ++ (codes ".." ++ b))
HasForm unit text (Stepped from to step) =
    (a b d : List ℕ) × IsNumber unit a from × IsNumber unit b to × IsNumber unit d step
    × (text ≡ a ++ (codes ".." ++ (b ++ (codes "/" ++ d))))

abbrev pub from_of : Form → ℕ
from_of (Single number) = number
from_of (Range from to) = from
from_of (Stepped from to step) = from

abbrev pub to_of : Form → ℕ
to_of (Single number) = number
to_of (Range from to) = to
to_of (Stepped from to step) = to

-- a step that isn't named is 1, or 1 percent
abbrev pub step_of : Units → Form → ℕ
step_of unit (Single number) = one_of unit
step_of unit (Range from to) = one_of unit
step_of unit (Stepped from to step) = step

-- the range may stand in a list
pub record IsAllowed (limits : Limits) (from to step : ℕ) : Type 0 where
  pub beginning : IsWithin limits from
  pub end : IsWithin limits to
  pub ordered : from ≤ to
  pub some : 0 < step

-- the text is an item of these values
pub record IsItem (limits : Limits) (text values : List ℕ) : Type 0 where
  pub form : Form
  pub spelled : HasForm limits.unit text form
  pub allowed : IsAllowed limits (from_of form) (to_of form) (step_of limits.unit form)
  pub same : values ≡ range_of (from_of form) (to_of form) (step_of limits.unit form)

-- each text is an item of the values beside it
abbrev pub AreItems : Limits → List (List ℕ × List ℕ) → Type 0
AreItems limits [] = ⊤
AreItems limits (item ∷ items) = IsItem limits item.0 item.1 × AreItems limits items

-- the text is a list of these values: items with commas between them
pub record IsList (limits : Limits) (text values : List ℕ) : Type 0 where
  pub items : List (List ℕ × List ℕ)
  pub some : 1 ≤ length items
  pub each : AreItems limits items
  pub texts : text ≡ join_with_byte 44 (map (λ item. item.0) items)
  pub joined : values ≡ concat (map (λ item. item.1) items)

-- the answer is these values, or there was no memory for them
abbrev pub IsOrMemory : Result (List ℕ) ListFault → List ℕ → Type 0
IsOrMemory answer values = (answer ≡ Ok values) ⊎ IsErrAnd answer (λ found. found.kind ≡ Memory)
