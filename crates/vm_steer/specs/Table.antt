-- What is written of a sample as a table: comma-separated values (RFC 4180), a record for each domain. Numbers are decimal. No field needs
-- quotes.
use Rattle.std.specs.Prelude.{ℕ, List, [], ◌∷◌, ◌++◌, codes, Option, Some, None}
use Rattle.std.specs.Fmt.{decimal}
use Rattle.std.specs.List.{flat_map}
use Rattle.vm_plan.specs.State.{state_word}
use Rattle.vm_steer.specs.declared.fate.Fate.{Fate}
use Rattle.vm_steer.specs.declared.fate.Fate.TheVariants.{Left, Steered}
use Rattle.vm_steer.specs.declared.fate.LeftDomain.{LeftDomain}
use Rattle.vm_steer.specs.declared.fate.SteeredDomain.{SteeredDomain}
use Rattle.vm_steer.specs.Entries.{EntryView, ToldView}
use Rattle.vm_steer.specs.Text.{printed}
use Rattle.vm_steer.specs.Whys.{words_of}

-- ---- lines of fields

-- fields behind others, to the end of the line
abbrev pub fields_behind : List (List ℕ) → List ℕ
fields_behind [] = codes "\r\n"
fields_behind (field ∷ fields) = codes "," ++ (field ++ fields_behind fields)

abbrev pub line_of : List (List ℕ) → List ℕ
line_of [] = codes "\r\n"
line_of (field ∷ fields) = field ++ fields_behind fields

-- the names of the fields
unfoldable pub header : List ℕ
header = codes "sample,state,free,domain,held,left,target,used,active,demand,min,cap,shares,order\r\n"

-- ---- the fields of a domain

-- what a domain that is left alone holds, and why it is; there is no more of it
abbrev pub left_fields : LeftDomain → List (List ℕ)
left_fields left = decimal left.held ∷ words_of left.why ∷ [] ∷ [] ∷ [] ∷ [] ∷ [] ∷ [] ∷ [] ∷ [] ∷ []

-- the KiB of an order, or nothing
abbrev pub order_field : Option ℕ → List ℕ
order_field None = []
order_field (Some kib) = decimal kib

-- what the row of a steered domain was, and its order
abbrev pub row_fields : SteeredDomain → List (List ℕ)
row_fields s = decimal s.demand ∷ decimal s.min ∷ decimal s.cap ∷ decimal s.shares ∷ order_field s.order ∷ []

-- its target after all decisions, what it uses, and the fields above
abbrev pub target_fields : SteeredDomain → List (List ℕ)
target_fields s = decimal s.remembered.target ∷ decimal s.used ∷ decimal s.active ∷ row_fields s

-- what it holds without promises, nothing of why it would be left alone, and the fields above
abbrev pub steered_fields : SteeredDomain → List (List ℕ)
steered_fields s = decimal s.remembered.held ∷ [] ∷ target_fields s

abbrev pub fate_fields : Fate → List (List ℕ)
fate_fields (Left left) = left_fields left
fate_fields (Steered steered) = steered_fields steered

-- ---- records

-- the sample, what is told of the whole host, the domain's name where it is a guest's, and the fields above
abbrev pub fields_of : (number : ℕ) → ToldView → EntryView → List (List ℕ)
fields_of number told e = decimal number ∷ state_word told.state ∷ decimal told.free ∷ printed e.name ∷ fate_fields e.fate

abbrev pub record_of : (number : ℕ) → ToldView → EntryView → List ℕ
record_of number told e = line_of (fields_of number told e)

-- those of a good sample, by what is told of it: of its domains in order
unfoldable pub records_of : (number : ℕ) → ToldView → List ℕ
records_of number told = flat_map (record_of number told) told.domains
