-- What is written of a sample. Each line ends with a line feed, and numbers are decimal. Lines that begin with `#` are comments to virsh.
use Rattle.std.specs.Prelude.{ℕ, zero, suc, List, [], ◌++◌, codes, if◌then◌else◌, Option, Some, None}
use Rattle.std.specs.Fmt.{decimal}
use Rattle.std.specs.List.{flat_map}
use Rattle.vm_plan.specs.declared.state.State.{State}
use Rattle.vm_plan.specs.State.{state_word}
use Rattle.vm_samples.specs.BadLines.{text_of_what}
use Rattle.vm_samples.specs.declared.sample.BadSample.{BadSample}
use Rattle.vm_samples.specs.Names.{is_name}
use Rattle.vm_steer.specs.declared.fate.Fate.{Fate}
use Rattle.vm_steer.specs.declared.fate.Fate.TheVariants.{Left, Steered}
use Rattle.vm_steer.specs.declared.fate.LeftDomain.{LeftDomain}
use Rattle.vm_steer.specs.declared.fate.SteeredDomain.{SteeredDomain}
use Rattle.vm_steer.specs.declared.lines.Part.{Part}
use Rattle.vm_steer.specs.declared.lines.Part.TheVariants.{LeftAlone, Revoked, Granted, Rebalanced, Guests}
use Rattle.vm_steer.specs.Entries.{EntryView, ToldView}
use Rattle.vm_steer.specs.Remembered.{RememberedView}
use Rattle.vm_steer.specs.Whys.{words_of}

-- a name, where it is a guest's
abbrev pub printed : (name : List ℕ) → List ℕ
printed name = if is_name name then name else codes "-"

-- a line's last number
abbrev pub ending : ℕ → List ℕ
ending number = codes " " ++ (decimal number ++ codes "\n")

-- a number behind its label
abbrev pub labelled : (label : List ℕ) → ℕ → List ℕ
labelled label number = label ++ decimal number

-- a line's last words
abbrev pub words_ending : List ℕ → List ℕ
words_ending words = codes " " ++ (words ++ codes "\n")

-- ---- lines

unfoldable pub sample_line : ℕ → List ℕ
sample_line number = codes "# sample" ++ ending number

unfoldable pub left_line : (name : List ℕ) → LeftDomain → List ℕ
left_line name left = codes "# left " ++ (printed name ++ (labelled (codes " ") left.held ++ words_ending (words_of left.why)))

unfoldable pub state_line : State → (free : ℕ) → List ℕ
state_line state free = codes "# state " ++ (state_word state ++ (codes " free" ++ ending free))

-- how often a domain is in a list, if it is
abbrev pub count_line : (word name : List ℕ) → ℕ → List ℕ
count_line word name zero = []
count_line word name (suc count) = word ++ (name ++ ending (suc count))

-- what a domain is meant to hold, and what it holds
abbrev pub holdings : RememberedView → List ℕ
holdings m = labelled (codes " target ") m.target ++ labelled (codes " held ") m.held

abbrev pub uses : (used active : ℕ) → List ℕ
uses used active = labelled (codes " used ") used ++ (codes " active" ++ ending active)

unfoldable pub guest_line : (name : List ℕ) → SteeredDomain → List ℕ
guest_line name steered = codes "# guest " ++ (name ++ (holdings steered.remembered ++ uses steered.used steered.active))

-- the order to its balloon, if it is ordered
abbrev pub order_line : (name : List ℕ) → (order : Option ℕ) → List ℕ
order_line name None = []
order_line name (Some kib) = codes "setmem " ++ (name ++ ending kib)

-- the first line for which a sample is bad, and why
unfoldable pub bad_line : BadSample → List ℕ
bad_line bad = codes "# line " ++ (decimal bad.line ++ (codes ": " ++ (text_of_what bad.what ++ codes "\n")))

-- ---- the lines of a domain, part by part

abbrev pub left_lines : Part → (name : List ℕ) → LeftDomain → List ℕ
left_lines LeftAlone name left = left_line name left
left_lines Revoked name left = []
left_lines Granted name left = []
left_lines Rebalanced name left = []
left_lines Guests name left = []

abbrev pub steered_lines : Part → (name : List ℕ) → SteeredDomain → List ℕ
steered_lines LeftAlone name steered = []
steered_lines Revoked name steered = count_line (codes "# revoke ") name steered.revoked
steered_lines Granted name steered = count_line (codes "# grant ") name steered.granted
steered_lines Rebalanced name steered = count_line (codes "# rebalance ") name steered.rebalanced
steered_lines Guests name steered = guest_line name steered ++ order_line name steered.order

abbrev pub lines_in : Part → (name : List ℕ) → Fate → List ℕ
lines_in part name (Left left) = left_lines part name left
lines_in part name (Steered steered) = steered_lines part name steered

-- those of all domains, in order
abbrev pub lines_of : Part → List EntryView → List ℕ
lines_of part domains = flat_map (λ e. lines_in part e.name e.fate) domains

-- ---- texts

-- what is written of a good sample, by what is told of it
unfoldable pub text_of : (number : ℕ) → ToldView → List ℕ
text_of number told =
    sample_line number ++ (lines_of LeftAlone told.domains ++ (state_line told.state told.free
    ++ (lines_of Revoked told.domains ++ (lines_of Granted told.domains ++ (lines_of Rebalanced told.domains ++ lines_of Guests told.domains)))))

-- what is written of a bad one
unfoldable pub bad_text : (number : ℕ) → BadSample → List ℕ
bad_text number bad = sample_line number ++ bad_line bad
