-- How a text becomes an item: what one pass finds in front of a text, and what is entered.
use Rattle.std.specs.Prelude.{◌≡◌, ℕ, ◌<◌, ◌≤◌, List, ◌∷◌, ◌++◌, length, true, false, Ok, All}
use Rattle.std.specs.Char.{is_ascii_digit, digit_value}
use Rattle.vm_trace.specs.declared.entry.Item.{Item}
use Rattle.vm_trace.specs.declared.limits.StepLimits.{StepLimits}
use Rattle.vm_trace.specs.Entries.{count_of, action_at, steps_at, bytes_of, end_of}
use Rattle.vm_trace.specs.Limits.{IsStep, IsWithin}
use Rattle.vm_trace.specs.Sized.{steps_in}
use Rattle.vm_trace.specs.Spelling.{IsNumeral, AreSpelled}
use Rattle.vm_trace.specs.TextSteps.{IsRow}
use Rattle.vm_trace.specs.declared.text_steps.Row.{Row}
use Rattle.vm_trace.specs.Words.{hex_pairs, is_hex}

-- the byte is the decimal digit of the number
pub record IsDecimal (byte n : ℕ) : Type 0 where
  pub digit : is_ascii_digit byte ≡ true
  pub value : n ≡ digit_value byte

-- the text is a numeral, a space and the rest
abbrev pub IsField : List ℕ → ℕ → List ℕ → Type 0
IsField text n rest = (word : List ℕ) × IsNumeral word n × (text ≡ word ++ 32 ∷ rest)

-- the text is a page, an offset and the rest, with a space behind each number
pub record IsPlace (pages : ℕ) (text : List ℕ) (page offset : ℕ) (rest : List ℕ) : Type 0 where
  pub middle : List ℕ
  pub page_word : IsField text page middle
  pub offset_word : IsField middle offset rest
  pub inside : page < pages

-- the text is a page and a count, all of whose pages are of a guest with this many
pub record IsRowOf (pages : ℕ) (text : List ℕ) (row : Row) : Type 0 where
  pub rest : List ℕ
  pub page_word : IsField text row.page rest
  pub count_word : IsNumeral rest row.count
  pub all : IsRow pages row

-- the bytes that hexadecimal digits spell were put behind the old ones, where they start
pub record KeepsHex (digits old new : List ℕ) (start : ℕ) : Type 0 where
  pub hex : is_hex digits ≡ true
  pub place : start ≡ length old
  pub added : new ≡ old ++ hex_pairs digits

-- the text is no hexadecimal bytes, and nothing was put behind the old ones
pub record LeavesHex (text old new : List ℕ) : Type 0 where
  pub other : is_hex text ≡ false
  pub same : new ≡ old

-- the item is the steps that the text spells, and its bytes were put behind the old ones
pub record IsEntered (limits : StepLimits) (text old new : List ℕ) (i : Item) : Type 0 where
  pub spelled : AreSpelled limits text (steps_at new i)
  pub within : end_of i ≤ length new
  pub added : new ≡ old ++ bytes_of (action_at new i 0)

-- behind the letter, a space and the place, the rest of the text makes it the text of the item
abbrev pub IsEnteredAt : (letter page offset : ℕ) (rest old new : List ℕ) → Item → Type 0
IsEnteredAt letter page offset rest old new i =
    (limits : StepLimits) (text : List ℕ) → IsPlace limits.pages text page offset rest → IsEntered limits (letter ∷ 32 ∷ text) old new i

-- the item is the steps that a text stands for, and its bytes were put behind the old ones
pub record IsItemOf (limits : StepLimits) (size : ℕ) (text old new : List ℕ) (i : Item) : Type 0 where
  pub read : steps_in limits size text ≡ Ok (steps_at new i)
  pub pages : All (IsWithin size) (steps_at new i)
  pub bounded : All IsStep (steps_at new i)
  pub within : end_of i ≤ length new
  pub added : new ≡ old ++ bytes_of (action_at new i 0)
  pub some : 1 ≤ count_of i
