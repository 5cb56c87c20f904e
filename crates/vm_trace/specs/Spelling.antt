-- How steps are spelled, in this project's format of traces: the words of each step, single spaces between them.
use Rattle.std.specs.Prelude.{◌≡◌, ℕ, ◌+◌, ◌%◌, ◌≤◌, ⊤, ◌⊎◌, true, nat_lt, List, [], ◌∷◌, length, map, codes}
use Rattle.std.specs.List.{AllPass, join_with_byte, range_with_len}
use Rattle.std.specs.Char.{is_ascii_digit, digit_value}
use Rattle.std.specs.Str.Parse.{digits_value}
use Rattle.vm_trace.specs.declared.limits.StepLimits.{StepLimits}
use Rattle.vm_trace.specs.declared.step.Queue.{Queue}
use Rattle.vm_trace.specs.declared.step.Queue.TheVariants.{Inflate, Deflate, Stats}
use Rattle.vm_trace.specs.declared.step.Step.{Step}
use Rattle.vm_trace.specs.declared.step.Action.TheVariants.{Read, Write, Touch, Free, Idle, Yield, Post, Actual}
use Rattle.vm_trace.specs.Limits.{IsWithin, HasFewBytes}
use Rattle.vm_trace.specs.Versions.{most_posted}
use Rattle.vm_trace.specs.Words.{hex_pairs}

-- 1 to 10 decimal digits, in front of which zeros may stand
pub record IsNumeral (word : List ℕ) (n : ℕ) : Type 0 where
  pub some : 1 ≤ length word
  pub short : length word ≤ 10
  pub digits : AllPass is_ascii_digit word
  pub value : digits_value 10 word ≡ n

-- two hexadecimal digits for each byte
pub record IsHexOf (word bytes : List ℕ) : Type 0 where
  pub even : length word % 2 ≡ 0
  pub digits : AllPass (λ c. nat_lt (digit_value c) 16) word
  pub value : hex_pairs word ≡ bytes

-- the letter of a queue
abbrev pub letter_of : Queue → List ℕ
letter_of Inflate = codes "i"
letter_of Deflate = codes "d"
letter_of Stats = codes "s"

-- words with a space between each two
abbrev pub spaced : List (List ℕ) → List ℕ
spaced words = join_with_byte 32 words

-- the text has the words of one step; a touch is spelled with a count alone
abbrev pub Spells : List ℕ → Step → Type 0
Spells text (Read page offset len) =
    (p o n : List ℕ) × IsNumeral p page × IsNumeral o offset × IsNumeral n len
    × (text ≡ spaced (codes "r" ∷ p ∷ o ∷ n ∷ []))
Spells text (Write page offset bytes) =
    (p o h : List ℕ) × IsNumeral p page × IsNumeral o offset × IsHexOf h bytes
    × (text ≡ spaced (codes "w" ∷ p ∷ o ∷ h ∷ []))
Spells text (Touch page) = ⊥
Spells text (Free page) = (p : List ℕ) × IsNumeral p page × (text ≡ spaced (codes "f" ∷ p ∷ []))
Spells text Idle = text ≡ codes "i"
Spells text Yield = text ≡ codes "y"
Spells text (Post queue bytes) =
    (h : List ℕ) × IsHexOf h bytes × (text ≡ spaced (codes "p" ∷ letter_of queue ∷ h ∷ []))
Spells text (Actual pages) = (n : List ℕ) × IsNumeral n pages × (text ≡ spaced (codes "a" ∷ n ∷ []))

-- the version has such a step
abbrev pub IsOfVersion : StepLimits → Step → Type 0
IsOfVersion limits Yield = limits.version_3 ≡ true
IsOfVersion limits (Actual pages) = (limits.version_3 ≡ true) × (pages ≤ 4294967295)
IsOfVersion limits (Post queue bytes) = length bytes ≤ most_posted limits
IsOfVersion limits _ = ⊤

-- the text spells the step, which is one of a guest with this many pages
pub record IsSpelled (limits : StepLimits) (text : List ℕ) (step : Step) : Type 0 where
  pub words : Spells text step
  pub page : IsWithin limits.pages step
  pub bytes : HasFewBytes step
  pub version : IsOfVersion limits step

-- the text has this letter, a page and a count: so many pages from that one on, all of them of a guest with this many
pub record IsCounted (limits : StepLimits) (letter text : List ℕ) (page count : ℕ) : Type 0 where
  pub version : limits.version_3 ≡ true
  pub words : (p n : List ℕ) × IsNumeral p page × IsNumeral n count × (text ≡ spaced (letter ∷ p ∷ n ∷ []))
  pub some : 1 ≤ count
  pub inside : page + count ≤ limits.pages

-- the steps are one on each page that the text counts, in rising order
abbrev pub AreCounted : StepLimits → List ℕ → (ℕ → Step) → List ℕ → List Step → Type 0
AreCounted limits letter step text steps =
    (page count : ℕ) × IsCounted limits letter text page count × (steps ≡ map step (range_with_len page count))

-- the text spells the steps: one alone, or touches or frees with their count
abbrev pub AreSpelled : StepLimits → List ℕ → List Step → Type 0
AreSpelled limits text steps =
    ((step : Step) × IsSpelled limits text step × (steps ≡ step ∷ []))
    ⊎ (AreCounted limits (codes "t") Touch text steps ⊎ AreCounted limits (codes "f") Free text steps)
