-- What a text stands for, or the first fault of a text that stands for nothing, as functions; Spelling says as facts which text
-- stands for what.
use Rattle.std.specs.Prelude.{ℕ, ◌+◌, ◌-◌, ◌==◌, ◌&&◌, Bool, nat_le, if◌then◌else◌, List, [], ◌∷◌, length, map, codes, bytes_eq, Result, Ok, Err}
use Rattle.std.specs.List.{list_any, range_with_len}
use Rattle.vm_trace.specs.declared.error.TraceError.{TraceError}
use Rattle.vm_trace.specs.declared.error.TraceError.TheVariants.{Unknown, Range}
use Rattle.vm_trace.specs.declared.limits.StepLimits.{StepLimits}
use Rattle.vm_trace.specs.declared.step.Queue.{Queue}
use Rattle.vm_trace.specs.declared.step.Queue.TheVariants.{Inflate, Deflate, Stats}
use Rattle.vm_trace.specs.declared.step.Step.{Step}
use Rattle.vm_trace.specs.declared.step.Action.TheVariants.{Read, Write, Touch, Free, Idle, Yield, Post, Actual}
use Rattle.vm_trace.specs.Versions.{before_3, most_posted}
use Rattle.vm_trace.specs.Words.{◌>>=◌, words_of, number_in, bytes_in}

-- ---- one step

-- r PAGE OFFSET LEN: the bytes that are read lie in the page
unfoldable pub read_step : ℕ → List ℕ → List ℕ → List ℕ → Result Step TraceError
read_step pages page offset len = do
  p ← number_in 0 (pages - 1) page
  o ← number_in 0 4095 offset
  n ← number_in 1 16 len
  if nat_le (o + n) 4096 then Ok (Read p o n) else Err Range

-- w PAGE OFFSET HEX: the bytes that are written lie in the page
unfoldable pub write_step : ℕ → List ℕ → List ℕ → List ℕ → Result Step TraceError
write_step pages page offset hex = do
  p ← number_in 0 (pages - 1) page
  o ← number_in 0 4095 offset
  bytes ← bytes_in 16 hex
  if nat_le (o + length bytes) 4096 then Ok (Write p o bytes) else Err Range

-- f PAGE
unfoldable pub free_step : ℕ → List ℕ → Result Step TraceError
free_step pages page = do
  p ← number_in 0 (pages - 1) page
  Ok (Free p)

-- a N
unfoldable pub actual_step : List ℕ → Result Step TraceError
actual_step number = do
  n ← number_in 0 4294967295 number
  Ok (Actual n)

-- the queue of a letter
unfoldable pub queue_of : List ℕ → Result Queue TraceError
queue_of letter =
    if bytes_eq letter (codes "i") then Ok Inflate
    else if bytes_eq letter (codes "d") then Ok Deflate
    else if bytes_eq letter (codes "s") then Ok Stats
    else Err Unknown

-- p QUEUE HEX, of at most so many bytes
unfoldable pub post_step : ℕ → List ℕ → List ℕ → Result Step TraceError
post_step most letter hex = do
  queue ← queue_of letter
  bytes ← bytes_in most hex
  Ok (Post queue bytes)

-- The first word and the number of words say which step it is.
unfoldable pub step_of_words : StepLimits → List (List ℕ) → Result Step TraceError
step_of_words limits (k ∷ []) =
    if bytes_eq k (codes "i") then Ok Idle
    else if limits.version_3 && bytes_eq k (codes "y") then Ok Yield
    else Err Unknown
step_of_words limits (k ∷ a ∷ []) =
    if bytes_eq k (codes "f") then free_step limits.pages a
    else if limits.version_3 && bytes_eq k (codes "a") then actual_step a
    else Err Unknown
step_of_words limits (k ∷ a ∷ b ∷ []) = if bytes_eq k (codes "p") then post_step (most_posted limits) a b else Err Unknown
step_of_words limits (k ∷ a ∷ b ∷ c ∷ []) =
    if bytes_eq k (codes "r") then read_step limits.pages a b c
    else if bytes_eq k (codes "w") then write_step limits.pages a b c
    else Err Unknown
step_of_words limits _ = Err Unknown

-- ---- as many steps as a text counts

-- one step alone
abbrev pub alone : Result Step TraceError → Result (List Step) TraceError
alone read = read >>= (λ step. Ok (step ∷ []))

-- PAGE COUNT: so many pages from this one on, in rising order, with the step of each
unfoldable pub steps_on : ℕ → (ℕ → Step) → List ℕ → List ℕ → Result (List Step) TraceError
steps_on pages step page count = do
  p ← number_in 0 (pages - 1) page
  n ← number_in 1 pages count
  if nat_le (p + n) pages then Ok (map step (range_with_len p n)) else Err Range

-- t PAGE COUNT and f PAGE COUNT are as many steps as they count, and any other text is one step.
unfoldable pub steps_of_words : StepLimits → List (List ℕ) → Result (List Step) TraceError
steps_of_words limits (k ∷ a ∷ b ∷ []) =
    if limits.version_3 && bytes_eq k (codes "t") then steps_on limits.pages Touch a b
    else if limits.version_3 && bytes_eq k (codes "f") then steps_on limits.pages Free a b
    else alone (step_of_words limits (k ∷ a ∷ b ∷ []))
steps_of_words limits words = alone (step_of_words limits words)

-- ---- texts

-- the word is empty
abbrev pub is_empty_word : List ℕ → Bool
is_empty_word word = length word == 0

-- what the words of a text stand for, none of which may be empty
abbrev pub of_words : {A : Type 0} → (List (List ℕ) → Result A TraceError) → List ℕ → Result A TraceError
of_words meaning text = if list_any is_empty_word (words_of text) then Err Unknown else meaning (words_of text)

-- the step that a text of version 1 or 2 is, with its page, if it has one, below `pages`; or its first fault
-- the one step that is such: IsSpelled, by vm_trace::law_spelling; a fault is by the function alone
unfoldable pub step_within : ℕ → List ℕ → Result Step TraceError
step_within pages text = of_words (step_of_words (before_3 pages)) text

-- the steps that a text stands for within these limits; or its first fault
-- the one list of steps that is such: AreSpelled, by vm_trace::law_spelling; a fault is by the function alone
unfoldable pub steps_within : StepLimits → List ℕ → Result (List Step) TraceError
steps_within limits text = of_words (steps_of_words limits) text
