-- The steps that a text stands for, as they are read, and their items.
use Rattle.std.proofs.Common.{◌≡◌, ℕ, zero, suc, ◌+◌, ◌-◌, ◌<◌, ◌≤◌, inl, inr, Bool, true, false, nat_lt, nat_le, cond, List, [], ◌∷◌, ◌++◌, length, map, slice_get, All, Result, Ok, Err, refl, ap, sym, subst, ◌∙◌, arith}
use Rattle.std.proofs.lemmas.Bool.{and_parts, cases_lt, le-leb, lt-leb, le-ltb, ltb-true}
use Rattle.std.proofs.lemmas.List.{append-nil}
use Rattle.std.proofs.lemmas.List.Elements.{All-head, All-nil, All-cons, All-map}
use Rattle.std.proofs.lemmas.List.Folds.{list_all_at, list_all-map}
use Rattle.std.proofs.lemmas.List.FromFn.{length-range_with_len, get_or-range_with_len}
use Rattle.std.proofs.lemmas.Option.{same_Some}
use Rattle.std.specs.List.{list_all, range_with_len}
use Rattle.vm_trace.specs.declared.entry.Entry.{Entry}
use Rattle.vm_trace.specs.declared.entry.Item.{Item}
use Rattle.vm_trace.specs.declared.entry.Item.TheVariants as item
use Rattle.vm_trace.specs.declared.error.TraceError.{TraceError}
use Rattle.vm_trace.specs.declared.error.TraceError.TheVariants.{Unknown, Range}
use Rattle.vm_trace.specs.declared.limits.StepLimits.{StepLimits}
use Rattle.vm_trace.specs.declared.step.Action.{Action}
use Rattle.vm_trace.specs.declared.step.Step.{Step}
use Rattle.vm_trace.specs.declared.step.Action.TheVariants.{Read, Write, Touch, Free, Idle, Yield, Post, Actual}
use Rattle.vm_trace.specs.declared.text_steps.Row.{Row}
use Rattle.vm_trace.specs.declared.text_steps.TextSteps.{TextSteps}
use Rattle.vm_trace.specs.declared.text_steps.TextSteps.TheVariants.{One, Touches, Frees}
use Rattle.vm_trace.specs.Entering.{IsItemOf}
use Rattle.vm_trace.specs.Entries.{action_at, bytes_of, count_of, steps_at, steps_of, IsTrace, Keeps}
use Rattle.vm_trace.specs.Limits.{most_pages, most_steps, IsStep, IsWithin}
use Rattle.vm_trace.specs.Meaning.{step_of_words, steps_of_words, alone, step_within, steps_within}
use Rattle.vm_trace.specs.Sized.{is_within, within_pages, steps_in, steps_with}
use Rattle.vm_trace.specs.TextSteps.{list_of, listed}
use Rattle.vm_trace.specs.Versions.{before_3}
use Rattle.vm_trace.specs.Words.{◌>>=◌}
use Rattle.vm_trace.proofs.InFront.{all_within, row_within, bounded_spelled, some_spelled}
use Rattle.vm_trace.proofs.Kept.{length-steps_at, length-trace}
use Rattle.vm_trace.proofs.Lists.{slice_get-row, shifted}
use Rattle.vm_trace.proofs.ReadIsSpelled.{chosen, bind_ok, spelled-steps_within}

-- ---- before version 3

one_of_words : (pages : ℕ) (ws : List (List ℕ)) → steps_of_words (before_3 pages) ws ≡ alone (step_of_words (before_3 pages) ws)
unfolding steps_of_words
one_of_words pages [] = refl
one_of_words pages (k ∷ []) = refl
one_of_words pages (k ∷ a ∷ []) = refl
one_of_words pages (k ∷ a ∷ b ∷ []) = refl
one_of_words pages (k ∷ a ∷ b ∷ c ∷ ws) = refl

alone_under : (b : Bool) (r : Result Step TraceError) → cond b (Err Unknown) (alone r) ≡ alone (cond b (Err Unknown) r)
alone_under true r = refl
alone_under false r = refl

-- a text of version 1 or 2 is one step
pub one_step : (pages : ℕ) (text : List ℕ) → steps_within (before_3 pages) text ≡ alone (step_within pages text)
unfolding steps_within step_within
one_step pages text = ap (cond _ (Err Unknown)) (one_of_words pages _) ∙ alone_under _ _

-- and read as that step
pub one_read : (pages : ℕ) (text : List ℕ) (steps : TextSteps) → Ok (list_of steps) ≡ steps_within (before_3 pages) text → (step : Step) × (step_within pages text ≡ Ok step) × (list_of steps ≡ step ∷ [])
one_read pages text steps read =
    let found = bind_ok (step_within pages text) _ (list_of steps) (sym (read ∙ one_step pages text)) in
    (found.0, found.1, (let z = found.2 in cc))

alone_err : (r : Result Step TraceError) (fault : TraceError) → alone r ≡ Err fault → r ≡ Err fault
alone_err (Ok step) fault is = cc
alone_err (Err e) fault is = (let z = is in cc)

pub one_fault : (pages : ℕ) (text : List ℕ) (fault : TraceError) → Err fault ≡ steps_within (before_3 pages) text → step_within pages text ≡ Err fault
one_fault pages text fault read = alone_err (step_within pages text) fault (sym (read ∙ one_step pages text))

-- the same of the result of a call
pub one_failed : (pages : ℕ) (text : List ℕ) (answer : Result TextSteps TraceError) (fault : TraceError) → answer ≡ Err fault → listed answer ≡ steps_within (before_3 pages) text
    → Err fault ≡ step_within pages text
one_failed pages text answer fault was read = sym (one_fault pages text fault (ap listed (sym was) ∙ read))

pub one_found : (pages : ℕ) (text : List ℕ) (answer : Result TextSteps TraceError) (steps : TextSteps) (step : Step) → answer ≡ Ok steps → listed answer ≡ steps_within (before_3 pages) text
    → ((action : Step) (rest : List Step) → list_of steps ≡ action ∷ rest → step ≡ action) → step_within pages text ≡ Ok step
one_found pages text answer steps step was read first =
    let found = one_read pages text steps (ap listed (sym was) ∙ read) in
    found.1 ∙ ap Ok (sym (first found.0 [] found.2))

-- ---- the steps on a row

first_in_row : (kind : ℕ → Step) (page count : ℕ) (step : Step) (rest : List Step) → 1 ≤ count → map kind (range_with_len page count) ≡ step ∷ rest → kind page ≡ step
first_in_row kind page zero step rest some is = absurd (omega arith)
first_in_row kind page (suc count) step rest some is = (let z = is in cc)

-- all of them are below the size where the last one is
row_beyond : (size page count : ℕ) → 1 ≤ count → size < page + count → list_all (λ p. nat_lt p size) (range_with_len page count) ≡ false
row_beyond size page count some beyond =
    let last : size ≤ page + (count - 1) = omega arith in
    list_all_at (λ p. nat_lt p size) (range_with_len page count) (count - 1) 0 (omega (arith, some, length-range_with_len page count))
    (ap (λ p. nat_lt p size) (get_or-range_with_len page count (count - 1) 0 (omega (arith, some))) ∙ le-ltb (page + (count - 1)) size last)

row_tested : (size page count : ℕ) → 1 ≤ count → list_all (λ p. nat_lt p size) (range_with_len page count) ≡ nat_le (page + count) size
row_tested size page count some = elim (cases_lt size (page + count)) [
  | inl beyond ↦ row_beyond size page count some beyond ∙ sym (lt-leb (page + count) size beyond)
  | inr inside ↦
      sym (list_all-map (is_within size) Touch (range_with_len page count))
      ∙ all_within size (map Touch (range_with_len page count)) (All-map (IsWithin size) Touch (range_with_len page count) (row_within size page count inside))
      ∙ sym (le-leb (page + count) size inside)
]

pub touches_tested : (size page count : ℕ) → 1 ≤ count → nat_le (page + count) size ≡ list_all (is_within size) (map Touch (range_with_len page count))
touches_tested size page count some = sym (list_all-map (is_within size) Touch (range_with_len page count) ∙ row_tested size page count some)

pub frees_tested : (size page count : ℕ) → 1 ≤ count → nat_le (page + count) size ≡ list_all (is_within size) (map Free (range_with_len page count))
frees_tested size page count some = sym (list_all-map (is_within size) Free (range_with_len page count) ∙ row_tested size page count some)

pub first_touch : (page count : ℕ) (step : Step) (rest : List Step) → 1 ≤ count → map Touch (range_with_len page count) ≡ step ∷ rest → Touch page ≡ step
first_touch page count step rest some is = first_in_row Touch page count step rest some is

pub first_free : (page count : ℕ) (step : Step) (rest : List Step) → 1 ≤ count → map Free (range_with_len page count) ≡ step ∷ rest → Free page ≡ step
first_free page count step rest some is = first_in_row Free page count step rest some is

-- ---- in a guest of a size

within_test : (size : ℕ) (step : Step) → is_within size step ≡ true → IsWithin size step
within_test size (Read page offset len) is = ltb-true page size is
within_test size (Write page offset bytes) is = ltb-true page size is
within_test size (Touch page) is = ltb-true page size is
within_test size (Free page) is = ltb-true page size is
within_test size Idle is = tt
within_test size Yield is = tt
within_test size (Post queue bytes) is = tt
within_test size (Actual pages) is = tt

within_all : (size : ℕ) (steps : List Step) → list_all (is_within size) steps ≡ true → All (IsWithin size) steps
within_all size [] is = All-nil (IsWithin size)
within_all size (s ∷ steps) is =
    let parts = and_parts (is_within size s) (list_all (is_within size) steps) is in
    All-cons (IsWithin size) s steps (within_test size s parts.0) (within_all size steps parts.1)

-- what is read for a size is read, and below it
pub in_parts : (limits : StepLimits) (size : ℕ) (text : List ℕ) (steps : List Step) → steps_in limits size text ≡ Ok steps → (steps_within limits text ≡ Ok steps) × All (IsWithin size) steps
in_parts limits size text steps is =
    let read = bind_ok (steps_within limits text) (within_pages size) steps is in
    elim (chosen {A = Result (List Step) TraceError} (list_all (is_within size) read.0) (Ok read.0) (Err Range) (Ok steps) read.2) [
      | inr failed ↦ (let z = failed.1 in cc)
      | inl passed ↦
          let same : read.0 ≡ steps = (let z = passed.1 in cc) in
          (read.1 ∙ ap Ok same, subst (λ l. All (IsWithin size) l) same (within_all size read.0 passed.0))
    ]

pub in_refused : (limits : StepLimits) (size : ℕ) (text : List ℕ) (steps : TextSteps) → Ok (list_of steps) ≡ steps_within limits text → false ≡ list_all (is_within size) (list_of steps)
    → Err Range ≡ steps_in limits size text
in_refused limits size text steps read beyond = sym (ap (λ r. r >>= within_pages size) (sym read) ∙ rw (← beyond) refl)

pub in_kept : (limits : StepLimits) (size : ℕ) (text : List ℕ) (steps : TextSteps) → Ok (list_of steps) ≡ steps_within limits text → true ≡ list_all (is_within size) (list_of steps)
    → Ok (list_of steps) ≡ steps_in limits size text
in_kept limits size text steps read within = sym (ap (λ r. r >>= within_pages size) (sym read) ∙ rw (← within) refl)

pub in_fault : (limits : StepLimits) (size : ℕ) (text : List ℕ) (fault : TraceError) → Err fault ≡ steps_within limits text → Err fault ≡ steps_in limits size text
in_fault limits size text fault read = ap (λ r. r >>= within_pages size) read

-- each step that is read keeps the limits
pub bounded_in : (limits : StepLimits) (size : ℕ) (text : List ℕ) (steps : List Step) → 1 ≤ limits.pages → limits.pages ≤ most_pages → steps_in limits size text ≡ Ok steps → All IsStep steps
bounded_in limits size text steps some few is =
    bounded_spelled limits text steps few (spelled-steps_within limits text steps some (in_parts limits size text steps is).0)

-- ---- their items

pub touches_kept : (bytes : List ℕ) (page count : ℕ) → Keeps bytes (item.Touch page count) (map Touch (range_with_len page count))
touches_kept bytes page count = record { within = omega arith; same = shifted Touch page 0 page count (omega arith) }

pub frees_kept : (bytes : List ℕ) (page count : ℕ) → Keeps bytes (item.Free page count) (map Free (range_with_len page count))
frees_kept bytes page count = record { within = omega arith; same = shifted Free page 0 page count (omega arith) }

-- an item that is one step is this step
pub alone_kept : (bytes : List ℕ) (i : Item) (step : Step) → Keeps bytes i (step ∷ []) → action_at bytes i 0 ≡ step
alone_kept bytes i step k =
    let one = length-steps_at bytes i in
    same_Some _ _ (sym (slice_get-row (action_at bytes i) 0 (count_of i) 0 (omega (arith, one, ap length k.same))) ∙ ap (λ l. slice_get l 0) k.same)

-- the item of steps that are read is that of their text
pub item_read : (limits : StepLimits) (size : ℕ) (text old new : List ℕ) (steps : TextSteps) (i : Item) → 1 ≤ limits.pages → limits.pages ≤ most_pages
    → Ok (list_of steps) ≡ steps_in limits size text → Keeps new i (list_of steps) → new ≡ old ++ bytes_of (action_at new i 0) → IsItemOf limits size text old new i
item_read limits size text old new steps i some few is k added =
    let read : steps_in limits size text ≡ Ok (steps_at new i) = sym is ∙ ap Ok (sym k.same) in
    let parts = in_parts limits size text (steps_at new i) read in
    let spelled = spelled-steps_within limits text (steps_at new i) some parts.0 in
    record {
      read = read;
      pages = parts.1;
      bounded = bounded_spelled limits text (steps_at new i) few spelled;
      within = k.within;
      added = added;
      some = let n = some_spelled limits text (steps_at new i) spelled in omega (arith, n, length-steps_at new i);
    }

-- the same of the result of a call
pub bounded_of : (limits : StepLimits) (size : ℕ) (text : List ℕ) (answer : Result TextSteps TraceError) (action : Step) → 1 ≤ limits.pages → limits.pages ≤ most_pages
    → answer ≡ Ok (One action) → listed answer ≡ steps_in limits size text → IsStep action
bounded_of limits size text answer action some few was read =
    All-head IsStep action [] (bounded_in limits size text (action ∷ []) some few (sym (ap listed (sym was) ∙ read)))

pub item_one : (limits : StepLimits) (size : ℕ) (text old new : List ℕ) (answer : Result TextSteps TraceError) (action : Step) (i : Item) → 1 ≤ limits.pages → limits.pages ≤ most_pages
    → answer ≡ Ok (One action) → listed answer ≡ steps_in limits size text → Keeps new i (action ∷ []) → new ≡ old ++ bytes_of action → IsItemOf limits size text old new i
item_one limits size text old new answer action i some few was read k added =
    item_read limits size text old new (One action) i some few (ap listed (sym was) ∙ read) k
    (added ∙ ap (λ a. old ++ bytes_of a) (sym (alone_kept new i action k)))

pub item_touches : (limits : StepLimits) (size : ℕ) (text bytes : List ℕ) (answer : Result TextSteps TraceError) (row : Row) → 1 ≤ limits.pages → limits.pages ≤ most_pages
    → answer ≡ Ok (Touches row) → listed answer ≡ steps_in limits size text → IsItemOf limits size text bytes bytes (item.Touch row.page row.count)
item_touches limits size text bytes answer row some few was read =
    item_read limits size text bytes bytes (Touches row) (item.Touch row.page row.count) some few (ap listed (sym was) ∙ read)
    (touches_kept bytes row.page row.count) (sym (append-nil bytes))

pub item_frees : (limits : StepLimits) (size : ℕ) (text bytes : List ℕ) (answer : Result TextSteps TraceError) (row : Row) → 1 ≤ limits.pages → limits.pages ≤ most_pages
    → answer ≡ Ok (Frees row) → listed answer ≡ steps_in limits size text → IsItemOf limits size text bytes bytes (item.Free row.page row.count)
item_frees limits size text bytes answer row some few was read =
    item_read limits size text bytes bytes (Frees row) (item.Free row.page row.count) some few (ap listed (sym was) ∙ read)
    (frees_kept bytes row.page row.count) (sym (append-nil bytes))

-- ---- behind the steps of a trace

pub trace_full : (limits : StepLimits) (size : ℕ) (text bytes new : List ℕ) (entries : List Entry) (steps : ℕ) (old : List Action) (i : Item) → IsTrace bytes entries steps
    → steps_of bytes entries ≡ old → steps_in limits size text ≡ Ok (steps_at new i) → most_steps < steps + count_of i → steps_with limits size text old ≡ Err Range
trace_full limits size text bytes new entries steps old i trace view read many =
    let count : length old ≡ steps = ap length (sym view) ∙ length-trace bytes entries steps trace in
    let more = length-steps_at new i in
    ap (λ r. r >>= (λ steps. cond (nat_le (length old + length steps) most_steps) (Ok (old ++ steps)) (Err Range))) read
    ∙ rw (lt-leb (length old + length (steps_at new i)) most_steps (omega (arith, count, more, many))) refl

pub trace_few : (bytes new : List ℕ) (entries : List Entry) (steps all : ℕ) (old : List Action) (i : Item) → IsTrace bytes entries steps → steps_of bytes entries ≡ old → all ≡ steps + count_of i
    → all ≤ most_steps → length old + length (steps_at new i) ≤ most_steps
trace_few bytes new entries steps all old i trace view is few =
    let count : length old ≡ steps = ap length (sym view) ∙ length-trace bytes entries steps trace in
    let more = length-steps_at new i in
    omega (arith, count, more, is, few)
