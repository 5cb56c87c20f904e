-- Where the commands of each epoch stand, found from the last command to the first one.
use Rattle.std.proofs.Common.{◌≡◌, ◌≢◌, ℕ, suc, ◌+◌, ◌==◌, ◌<◌, ◌≤◌, ◌⊎◌, inl, inr, Bool, true, false, if◌then◌else◌, List, [], ◌∷◌, ◌++◌, Option, None, Some, IfSome, get_or, set, replicate, drop, length, map, max, slice_get, refl, ap, sym, ◌∙◌, subst, arith, add-one, append_assoc}
use Rattle.std.proofs.lemmas.Bool.{cases_eq, cases_lt, eq-eqb, ne_eqb}
use Rattle.std.proofs.lemmas.List.{drop_more, get_or-replicate, get_or_default, get_or_past, get_or-set_same, get_or-set_other, length-set}
use Rattle.std.proofs.lemmas.Option.{slice_get_past, slice_get_read}
use Rattle.vm_config.specs.Schedule.{ScheduledLine}
use Rattle.vm_sim.specs.Calendar.{HaveRoom, IsCalendar, IsNextOf, of_epoch}
use Rattle.vm_sim.specs.Course.{lines_of_epoch}

-- ---- the lines of an epoch from a position on

module _ (commands : List ScheduledLine) (p : ℕ) (command : ScheduledLine) (within : p < length commands) (here : command ≡ get_or commands p command) where
  stands : slice_get commands p ≡ Some command
  stands = slice_get_read commands (length commands) p command refl within here

  left_is : drop p commands ≡ command ∷ drop (suc p) commands
  left_is = drop_more commands p command within ∙ ap (λ (c : ScheduledLine). c ∷ drop (p + 1) commands) (sym here) ∙ ap (λ (n : ℕ). command ∷ drop n commands) (add-one p)

  -- the command is of this epoch
  has_line : (k : ℕ) → command.at ≡ k → lines_of_epoch k (drop p commands) ≡ command.line ∷ lines_of_epoch k (drop (suc p) commands)
  has_line k is = rw (left_is, eq-eqb command.at k is) refl

  -- it is of another one
  has_none : (k : ℕ) → k ≢ command.at → of_epoch k (drop p commands) ≡ of_epoch k (drop (suc p) commands)
  has_none k other = rw (left_is, ne_eqb command.at k (λ e. other (sym e))) refl

lines_are_by : (k : ℕ) (command : ScheduledLine) (later : List ScheduledLine) (is_due : Bool)
    → lines_of_epoch k later ≡ map (λ (c : ScheduledLine). c.line) (of_epoch k later)
    → (if is_due then command.line ∷ lines_of_epoch k later else lines_of_epoch k later)
    ≡ map (λ (c : ScheduledLine). c.line) (if is_due then command ∷ of_epoch k later else of_epoch k later)
lines_are_by k command later true rest = ap (λ (l : List (List ℕ)). command.line ∷ l) rest
lines_are_by k command later false rest = rest

lines_are : (k : ℕ) (commands : List ScheduledLine) → lines_of_epoch k commands ≡ map (λ (c : ScheduledLine). c.line) (of_epoch k commands)
lines_are k [] = refl
lines_are k (command ∷ later) = lines_are_by k command later (command.at == k) (lines_are k later)

-- the lines are the same where the commands are
pub same_lines : (k : ℕ) (commands : List ScheduledLine) (from position : ℕ) → IsNextOf k commands from position
    → lines_of_epoch k (drop from commands) ≡ lines_of_epoch k (drop position commands)
same_lines k commands from position is =
    lines_are k (drop from commands) ∙ ap (λ (l : List ScheduledLine). map (λ (c : ScheduledLine). c.line) l) is.passes_none ∙ sym (lines_are k (drop position commands))

-- ---- room

module _ (epochs : ℕ) (commands : List ScheduledLine) (p : ℕ) (command : ScheduledLine) (within : p < length commands) (here : command ≡ get_or commands p command) where
  abbrev Fits : ℕ → ℕ → ℕ → ScheduledLine → Type 0
  Fits rooms places i c = c.at < epochs → (c.at < rooms) × (i < places)

  more : (count rooms places : ℕ) → p < count → HaveRoom epochs commands count rooms places → Fits rooms places p command
  more count rooms places counted room = rw (stands commands p command within here) at (room p counted)

  -- there is room for one command more
  room_more : (rooms places more_rooms more_places : ℕ) → rooms ≤ more_rooms → places ≤ more_places → Fits more_rooms more_places p command
      → HaveRoom epochs commands p rooms places → HaveRoom epochs commands (suc p) more_rooms more_places
  room_more rooms places more_rooms more_places wider longer fits room = λ i counted. by i counted (cases_eq i p)
    where
      wide : (o : Option ScheduledLine) (i : ℕ) → IfSome o (Fits rooms places i) → IfSome o (Fits more_rooms more_places i)
      wide None i fit = tt
      wide (Some c) i fit = λ runs. let fits = fit runs in (omega (arith, fits.0), omega (arith, fits.1))

      by : (i : ℕ) → i < suc p → (i ≡ p) ⊎ (i ≢ p) → IfSome (slice_get commands i) (Fits more_rooms more_places i)
      by i counted (inl is) = rw (is, stands commands p command within here) fits
      by i counted (inr other) = wide (slice_get commands i) i (room i (omega arith))

  -- it is the least for the commands so far and this one
  module _ (rooms places more_rooms more_places : ℕ) (runs : command.at < epochs → (more_rooms ≡ max rooms (command.at + 1)) × (more_places ≡ p + 1))
      (never : epochs ≤ command.at → (more_rooms ≡ rooms) × (more_places ≡ places)) where
    pub still_enough : places ≤ p → HaveRoom epochs commands p rooms places → HaveRoom epochs commands (p + 1) more_rooms more_places
    still_enough before room = by (cases_lt command.at epochs)
      where
        by : (command.at < epochs) ⊎ (epochs ≤ command.at) → HaveRoom epochs commands (p + 1) more_rooms more_places
        by (inl ran) =
            let more = runs ran in
            rw add-one (room_more rooms places more_rooms more_places (omega (arith, more.0)) (omega (arith, more.1, before))
            (λ _. (omega (arith, more.0), omega (arith, more.1))) room)
        by (inr past) =
            let same = never past in
            rw add-one (room_more rooms places more_rooms more_places (omega (arith, same.0)) (omega (arith, same.1)) (λ ran. absurd (omega (arith, ran, past))) room)

    pub still_within : places ≤ p → more_places ≤ p + 1
    still_within before = by (cases_lt command.at epochs)
      where
        by : (command.at < epochs) ⊎ (epochs ≤ command.at) → more_places ≤ p + 1
        by (inl ran) = let now = runs ran in omega (arith, now.1)
        by (inr past) = let same = never past in omega (arith, same.1, before)

    pub still_least : ((r q : ℕ) → HaveRoom epochs commands p r q → (rooms ≤ r) × (places ≤ q))
        → (r q : ℕ) → HaveRoom epochs commands (p + 1) r q → (more_rooms ≤ r) × (more_places ≤ q)
    still_least least r q room = by (cases_lt command.at epochs)
      where
        by : (command.at < epochs) ⊎ (epochs ≤ command.at) → (more_rooms ≤ r) × (more_places ≤ q)
        by (inl ran) =
            let so_far = least r q (λ i counted. room i (omega arith)) in
            let fits = more (p + 1) r q (omega arith) room ran in
            let now = runs ran in
            (omega (arith, so_far.0, fits.0, now.0), omega (arith, fits.1, now.1))
        by (inr past) =
            let so_far = least r q (λ i counted. room i (omega arith)) in
            let same = never past in
            (omega (arith, so_far.0, same.0), omega (arith, so_far.1, same.1))

-- ---- finding

past : (commands : List ScheduledLine) (P : ScheduledLine → Type 0) (i : ℕ) → length commands ≤ i → IfSome (slice_get commands i) P
past commands P i beyond = rw (slice_get_past commands i beyond) tt

none_read : (xs : List ℕ) (n k : ℕ) → xs ≡ replicate (length xs) n → (k < length xs) ⊎ (length xs ≤ k) → get_or xs k n ≡ n
none_read xs n k is (inl within) = ap (λ (l : List ℕ). get_or l k n) is ∙ get_or-replicate (length xs) k n n within
none_read xs n k is (inr beyond) = get_or_past xs k n beyond

-- no command was looked at yet
pub none_found : (epochs : ℕ) (commands : List ScheduledLine) (first next : List ℕ) → first ≡ replicate (length first) (length commands)
    → HaveRoom epochs commands (length commands) (length first) (length next) → IsCalendar epochs (length commands) commands first next
none_found epochs commands first next none room = record {
  has_room = room;
  has_first = λ k _. rw (none_read first (length commands) k none (cases_lt k (length first)))
      (record { onward = omega arith; passes_none = refl; is_due = past commands (λ c. c.at ≡ k) (length commands) (omega arith) });
  has_next = λ i beyond. past commands _ i beyond;
}

module _ (epochs : ℕ) (commands : List ScheduledLine) (p : ℕ) (command : ScheduledLine) (within : p < length commands) (here : command ≡ get_or commands p command)
    (first next : List ℕ) (found : IsCalendar epochs (suc p) commands first next) where
  -- there is room for it, if it runs
  pub has_place : command.at < epochs → (command.at < length first) × (p < length next)
  has_place runs = (rw (stands commands p command within here) at (found.has_room p within)) runs

  -- it never runs
  pub passed_over : epochs ≤ command.at → IsCalendar epochs p commands first next
  passed_over never = record {
    has_room = found.has_room;
    has_first = λ k runs.
        let later = found.has_first k runs in
        record {
          onward = (let onward = later.onward in omega arith);
          passes_none = has_none commands p command within here k (λ e. omega (arith, e)) ∙ later.passes_none;
          is_due = later.is_due;
        };
    has_next = λ i from. next_of i from (cases_eq i p);
  }
    where
      next_of : (i : ℕ) → p ≤ i → (i ≡ p) ⊎ (i ≢ p)
          → IfSome (slice_get commands i) (λ c. c.at < epochs → IsNextOf c.at commands (suc i) (get_or next i (length commands)))
      next_of i from (inl is) = rw (is, stands commands p command within here) (λ runs. absurd (omega (arith, runs, never)))
      next_of i from (inr other) = found.has_next i (omega arith)

  -- it runs, and stands before the others of its epoch
  module _ (runs : command.at < epochs) where
    abbrev first_now : List ℕ
    first_now = set first command.at p

    abbrev next_now : List ℕ
    next_now = set next p (get_or first command.at (length commands))

    first_of : (k : ℕ) → k < epochs → (k ≡ command.at) ⊎ (k ≢ command.at) → IsNextOf k commands p (get_or first_now k (length commands))
    first_of k ran (inl is) = rw (is, get_or-set_same first command.at p (length commands) (has_place runs).0) (record {
      onward = omega arith;
      passes_none = refl;
      is_due = rw (stands commands p command within here) refl;
    })
    first_of k ran (inr other) =
        let later = found.has_first k ran in
        rw (get_or-set_other first command.at k p (length commands) other) (record {
          onward = (let onward = later.onward in omega arith);
          passes_none = has_none commands p command within here k other ∙ later.passes_none;
          is_due = later.is_due;
        })

    next_of : (i : ℕ) → p ≤ i → (i ≡ p) ⊎ (i ≢ p)
        → IfSome (slice_get commands i) (λ c. c.at < epochs → IsNextOf c.at commands (suc i) (get_or next_now i (length commands)))
    next_of i from (inl is) =
        rw (is, stands commands p command within here, get_or-set_same next p (get_or first command.at (length commands)) (length commands) (has_place runs).1)
        (λ ran. found.has_first command.at ran)
    next_of i from (inr other) =
        rw (get_or-set_other next p i (get_or first command.at (length commands)) (length commands) other) (found.has_next i (omega arith))

    put_before : IsCalendar epochs p commands first_now next_now
    put_before = record {
      has_room = rw (length-set first command.at p, length-set next p (get_or first command.at (length commands))) found.has_room;
      has_first = λ k ran. first_of k ran (cases_eq k command.at);
      has_next = λ i from. next_of i from (cases_eq i p);
    }

  -- the same by what was read and written
  pub stood_before : (epoch stands stood : ℕ) → epoch ≡ command.at → epoch < epochs → stands ≡ p → stood ≡ get_or first epoch 0
      → IsCalendar epochs p commands (set first epoch stands) (set next p stood)
  stood_before epoch stands stood is ran here_now was =
      let runs : command.at < epochs = omega (arith, is, ran) in
      let stood_is = was ∙ ap (λ (n : ℕ). get_or first n 0) is ∙ get_or_default first command.at 0 (length commands) (has_place runs).0 in
      rw (is, here_now, stood_is) (put_before runs)

-- ---- going through the commands of an epoch

module _ (commands : List ScheduledLine) (p next : ℕ) (command : ScheduledLine) (within : p < length commands) (here : command ≡ get_or commands p command)
    (k epochs : ℕ) (runs : k < epochs) (is_due : IfSome (slice_get commands p) (λ c. c.at ≡ k))
    (following : IfSome (slice_get commands p) (λ c. c.at < epochs → IsNextOf c.at commands (suc p) next)) where
  its_epoch : command.at ≡ k
  its_epoch = rw (stands commands p command within here) at is_due

  pub next_due : IsNextOf k commands (suc p) next
  next_due = subst (λ (n : ℕ). IsNextOf n commands (suc p) next) its_epoch
      ((rw (stands commands p command within here) at following) (omega (arith, runs, its_epoch)))

  -- the command's line was pushed
  pub next_line : (old new all : List (List ℕ)) → old ++ lines_of_epoch k (drop p commands) ≡ all → new ≡ old ++ command.line ∷ []
      → new ++ lines_of_epoch k (drop next commands) ≡ all
  next_line old new all so_far pushed =
      let left = lines_of_epoch k (drop next commands) in
      ap (λ (l : List (List ℕ)). l ++ left) pushed ∙ append_assoc old (command.line ∷ []) left
      ∙ ap (λ (l : List (List ℕ)). old ++ command.line ∷ l) (sym (same_lines k commands (suc p) next next_due))
      ∙ ap (λ (l : List (List ℕ)). old ++ l) (sym (has_line commands p command within here k its_epoch)) ∙ so_far
