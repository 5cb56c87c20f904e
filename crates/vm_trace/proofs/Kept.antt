-- What a trace keeps where bytes and entries come behind the others.
use Rattle.std.proofs.Common.{◌≡◌, ℕ, ◌+◌, ◌≤◌, List, [], ◌∷◌, ◌++◌, length, map, take, drop, All, Result, Ok, Err, OnErr, Option, Some, None, IfNone, refl, ap, sym, subst, ◌∙◌, arith}
use Rattle.std.proofs.lemmas.List.{append_assoc, append-nil, length-append, length-drop, take-append-le, drop-append-le}
use Rattle.std.proofs.lemmas.List.Elements.{All-head, All-tail, All-nil, All-cons, All-append, All-same}
use Rattle.std.proofs.lemmas.List.FromFn.{length-map-range_with_len}
use Rattle.std.specs.List.{range_with_len}
use Rattle.vm_trace.specs.declared.entry.Entry.{Entry}
use Rattle.vm_trace.specs.declared.entry.Item.{Item}
use Rattle.vm_trace.specs.declared.entry.Item.TheVariants.{Read, Write, Touch, Free, Idle, Yield, Post, Actual}
use Rattle.vm_trace.specs.declared.step.Action.{Action}
use Rattle.vm_trace.specs.declared.step.Action.TheVariants as action
use Rattle.vm_trace.specs.Entries.{bytes_at, count_of, action_at, end_of, steps_at, steps_of, total, ArePlaced, AreKept, IsTrace, Keeps}
use Rattle.vm_trace.specs.Limits.{IsStep}

-- ---- bytes behind the others

bytes_kept : (bytes more : List ℕ) (start len : ℕ) → start + len ≤ length bytes → bytes_at (bytes ++ more) start len ≡ bytes_at bytes start len
bytes_kept bytes more start len within =
    ap (take len) (drop-append-le start bytes more (omega arith))
    ∙ take-append-le len (drop start bytes) more (omega (arith, length-drop start bytes))

action_kept : (bytes more : List ℕ) (i : Item) (before : ℕ) → end_of i ≤ length bytes → action_at (bytes ++ more) i before ≡ action_at bytes i before
action_kept bytes more (Read len offset page) before within = refl
action_kept bytes more (Write len offset page start) before within = ap (λ bs. action.Write page offset bs) (bytes_kept bytes more start len within)
action_kept bytes more (Touch page count) before within = refl
action_kept bytes more (Free page count) before within = refl
action_kept bytes more Idle before within = refl
action_kept bytes more Yield before within = refl
action_kept bytes more (Post queue len start) before within = ap (λ bs. action.Post queue bs) (bytes_kept bytes more start len within)
action_kept bytes more (Actual pages) before within = refl

item_kept : (bytes more : List ℕ) (i : Item) → end_of i ≤ length bytes → steps_at (bytes ++ more) i ≡ steps_at bytes i
item_kept bytes more i within = λ j. map (λ before. action_kept bytes more i before within j) (range_with_len 0 (count_of i))

-- more bytes behind the others change no step
steps_kept : (bytes more : List ℕ) (entries : List Entry) → All (λ e. end_of e.item ≤ length bytes) entries → steps_of (bytes ++ more) entries ≡ steps_of bytes entries
steps_kept bytes more [] within = refl
steps_kept bytes more (e ∷ es) within = λ i.
    item_kept bytes more e.item (All-head (λ e. end_of e.item ≤ length bytes) e es within) i
    ++ steps_kept bytes more es (All-tail (λ e. end_of e.item ≤ length bytes) e es within) i

within_kept : (bytes more : List ℕ) (entries : List Entry) → All (λ e. end_of e.item ≤ length bytes) entries → All (λ e. end_of e.item ≤ length (bytes ++ more)) entries
within_kept bytes more [] within = All-nil (λ e. end_of e.item ≤ length (bytes ++ more))
within_kept bytes more (e ∷ es) within =
    let here : end_of e.item ≤ length bytes = All-head (λ e. end_of e.item ≤ length bytes) e es within in
    All-cons (λ e. end_of e.item ≤ length (bytes ++ more)) e es (omega (arith, here, length-append bytes more)) (within_kept bytes more es (All-tail (λ e. end_of e.item ≤ length bytes) e es within))

kept_more : (bytes more : List ℕ) (entries : List Entry) → AreKept bytes entries → AreKept (bytes ++ more) entries
kept_more bytes more entries kept = record {
  within = within_kept bytes more entries kept.within;
  limits = All-same IsStep _ _ (steps_kept bytes more entries kept.within) kept.limits;
}

-- the same, of a list of bytes that is equal to one with more bytes behind
pub trace_after : (old added new : List ℕ) (entries : List Entry) (steps : ℕ) → new ≡ old ++ added → IsTrace old entries steps → IsTrace new entries steps
trace_after old added new entries steps is trace = record {
  kept = subst (λ bytes. AreKept bytes entries) (sym is) (kept_more old added entries trace.kept);
  numbered = trace.numbered;
}

pub steps_after : (old added new : List ℕ) (entries : List Entry) (steps : ℕ) → new ≡ old ++ added → IsTrace old entries steps → steps_of new entries ≡ steps_of old entries
steps_after old added new entries steps is trace = ap (λ bytes. steps_of bytes entries) is ∙ steps_kept old added entries trace.kept.within

-- ---- an entry behind the others

pub steps_more : (bytes : List ℕ) (entries : List Entry) (e : Entry) → steps_of bytes (entries ++ e ∷ []) ≡ steps_of bytes entries ++ steps_at bytes e.item
steps_more bytes [] e = append-nil (steps_at bytes e.item)
steps_more bytes (d ∷ es) e =
    ap (λ l. steps_at bytes d.item ++ l) (steps_more bytes es e)
    ∙ sym (append_assoc (steps_at bytes d.item) (steps_of bytes es) (steps_at bytes e.item))

pub total-more : (entries : List Entry) (e : Entry) → total (entries ++ e ∷ []) ≡ total entries + count_of e.item
total-more [] e = omega arith
total-more (d ∷ es) e = omega (arith, total-more es e)

placed_more : (before : ℕ) (entries : List Entry) (e : Entry) → ArePlaced before entries → e.first ≡ before + total entries → 1 ≤ count_of e.item → ArePlaced before (entries ++ e ∷ [])
placed_more before [] e placed first some = (omega (arith, first), some, tt)
placed_more before (d ∷ es) e placed first some =
    (placed.0, placed.1, placed_more (before + count_of d.item) es e placed.2 (omega (arith, first)) some)

-- a new entry knows the number of steps before it
pub trace_more : (bytes : List ℕ) (entries : List Entry) (steps all : ℕ) (e : Entry) → IsTrace bytes entries steps → e.first ≡ steps → all ≡ steps + count_of e.item
    → 1 ≤ count_of e.item → end_of e.item ≤ length bytes → All IsStep (steps_at bytes e.item) → IsTrace bytes (entries ++ e ∷ []) all
trace_more bytes entries steps all e trace first is some within limits =
    let count = trace.numbered.count in
    record {
      kept = record {
        within = All-append (λ e. end_of e.item ≤ length bytes) entries (e ∷ []) trace.kept.within
            (All-cons (λ e. end_of e.item ≤ length bytes) e [] within (All-nil (λ e. end_of e.item ≤ length bytes)));
        limits = All-same IsStep _ _ (steps_more bytes entries e) (All-append IsStep (steps_of bytes entries) (steps_at bytes e.item) trace.kept.limits limits);
      };
      numbered = record {
        placed = placed_more 0 entries e trace.numbered.placed (omega (arith, first, count)) some;
        count = omega (arith, is, count, total-more entries e);
      };
    }

-- ---- counts

pub length-steps_at : (bytes : List ℕ) (i : Item) → length (steps_at bytes i) ≡ count_of i
length-steps_at bytes i = length-map-range_with_len (action_at bytes i) 0 (count_of i)

pub length-steps_of : (bytes : List ℕ) (entries : List Entry) → length (steps_of bytes entries) ≡ total entries
length-steps_of bytes [] = refl
length-steps_of bytes (e ∷ es) =
    omega (arith, length-append (steps_at bytes e.item) (steps_of bytes es), length-steps_at bytes e.item, length-steps_of bytes es)

-- a trace has the number of steps that it keeps
pub length-trace : (bytes : List ℕ) (entries : List Entry) (steps : ℕ) → IsTrace bytes entries steps → length (steps_of bytes entries) ≡ steps
length-trace bytes entries steps trace = length-steps_of bytes entries ∙ sym trace.numbered.count

-- an item that is one step counts one
pub count_one : (bytes : List ℕ) (i : Item) (a : Action) → Keeps bytes i (a ∷ []) → count_of i ≡ 1
count_one bytes i a k = sym (length-steps_at bytes i) ∙ ap length k.same

-- one step more behind the others
pub trace_push : (bytes : List ℕ) (entries : List Entry) (steps all : ℕ) (i : Item) (a : Action) → IsTrace bytes entries steps → Keeps bytes i (a ∷ []) → IsStep a → all ≡ steps + 1
    → IsTrace bytes (entries ++ record { first = steps; item = i } ∷ []) all
trace_push bytes entries steps all i a trace k step is =
    let one = count_one bytes i a k in
    trace_more bytes entries steps all (record { first = steps; item = i }) trace refl (omega (arith, is, one)) (omega (arith, one)) k.within
    (All-same IsStep _ _ k.same (All-cons IsStep a [] step (All-nil IsStep)))

-- no step
no_steps : {A : Type 0} → (xs : List A) → length xs ≡ 0 → xs ≡ []
no_steps [] none = refl
no_steps (x ∷ xs) none = absurd (omega arith)

pub trace_empty : (bytes : List ℕ) (entries : List Entry) (steps : ℕ) → IsTrace bytes entries steps → steps ≡ 0 → steps_of bytes entries ≡ []
trace_empty bytes entries steps trace none = no_steps (steps_of bytes entries) (length-trace bytes entries steps trace ∙ none)

pub empty_trace : (bytes : List ℕ) (entries : List Entry) (steps : ℕ) → IsTrace bytes entries steps → steps_of bytes entries ≡ [] → steps ≡ 0
empty_trace bytes entries steps trace none = sym (length-trace bytes entries steps trace) ∙ ap length none

pub on_err : {X E : Type 0} (r : Result X E) (P : Type 0) → P → OnErr r P
on_err (Ok x) P p = tt
on_err (Err e) P p = p

pub on_none : {X : Type 0} (r : Option X) (P : Type 0) → P → IfNone r P
on_none (Some x) P p = tt
on_none None P p = p

-- a copy of the bytes and of the entries keeps the same
pub trace_copy : (bytes bytes_copy : List ℕ) (entries entries_copy : List Entry) (steps : ℕ) → bytes_copy ≡ bytes → entries_copy ≡ entries → IsTrace bytes entries steps → IsTrace bytes_copy entries_copy steps
trace_copy bytes bytes_copy entries entries_copy steps same_bytes same trace =
    subst (λ bs. IsTrace bs entries_copy steps) (sym same_bytes) (subst (λ es. IsTrace bytes es steps) (sym same) trace)
