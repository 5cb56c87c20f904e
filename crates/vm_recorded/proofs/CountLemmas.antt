-- What epochs come to, with more of them.
use Rattle.std.proofs.Common.{◌≡◌, ◌∙◌, ℕ, zero, suc, ◌+◌, ◌*◌, ◌<◌, List, [], ◌∷◌, ◌++◌, codes, length, max, replicate, Option, None, Some, refl, sym, ap, arith, append_assoc, length-append}
use Rattle.std.proofs.lemmas.List.{append-nil}
use Rattle.vm_recorded.specs.declared.counts.Counts.{Counts}
use Rattle.vm_recorded.specs.Counts.{absent_for, bytes_in, counted, counts_of, last_from}
use Rattle.vm_recorded.specs.Parts.{ended_steps}
use Rattle.vm_recorded.specs.Texts.{quoted}
use Rattle.vm_recorded.specs.Traces.{epoch_of, freed, longest_from, steps_from, steps_in, touched, trace_from, trace_of, used_after}
use Rattle.vm_recorded.proofs.PartLemmas.{ended_steps_append}

last_from_more : (last : ℕ) (uses : List (Option ℕ)) (used : Option ℕ) → last_from last (uses ++ used ∷ []) ≡ used_after (last_from last uses) used
last_from_more last [] used = refl
last_from_more last (first ∷ uses) used = last_from_more (used_after last first) uses used

steps_from_more : (last : ℕ) (uses : List (Option ℕ)) (used : Option ℕ)
    → steps_from last (uses ++ used ∷ []) ≡ steps_from last uses + steps_in (last_from last uses) used
steps_from_more last [] used = omega arith
steps_from_more last (first ∷ uses) used = omega (arith, steps_from_more (used_after last first) uses used)

longest_from_more : (last : ℕ) (uses : List (Option ℕ)) (used : Option ℕ)
    → longest_from last (uses ++ used ∷ []) ≡ max (longest_from last uses) (steps_in (last_from last uses) used)
longest_from_more last [] used = omega arith
longest_from_more last (first ∷ uses) used = omega (arith, longest_from_more (used_after last first) uses used)

trace_from_more : (last : ℕ) (uses : List (Option ℕ)) (used : Option ℕ)
    → trace_from last (uses ++ used ∷ []) ≡ trace_from last uses ++ epoch_of (last_from last uses) used
trace_from_more last [] used = append-nil (epoch_of last used)
trace_from_more last (first ∷ uses) used =
    ap (λ (l : List (List ℕ)). epoch_of last first ++ l) (trace_from_more (used_after last first) uses used)
    ∙ sym (append_assoc (epoch_of last first) (trace_from (used_after last first) uses) _)

bytes_more : (uses : List (Option ℕ)) (used : Option ℕ)
    → length (ended_steps (trace_of (uses ++ used ∷ []))) ≡ length (ended_steps (trace_of uses)) + bytes_in (last_from 0 uses) used
unfolding bytes_in
bytes_more uses used =
    ap (λ (l : List (List ℕ)). length (ended_steps l)) (trace_from_more 0 uses used)
    ∙ ap length (ended_steps_append (trace_of uses) (epoch_of (last_from 0 uses) used))
    ∙ length-append (ended_steps (trace_of uses)) (ended_steps (epoch_of (last_from 0 uses) used))

pub bytes_in_none : (last : ℕ) → 4 ≡ bytes_in last None
unfolding bytes_in quoted
bytes_in_none last = refl

pub bytes_in_some : (last units : ℕ)
    → length (ended_steps (freed last units)) + length (ended_steps (touched units)) + 4 ≡ bytes_in last (Some units)
unfolding bytes_in
bytes_in_some last units =
    let y : length (ended_steps (codes "y" ∷ [])) ≡ 4 = sym (bytes_in_none last) in
    let both : length (ended_steps (touched units ++ codes "y" ∷ [])) ≡ length (ended_steps (touched units)) + length (ended_steps (codes "y" ∷ [])) =
    ap length (ended_steps_append (touched units) (codes "y" ∷ []))
    ∙ length-append (ended_steps (touched units)) (ended_steps (codes "y" ∷ [])) in
    let all : length (ended_steps (freed last units ++ (touched units ++ codes "y" ∷ [])))
    ≡ length (ended_steps (freed last units)) + length (ended_steps (touched units ++ codes "y" ∷ [])) =
    ap length (ended_steps_append (freed last units) (touched units ++ codes "y" ∷ []))
    ∙ length-append (ended_steps (freed last units)) (ended_steps (touched units ++ codes "y" ∷ [])) in
    omega (arith, y, both, all)

-- with one epoch more
pub counts_of_more : (uses : List (Option ℕ)) (used : Option ℕ) → counts_of (uses ++ used ∷ []) ≡ counted (counts_of uses) used
unfolding counts_of
counts_of_more uses used =
    let last = last_from_more 0 uses used in
    let steps = steps_from_more 0 uses used in
    let longest = longest_from_more 0 uses used in
    let bytes = bytes_more uses used in
    λ i. record { last = last i; steps = steps i; longest = longest i; bytes = bytes i }

-- with so many epochs more without a use
pub counts_of_absent : (epochs : ℕ) (uses : List (Option ℕ)) → counts_of (uses ++ replicate epochs None) ≡ absent_for epochs (counts_of uses)
unfolding absent_for
counts_of_absent zero uses = ap counts_of (append-nil uses)
counts_of_absent (suc epochs) uses =
    ap counts_of (sym (append_assoc uses (None ∷ []) (replicate epochs None)))
    ∙ counts_of_absent epochs (uses ++ None ∷ [])
    ∙ ap (absent_for epochs) (counts_of_more uses None)

-- the same at once
abbrev pub absent_at_once : (epochs : ℕ) → Counts → Counts
absent_at_once epochs counts = record {
  last = counts.last;
  steps = counts.steps + epochs;
  longest = max counts.longest 1;
  bytes = counts.bytes + 4 * epochs;
}

counted_none : (counts : Counts) → counted counts None ≡ absent_at_once 1 counts
unfolding bytes_in quoted
counted_none counts = refl

at_once_then : (epochs : ℕ) (counts : Counts) → absent_at_once epochs (absent_at_once 1 counts) ≡ absent_at_once (suc epochs) counts
at_once_then epochs counts =
    let steps : counts.steps + 1 + epochs ≡ counts.steps + suc epochs = omega arith in
    let longest : max (max counts.longest 1) 1 ≡ max counts.longest 1 = omega arith in
    let bytes : counts.bytes + 4 * 1 + 4 * epochs ≡ counts.bytes + 4 * suc epochs = omega arith in
    λ i. record { last = counts.last; steps = steps i; longest = longest i; bytes = bytes i }

pub absent_for_some : (epochs : ℕ) (counts : Counts) → absent_for (suc epochs) counts ≡ absent_at_once (suc epochs) counts
unfolding absent_for
absent_for_some zero counts = counted_none counts
absent_for_some (suc epochs) counts =
    absent_for_some epochs (counted counts None)
    ∙ ap (absent_at_once (suc epochs)) (counted_none counts)
    ∙ at_once_then (suc epochs) counts

pub absent_none : (epochs : ℕ) (counts : Counts) → epochs ≡ 0 → counts ≡ absent_for epochs counts
unfolding absent_for
absent_none zero counts none = refl
absent_none (suc epochs) counts none = absurd (omega arith)

pub absent_some : (epochs : ℕ) (counts : Counts) → 0 < epochs → absent_at_once epochs counts ≡ absent_for epochs counts
absent_some zero counts some = absurd (omega arith)
absent_some (suc epochs) counts some = sym (absent_for_some epochs counts)

-- by parts
pub absent_parts : (epochs : ℕ) (counts : Counts) (steps longest waits : ℕ) → 0 < epochs → steps ≡ epochs → longest ≡ max counts.longest 1 → waits ≡ epochs
    → ◌≡◌ {A = Counts} (record { last = counts.last; steps = counts.steps + steps; longest = longest; bytes = counts.bytes + 4 * waits }) (absent_for epochs counts)
absent_parts epochs counts steps longest waits some steps_are longest_is waits_are =
    (λ i. record { last = counts.last; steps = counts.steps + steps_are i; longest = longest_is i; bytes = counts.bytes + 4 * waits_are i })
    ∙ absent_some epochs counts some
