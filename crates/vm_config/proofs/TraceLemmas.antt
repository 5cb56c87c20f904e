-- The steps of one text more of a trace.
use Rattle.std.proofs.Common.{◌≡◌, ℕ, suc, ◌+◌, ◌<◌, List, [], ◌∷◌, ◌++◌, map, length, drop, get_or, Ok, Err, ap, sym, ◌∙◌, arith}
use Rattle.std.proofs.lemmas.Bool.{le-leb}
use Rattle.std.proofs.lemmas.Option.{slice_get-get_or}
use Rattle.std.proofs.Math.Seq.{drop-cons}
use Rattle.serde_json.specs.Data.{Data, null}
use Rattle.serde_json.specs.Find.{as_str}
use Rattle.std.specs.Prelude.{slice_get, unwrap_or, option_and_then}
use Rattle.vm_trace.specs.declared.error.TraceError.{TraceError}
use Rattle.vm_trace.specs.declared.step.Step.{Step}
use Rattle.vm_config.specs.declared.error.ConfigError.TheVariants.{Trace}
use Rattle.vm_config.specs.declared.version.Limits.{Limits}
use Rattle.vm_config.specs.Keys.{text_of}
use Rattle.vm_config.specs.Outcomes.{◌>>=◌}
use Rattle.vm_config.specs.Reading.{at_place, step_limits, steps_from}
use Rattle.vm_trace.specs.declared.limits.StepLimits.{StepLimits}
use Rattle.vm_trace.specs.Limits.{most_steps}
use Rattle.vm_trace.specs.Sized.{steps_with, AreAdded}

-- the texts of the items from one on: its own, and those behind it
texts_left : (items : List Data) (i : ℕ) (text : List ℕ) → i < length items → text ≡ unwrap_or (option_and_then as_str (slice_get items i)) []
    → map text_of (drop i items) ≡ text ∷ map text_of (drop (i + 1) items)
texts_left items i text below is =
    let one : suc i ≡ i + 1 = omega arith in
    let here : text_of (get_or items i null) ≡ text = sym (is ∙ ap (λ found. unwrap_or (option_and_then as_str found) []) (slice_get-get_or items i null below)) in
    ap (map text_of) (drop-cons items i null below) ∙ (λ j. here j ∷ map text_of (drop (one j) items))

-- what was added is what the text makes of the steps
pub steps_with-added : (limits : StepLimits) (size : ℕ) (text : List ℕ) (old new : List Step) → AreAdded limits size text old new → steps_with limits size text old ≡ Ok new
steps_with-added limits size text old new added =
    rw (added.read, le-leb (length old + length added.steps) most_steps added.few) (ap Ok (sym added.added))

-- the items from one on go on as the items behind it do, once its steps were added
pub steps_from_next : (limits : Limits) (size guest : ℕ) (items : List Data) (i : ℕ) (text : List ℕ) (steps new : List Step)
    → i < length items → text ≡ unwrap_or (option_and_then as_str (slice_get items i)) [] → steps_with (step_limits limits) size text steps ≡ Ok new
    → steps_from limits size guest (i + 1) (map text_of (drop (i + 1) items)) new ≡ steps_from limits size guest i (map text_of (drop i items)) steps
steps_from_next limits size guest items i text steps new below is read =
    sym
    (ap (λ ts. steps_from limits size guest i ts steps) (texts_left items i text below is)
    ∙ ap (λ r. at_place guest i r >>= (λ x. steps_from limits size guest (i + 1) (map text_of (drop (i + 1) items)) x)) read)

-- the first fault is that of the item at a place, where the text there has one
pub steps_from_fault : (limits : Limits) (size guest : ℕ) (items : List Data) (i : ℕ) (text : List ℕ) (steps : List Step) (fault : TraceError)
    → i < length items → text ≡ unwrap_or (option_and_then as_str (slice_get items i)) [] → steps_with (step_limits limits) size text steps ≡ Err fault
    → steps_from limits size guest i (map text_of (drop i items)) steps ≡ Err (Trace guest i fault)
steps_from_fault limits size guest items i text steps fault below is read =
    ap (λ ts. steps_from limits size guest i ts steps) (texts_left items i text below is)
    ∙ ap (λ r. at_place guest i r >>= (λ x. steps_from limits size guest (i + 1) (map text_of (drop (i + 1) items)) x)) read
