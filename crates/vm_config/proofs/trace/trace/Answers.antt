use Rattle.std.proofs.Common.{◌≡◌, ◌<◌, [], map, drop, length, Ok, Err, refl, ap, sym, subst, ◌∙◌, inl, inr, arith}
use Rattle.std.proofs.lemmas.List.{drop_all, length-append}
use Rattle.std.proofs.lemmas.List.Elements.{All-append}
use Rattle.vm_json.specs.View.{items_seen}
use Rattle.vm_trace.specs.declared.limits.StepLimits.{StepLimits}
use Rattle.vm_trace.specs.Limits.{IsStep, IsWithin}
use Rattle.vm_trace.specs.Sized.{steps_with}
use Rattle.vm_config.specs.declared.error.ConfigError.TheVariants.{Trace}
use Rattle.vm_config.specs.Keys.{text_of}
use Rattle.vm_config.specs.Reading.{steps_from}
use Rattle.vm_config.proofs.TraceLemmas.{steps_from_next, steps_from_fault, steps_with-added}
use Rattle.vm_config.proofs.trace.trace.Goals as goal

pub loop-place-preserved : goal.loop-place-preserved
loop-place-preserved c =
    let invariant = c.loop-place.invariant in
    let pushed = c.in-Ok.ensures.ok in
    let items = items_seen c.args.texts in
    let below : c.loop-place.place < length items = let test = c.loop-place-test.true in let all = c.len-place-end.ensures in omega arith in
    let text = c.text_at.result.now in
    let steps = c.loop-place.steps in
    let read = subst (λ (l : StepLimits). steps_with l c.args.size text steps ≡ Ok c.push_text.new.self) c.step_limits-allowed.ensures
    (steps_with-added c.step_limits-allowed.result c.args.size text steps c.push_text.new.self pushed) in
    record {
      completes = steps_from_next c.args.limits.now c.args.size c.args.guest items c.loop-place.place text steps c.push_text.new.self below c.text_at.ensures read ∙ invariant.completes;
      within = rw pushed.added (All-append (IsWithin c.args.size) steps pushed.steps invariant.within pushed.within);
      bounded = rw pushed.added (All-append IsStep steps pushed.steps invariant.bounded pushed.bounded);
      count = let few = pushed.few in rw pushed.added (omega (arith, few, length-append steps pushed.steps));
    }

pub returns-in-Err-Fault-clause-steps : goal.returns-in-Err-Fault-clause-steps
returns-in-Err-Fault-clause-steps c =
    let invariant = c.loop-place.invariant in
    let items = items_seen c.args.texts in
    let same = c.in-Err-Fault.fault-is in
    let read = subst (λ (l : StepLimits). steps_with l c.args.size c.text_at.result.now c.loop-place.steps ≡ Err c.in-Err-Fault.fault) c.step_limits-allowed.ensures
    (c.in-Err-Fault.ensures.fault c.in-Err-Fault.fault (ap Err c.in-Err-Fault.field-0-is)) in
    let below : c.loop-place.place < length items = let test = c.loop-place-test.true in let all = c.len-place-end.ensures in omega arith in
    let wanted = sym invariant.completes ∙ steps_from_fault c.args.limits.now c.args.size c.args.guest items c.loop-place.place c.text_at.result.now c.loop-place.steps c.in-Err-Fault.fault below c.text_at.ensures read in
    inl (ap (λ fault. Err (Trace c.args.guest c.loop-place.place fault)) same ∙ sym wanted)

pub returns : goal.returns
returns c =
    let invariant = c.loop-place.invariant in
    let items = items_seen c.args.texts in
    let steps = c.loop-place.steps in
    let end : c.loop-place.place ≡ length items =
    let test = c.loop-place-test.false in let most = c.loop-place.auto.place-end in let all = c.len-place-end.ensures in omega arith in
    let none : drop c.loop-place.place items ≡ [] = drop_all c.loop-place.place items (omega (arith, end)) in
    record {
      steps = inl (ap (λ left. steps_from c.args.limits.now c.args.size c.args.guest c.loop-place.place (map text_of left) steps) (sym none) ∙ invariant.completes);
      within = invariant.within;
      bounded = invariant.bounded;
      count = invariant.count;
    }

pub returns-in-Err-Memory : goal.returns-in-Err-Memory
returns-in-Err-Memory c = record { steps = inr refl; within = tt; bounded = tt; count = tt }
