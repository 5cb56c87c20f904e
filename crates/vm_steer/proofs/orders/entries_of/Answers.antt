use Rattle.std.proofs.Common.{◌≡◌, ◌∙◌, ◌+◌, ◌++◌, ◌∷◌, [], ◌<◌, List, ℕ, Bor, Option, drop, length, map, slice_get, ap, arith, sym, refl}
use Rattle.std.proofs.lemmas.List.{length-map}
use Rattle.vm_steer.specs.declared.outcome.Outcome.{Outcome}
use Rattle.vm_steer.specs.Sights.{rows_of_one}
use Rattle.vm_steer.specs.Told.{entries_of, entry_of}
use Rattle.vm_steer.proofs.EntryLemmas.{step_entry}
use Rattle.vm_steer.proofs.orders.entries_of.Goals as goal

pub loop-position-preserved : goal.loop-position-preserved
loop-position-preserved c =
    let names = map (λ (n : Bor (List ℕ)). n.now) c.args.names.now in
    let i = c.loop-position.position in
    let taken = c.loop-position.taken in
    let wide : length names ≡ length c.args.names.now = length-map c.args.names.now (λ (n : Bor (List ℕ)). n.now) in
    let within : i < length c.args.names.now = omega (arith, c.loop-position.invariant.ends, c.loop-position-test.true) in
    let name = c.name_at-name.result.now in
    let sight = c.index-sights-position.result in
    let entry = c.in_ok-entry_of.field-0 in
    let all = entries_of c.args.policy.now c.args.may_rise names c.args.sights.now c.args.outcomes.now in
    let is : entry ≡ entry_of c.args.policy.now c.args.may_rise name sight (slice_get c.args.outcomes.now taken) =
    c.in_ok-entry_of.ensures ∙ ap (λ (o : Option Outcome). entry_of c.args.policy.now c.args.may_rise name sight o) c.outcome_at-outcome.ensures in
    let step : (c.loop-position.entries.items ++ entry ∷ []) ++ entries_of c.args.policy.now c.args.may_rise (drop (i + 1) names) (drop (i + 1) c.args.sights.now) (drop (taken + rows_of_one sight) c.args.outcomes.now) ≡ all =
    step_entry c.args.policy.now c.args.may_rise c.loop-position.entries.items names c.args.sights.now c.args.outcomes.now all i taken name sight entry
    (omega (arith, wide, within)) (omega (arith, within, c.requires)) c.name_at-name.ensures (sym c.index-sights-position.is) is c.loop-position.invariant.done in
    let few = c.loop-position.invariant.few in
    let one = c.rows_of_one.ensures.few in
    record {
      ends = refl;
      done = (λ k. c.in_ok-push.ensures.items k ++ entries_of c.args.policy.now c.args.may_rise (drop (i + 1) names) (drop (i + 1) c.args.sights.now) (drop (taken + c.rows_of_one.ensures.exact k) c.args.outcomes.now)) ∙ step;
      few = omega (arith, few, one);
    }
