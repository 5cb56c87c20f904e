use Rattle.std.proofs.Common.{◌≡◌, ◌∙◌, ◌+◌, ap, arith, get_or, length, subst, sym}
use Rattle.std.specs.List.{range_with_len}
use Rattle.vm_pool.specs.Pool.{one_if_runs}
use Rattle.vm_pool.specs.Slots.{guest_in, slot_run}
use Rattle.vm_pool.specs.Turns.{MayRun}
use Rattle.vm_pool.proofs.FirstLemmas.{step-first_mapped, end-first_mapped, next-first_mapped, first_total, step-first_total}
use Rattle.vm_pool.proofs.RunningLemmas.{all-running}
use Rattle.vm_pool.proofs.round.run_in_order.Goals as goal

pub run_here-outside-requires-clause-ready : goal.run_here-outside-requires-clause-ready
run_here-outside-requires-clause-ready g c κs within =
    let old = c.args.slots.now in
    let i = c.loop-slot.slot-index in
    let d = c.slot-item.result in
    let here = ap (λ xs. get_or xs i d) c.loop-slot.invariant.run ∙ next-first_mapped slot_run i old d in
    subst MayRun (sym here) (c.requires.ready i d c.loop-slot-test.true)

pub loop-slot-preserved : goal.loop-slot-preserved
loop-slot-preserved g c =
    let old = c.args.slots.now in
    let i = c.loop-slot.slot-index in
    let d = c.slot-item.result in
    let few = c.loop-slot.invariant.few in
    let count = c.loop-slot.invariant.count in
    let here = ap (λ xs. get_or xs i d) c.loop-slot.invariant.run ∙ next-first_mapped slot_run i old d in
    let more = c.run_here-outside.ensures.number ∙ ap (λ slot. c.loop-slot.number + one_if_runs (guest_in slot)) here in
    let counted = step-first_total (λ slot. one_if_runs (guest_in slot)) i old d c.loop-slot-test.true in
    record {
      run = step-first_mapped slot_run c.loop-slot.slots old i _ d c.loop-slot.invariant.run c.loop-slot-test.true c.run_here-outside.ensures.run;
      count = more ∙ ap (λ n. n + one_if_runs (guest_in (get_or old i d))) count ∙ sym counted;
      few = omega (arith, few, c.run_here-outside.ensures.few);
      passed = c.run_here-outside.ensures.passed;
    }

pub returns-clause-run : goal.returns-clause-run
returns-clause-run g c =
    end-first_mapped slot_run c.loop-slot.slots c.args.slots.now c.loop-slot.slot-index c.loop-slot.invariant.run c.loop-slot.auto.slot-index-end c.loop-slot-test.false

pub returns-clause-passed : goal.returns-clause-passed
returns-clause-passed g c =
    let old = c.args.slots.now in
    let within = c.loop-slot.auto.slot-index-end in
    let past = c.loop-slot-test.false in
    let whole : c.loop-slot.slot-index ≡ length old = omega (arith, within, past) in
    let all = c.loop-slot.invariant.count ∙ ap (λ n. first_total (λ slot. one_if_runs (guest_in slot)) n old) whole ∙ all-running old in
    record {
      outside = c.loop-slot.outside;
      passed_with = subst (λ n. g.G.Gate.passed c.loop-slot.outside (range_with_len 0 n)) all c.loop-slot.invariant.passed;
    }
