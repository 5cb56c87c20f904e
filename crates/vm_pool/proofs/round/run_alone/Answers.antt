use Rattle.std.proofs.Common.{◌∙◌, arith, subst}
use Rattle.std.specs.List.{range_with_len}
use Rattle.vm_board.specs.Gates.{HasPassed}
use Rattle.vm_pool.proofs.SlotLemmas.{served-same, length-same, running-same}
use Rattle.vm_pool.proofs.TurnLemmas.{all-prepared, ready-here, run-same}
use Rattle.vm_pool.proofs.round.run_alone.Goals as goal

pub run_in_order-requires-clause-few : goal.run_in_order-requires-clause-few
run_in_order-requires-clause-few g c κs within =
    omega (arith, c.requires.few, length-same c.args.slots.now c.prepare_all.new.slots c.prepare_all.ensures.same)

pub run_in_order-requires-clause-ready : goal.run_in_order-requires-clause-ready
run_in_order-requires-clause-ready g c κs within =
    let old = c.args.slots.now in
    let slots = c.prepare_all.new.slots in
    let same = c.prepare_all.ensures.same in
    ready-here slots (all-prepared slots c.in_ok-prepare_all.ensures.prepared) (served-same old slots same c.requires.served)

pub returns-clause-run : goal.returns-clause-run
returns-clause-run g c =
    c.run_in_order.ensures.run ∙ run-same c.prepare_all.new.slots c.args.slots.now c.prepare_all.ensures.same

pub returns-clause-passed : goal.returns-clause-passed
returns-clause-passed g c =
    subst (λ count. HasPassed g.G.Gate.passed (range_with_len 0 count)) (running-same c.args.slots.now c.prepare_all.new.slots c.prepare_all.ensures.same)
    c.run_in_order.ensures.passed
