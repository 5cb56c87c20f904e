use Rattle.std.proofs.Common.{map, refl, sym, subst, arith}
use Rattle.std.specs.List.{range_with_len}
use Rattle.vm_board.specs.Gates.{HasPassed, PassedOnce}
use Rattle.vm_board.proofs.Gates.{passed_in_order, passed_none}
use Rattle.vm_pool.specs.Pool.{running_count}
use Rattle.vm_pool.specs.Slots.{guest_in}
use Rattle.vm_pool.proofs.RunningLemmas.{idle-run, not-more, on-ok}
use Rattle.vm_pool.proofs.PoolLemmas.{on_err}
use Rattle.vm_pool.proofs.round.run_epochs_alone.Goals as goal

pub returns-then-not-has_guests-clause-run : goal.returns-then-not-has_guests-clause-run
returns-then-not-has_guests-clause-run g c =
    let slots = c.args.slots.now in
    sym (idle-run slots (not-more (running_count (map guest_in slots)) c.if-not-has_guests.ensures.1))

pub returns-then-not-has_guests-clause-passed : goal.returns-then-not-has_guests-clause-passed
returns-then-not-has_guests-clause-passed g c =
    let slots = c.args.slots.now in
    subst (PassedOnce g.G.Gate.passed 1) (sym (not-more (running_count (map guest_in slots)) c.if-not-has_guests.ensures.1))
    (passed_none g.G.Gate.passed 1)

pub returns-clause-passed : goal.returns-clause-passed
returns-clause-passed g c =
    let count = running_count (map guest_in c.args.slots.now) in
    on-ok c.run_alone.result (HasPassed g.G.Gate.passed (range_with_len 0 count)) (PassedOnce g.G.Gate.passed 1 count)
    (passed_in_order g.G.Gate.passed 1 count (omega arith)) c.run_alone.ensures.passed

pub returns-clause-run : goal.returns-clause-run
returns-clause-run g c = c.run_alone.ensures.run

pub returns-clause-memory : goal.returns-clause-memory
returns-clause-memory g c = on_err c.run_alone.result _ (c.if-not-has_guests.ensures.0 refl)
