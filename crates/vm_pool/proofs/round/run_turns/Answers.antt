use Rattle.std.proofs.Common.{◌∙◌, ap, arith, length, map, sym, subst, List}
use Rattle.std.specs.Prelude.{All, count_by}
use Rattle.std.proofs.lemmas.List.{length-map}
use Rattle.vm_guest.specs.State.{GuestState, state_epoch}
use Rattle.vm_pool.specs.Slots.{is_away, unprepared}
use Rattle.vm_pool.specs.Turns.{back_in, running_in, IsReady}
use Rattle.vm_board.specs.Gates.{PassedOnce}
use Rattle.vm_pool.proofs.RunningLemmas.{length-running}
use Rattle.vm_pool.proofs.SlotLemmas.{settled-same, served-same, length-same, running-same}
use Rattle.vm_pool.proofs.TurnLemmas.{all-prepared, away-left, back-run, back-same, finished-turns, length-running_in, ready, run-same}
use Rattle.vm_pool.proofs.round.run_turns.Goals as goal

pub run_round-requires-clause-few : goal.run_round-requires-clause-few
run_round-requires-clause-few g c κs within =
    let slots = c.prepare_all.new.slots in
    let jobs = ap (λ (turns : List GuestState). length turns) (c.from.ensures ∙ c.send_out-turns.ensures.turns) in
    let few = length-running_in slots in
    let same = length-same c.args.slots.now slots c.prepare_all.ensures.same in
    let all = c.requires.few in
    omega (arith, jobs, few, same, all)

pub run_round-requires-clause-ready : goal.run_round-requires-clause-ready
run_round-requires-clause-ready g c κs within =
    let old = c.args.slots.now in
    let slots = c.prepare_all.new.slots in
    let same = c.prepare_all.ensures.same in
    subst (λ (turns : List GuestState). All IsReady turns) (sym (c.from.ensures ∙ c.send_out-turns.ensures.turns))
    (ready slots (all-prepared slots c.in_ok-prepare_all.ensures.prepared) (served-same old slots same c.requires.served))

pub bring_back-requires : goal.bring_back-requires
bring_back-requires g c =
    let old = c.args.slots.now in
    let slots = c.prepare_all.new.slots in
    let settled = settled-same old slots c.prepare_all.ensures.same c.requires.settled in
    let turns = c.into_vec.ensures ∙ c.in-Ok.ensures.ok ∙ ap (map _) (c.from.ensures ∙ c.send_out-turns.ensures.turns) ∙ finished-turns (running_in slots) in
    let many = ap (λ (ts : List GuestState). length ts) turns ∙ length-map (running_in slots) state_epoch in
    let away = ap (count_by is_away) c.send_out-turns.ensures.slots ∙ away-left slots settled in
    record { all = omega (arith, many, away, c.into_vec.result.ok) }

pub bring_back-requires-in-Err : goal.bring_back-requires-in-Err
bring_back-requires-in-Err g c =
    let old = c.args.slots.now in
    let slots = c.prepare_all.new.slots in
    let settled = settled-same old slots c.prepare_all.ensures.same c.requires.settled in
    let turns = c.into_vec-in-Err.ensures ∙ c.in-Err.ensures.err ∙ c.from.ensures ∙ c.send_out-turns.ensures.turns in
    let many = ap (λ (ts : List GuestState). length ts) turns in
    let away = ap (count_by is_away) c.send_out-turns.ensures.slots ∙ away-left slots settled in
    record { all = omega (arith, many, away, c.into_vec-in-Err.result.ok) }

pub returns-in-Ok-clause-run : goal.returns-in-Ok-clause-run
returns-in-Ok-clause-run g c =
    let old = c.args.slots.now in
    let slots = c.prepare_all.new.slots in
    let settled = settled-same old slots c.prepare_all.ensures.same c.requires.settled in
    let turns = c.into_vec.ensures ∙ c.in-Ok.ensures.ok ∙ ap (map _) (c.from.ensures ∙ c.send_out-turns.ensures.turns) ∙ finished-turns (running_in slots) in
    c.bring_back.ensures ∙ (λ i. back_in (c.send_out-turns.ensures.slots i) (turns i)) ∙ back-run slots settled ∙ run-same slots old c.prepare_all.ensures.same

pub returns-in-Err-clause-same : goal.returns-in-Err-clause-same
returns-in-Err-clause-same g c =
    let old = c.args.slots.now in
    let slots = c.prepare_all.new.slots in
    let settled = settled-same old slots c.prepare_all.ensures.same c.requires.settled in
    let turns = c.into_vec-in-Err.ensures ∙ c.in-Err.ensures.err ∙ c.from.ensures ∙ c.send_out-turns.ensures.turns in
    ap (map unprepared) (c.bring_back-in-Err.ensures ∙ (λ i. back_in (c.send_out-turns.ensures.slots i) (turns i)) ∙ back-same slots settled) ∙ c.prepare_all.ensures.same

pub returns-in-Ok-clause-passed : goal.returns-in-Ok-clause-passed
returns-in-Ok-clause-passed g c =
    let slots = c.prepare_all.new.slots in
    let jobs = ap (λ (turns : List GuestState). length turns) (c.from.ensures ∙ c.send_out-turns.ensures.turns) in
    let count = jobs ∙ length-running slots ∙ running-same c.args.slots.now slots c.prepare_all.ensures.same in
    subst (PassedOnce g.G.Gate.passed c.args.workers) count c.in-Ok.ensures.passed
