use Rattle.vm_pool.proofs.TurnLemmas.{is-away}
use Rattle.vm_pool.proofs.slot.fill.Goals as goal

pub returns : goal.returns
returns c = c.replace.ensures.after

pub unreachable-requires : goal.unreachable-requires
unreachable-requires c = let away = is-away c.args.slot.now c.requires in cc

pub unreachable-requires-in-Running : goal.unreachable-requires-in-Running
unreachable-requires-in-Running c = let away = is-away c.args.slot.now c.requires in cc
