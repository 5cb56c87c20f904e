use Rattle.std.proofs.Common.{refl}
use Rattle.vm_config.specs.declared.settings.Setting.TheVariants as setting
use Rattle.vm_programs.proofs.lemmas.vmsweep.Range.{are-percent, in-range}
use Rattle.vm_programs.specs.vmsweep.Keys.{limits_of}
use Rattle.vm_programs.specs.declared.vmsweep.keys.SweptKey.TheVariants as key
use Rattle.vm_programs.proofs.vmsweep.running.lists_of.Goals as goal

pub new-requires-clause-frames : goal.new-requires-clause-frames
unfolding limits_of
new-requires-clause-frames c = in-range setting.Frames (limits_of key.Frames) refl refl _ c.requires.frames

pub new-requires-clause-swap : goal.new-requires-clause-swap
unfolding limits_of
new-requires-clause-swap c = in-range setting.Swap (limits_of key.Swap) refl refl _ c.requires.swap

pub new-requires-clause-tax : goal.new-requires-clause-tax
unfolding limits_of
new-requires-clause-tax c = in-range setting.Tax (limits_of key.Tax) refl refl _ c.requires.tax

pub new-requires-clause-page_rate : goal.new-requires-clause-page_rate
unfolding limits_of
new-requires-clause-page_rate c = in-range setting.PageRate (limits_of key.PageRate) refl refl _ c.requires.page_rate

pub new-requires-clause-rebalance : goal.new-requires-clause-rebalance
unfolding limits_of
new-requires-clause-rebalance c = in-range setting.Rebalance (limits_of key.Rebalance) refl refl _ c.requires.rebalance

pub with_guests-requires : goal.with_guests-requires
unfolding limits_of
with_guests-requires c = are-percent (limits_of key.MinPercent) refl refl _ c.requires.min_percent
