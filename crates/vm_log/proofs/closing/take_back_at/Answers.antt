use Rattle.std.proofs.Common.{◌≡◌, ◌∙◌, ap}
use Rattle.vm_log.specs.Steps.{taken_back}
use Rattle.vm_log.proofs.LoopLemmas.{back_removed, back_set}
use Rattle.vm_log.proofs.closing.take_back_at.Goals as goal

pub returns-then-kept : goal.returns-then-kept
returns-then-kept c = c.remove-guest.ensures.items ∙ back_removed c.args.policy.now.most c.args.kept.now c.args.guests.now.items c.args.place c.if-kept.true c.requires

pub returns : goal.returns
returns c =
    back_set c.args.policy.now.most c.args.kept.now c.args.guests.now.items c.args.place c.index_mut.result.now c.take_back.new.guest c.if-kept.false c.requires
    (c.take_back.ensures ∙ ap (taken_back c.args.policy.now.most c.args.kept.now) c.index_mut.ensures.value)
