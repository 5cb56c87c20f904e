use Rattle.std.proofs.Common.{Ok, ap, ◌∙◌}
use Rattle.vm_trace.proofs.Rows.{bounded_of, item_one, item_touches, item_frees}
use Rattle.vm_trace.proofs.entering.other_item.Goals as goal

pub item_of-requires : goal.item_of-requires
item_of-requires c =
    bounded_of c.args.limits c.args.size c.args.text.now c.steps_in.result c.in-One.action c.requires.some c.requires.few (c.in_ok-action.was ∙ ap Ok c.in-One.is) c.steps_in.ensures.steps

pub returns-in_ok-item_of-in-One-clause-item : goal.returns-in_ok-item_of-in-One-clause-item
returns-in_ok-item_of-in-One-clause-item c =
    item_one c.args.limits c.args.size c.args.text.now c.args.store.now.items c.item_of.new.store.items c.steps_in.result c.in-One.action c.in_ok-item_of-in-One.field-0 c.requires.some c.requires.few
    (c.in_ok-action.was ∙ ap Ok c.in-One.is) c.steps_in.ensures.steps c.in_ok-item_of-in-One.ensures.item c.in_ok-item_of-in-One.ensures.ok

pub returns-in-Touches-clause-item : goal.returns-in-Touches-clause-item
returns-in-Touches-clause-item c =
    item_touches c.args.limits c.args.size c.args.text.now c.args.store.now.items c.steps_in.result c.in-Touches.field-0 c.requires.some c.requires.few
    (c.in_ok-action.was ∙ ap Ok c.in-Touches.is) c.steps_in.ensures.steps

pub returns-in-Frees-clause-item : goal.returns-in-Frees-clause-item
returns-in-Frees-clause-item c =
    item_frees c.args.limits c.args.size c.args.text.now c.args.store.now.items c.steps_in.result c.in-Frees.field-0 c.requires.some c.requires.few
    (c.in_ok-action.was ∙ ap Ok c.in-Frees.is) c.steps_in.ensures.steps
