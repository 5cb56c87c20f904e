use Rattle.vm_lists.proofs.SpelledLaws.{if_list, if_within, if_some, accepted}
use Rattle.vm_lists.proofs.lists.read_list.Goals as goal

pub returns-clause-list : goal.returns-clause-list
returns-clause-list c = if_list c.args.limits.now c.args.text.now c.list_of.result c.list_of.ensures.values

pub returns-clause-accepts : goal.returns-clause-accepts
returns-clause-accepts c = accepted c.args.limits.now c.args.text.now c.list_of.result c.list_of.ensures.values c.list_of.ensures.fault

pub returns-clause-within : goal.returns-clause-within
returns-clause-within c = if_within c.args.limits.now c.args.text.now c.list_of.result c.list_of.ensures.values

pub returns-clause-some : goal.returns-clause-some
returns-clause-some c = if_some c.args.limits.now c.args.text.now c.list_of.result c.list_of.ensures.values
