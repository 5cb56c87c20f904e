use Rattle.vm_lists.proofs.NameLaws.{if_names, if_name_fault}
use Rattle.vm_lists.specs.Names.{names_in}
use Rattle.vm_lists.proofs.names.check_names.Goals as goal

pub returns-clause-names : goal.returns-clause-names
returns-clause-names g c = if_names g.R.NameRule.is_name (names_in c.args.lists.now) c.checked_names.result c.checked_names.ensures

pub returns-clause-fault : goal.returns-clause-fault
returns-clause-fault g c = if_name_fault g.R.NameRule.is_name (names_in c.args.lists.now) c.checked_names.result c.checked_names.ensures
