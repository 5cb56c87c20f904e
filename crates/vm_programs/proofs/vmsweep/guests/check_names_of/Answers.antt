use Rattle.std.proofs.Common.{◌∙◌, ap}
use Rattle.vm_config.specs.Names.{is_name}
use Rattle.vm_lists.specs.Names.{checked_names}
use Rattle.vm_programs.specs.vmsweep.Lists.{for_names, names_checked}
use Rattle.vm_programs.proofs.lemmas.vmsweep.Guests.{names-same}
use Rattle.vm_programs.proofs.vmsweep.guests.check_names_of.Goals as goal

pub returns-in-Ok : goal.returns-in-Ok
unfolding names_checked
returns-in-Ok c = ap (for_names c.args.key) (c.in-Ok.ensures.checked ∙ ap (checked_names is_name) (names-same c.args.lists.now))

pub returns-in-Err : goal.returns-in-Err
unfolding names_checked
returns-in-Err c = ap (for_names c.args.key) (c.in-Err.ensures.checked ∙ ap (checked_names is_name) (names-same c.args.lists.now))
