use Rattle.vm_config.proofs.schedule.Schedule.new.Goals as goal

pub returns : goal.returns
returns c = c.new.ensures.items
