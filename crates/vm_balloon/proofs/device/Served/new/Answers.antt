use Rattle.vm_balloon.proofs.device.Served.new.Goals as goal

pub returns : goal.returns
returns c = record { inflated = c.in_ok-with_capacity.ensures.capacity; deflated = c.in_ok-with_capacity-2.ensures.capacity; memory = tt }
