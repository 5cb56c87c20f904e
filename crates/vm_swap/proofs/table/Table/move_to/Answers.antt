use Rattle.vm_swap.proofs.table.Table.move_to.Goals as goal

pub returns-else-room-capacity-clause-room : goal.returns-else-room-capacity-clause-room
returns-else-room-capacity-clause-room g c = rw (← c.self.view_is, ← c.capacity.ensures) c.if-room-capacity.false
