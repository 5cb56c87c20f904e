use Rattle.vm_swap.proofs.Merged.{merged-insert_few}
use Rattle.vm_swap.proofs.Parted.{absent_both, room_few, parted_few}
use Rattle.vm_swap.proofs.area.SwapArea.put_few.Goals as goal

pub insert-requires-clause-absent : goal.insert-requires-clause-absent
insert-requires-clause-absent c =
    (absent_both c.self.inside.whole.values c.self.inside.few.values c.args.page (rw (← c.self.view_is) at c.requires.absent)).1

pub insert-requires-clause-room : goal.insert-requires-clause-room
insert-requires-clause-room c =
    room_few c.self.inside.capacity c.self.inside.whole c.self.inside.few c.self.invariant (rw (← c.self.view_is) at c.requires.room)

pub invariant_of-self : goal.invariant_of-self
invariant_of-self c =
    rw c.insert.ensures (parted_few c.self.inside.capacity c.self.inside.whole c.self.inside.few c.args.page c.args.log c.self.invariant (rw (← c.self.view_is) at c.requires.absent) (rw (← c.self.view_is) at c.requires.room))

pub returns : goal.returns
returns c =
    let gone = (absent_both c.self.inside.whole.values c.self.inside.few.values c.args.page (rw (← c.self.view_is) at c.requires.absent)).0 in
    rw (← c.self.view_is, c.insert.ensures) (λ i. record { pages = merged-insert_few c.self.inside.whole.values c.self.inside.few.values c.args.page c.args.log gone i; capacity = c.self.inside.capacity })
