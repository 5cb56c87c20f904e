use Rattle.pages_tests.proofs.tests.swap.put.Goals as goal

pub put-requires-clause-absent : goal.put-requires-clause-absent
put-requires-clause-absent g c = c.check_room.ensures.absent

pub put-requires-clause-room : goal.put-requires-clause-room
put-requires-clause-room g c = c.check_room.ensures.room
