use Rattle.pages_tests.proofs.tests.swap.save.Goals as goal

pub save-requires-clause-absent : goal.save-requires-clause-absent
save-requires-clause-absent g c = c.check_room.ensures.absent

pub save-requires-clause-room : goal.save-requires-clause-room
save-requires-clause-room g c = c.check_room.ensures.room
