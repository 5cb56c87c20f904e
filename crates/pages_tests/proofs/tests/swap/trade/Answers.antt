use Rattle.pages_tests.proofs.tests.swap.trade.Goals as goal

pub trade-requires-clause-absent : goal.trade-requires-clause-absent
trade-requires-clause-absent g c = c.check_room.ensures.absent

pub trade-requires-clause-room : goal.trade-requires-clause-room
trade-requires-clause-room g c = c.check_room.ensures.more_room c.args.page
