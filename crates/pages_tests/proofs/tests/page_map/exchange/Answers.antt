use Rattle.std.proofs.Common.{length, ap, ◌∙◌}
use Rattle.std.proofs.lemmas.List.{length-set}
use Rattle.pages_tests.proofs.tests.page_map.exchange.Goals as goal

pub returns : goal.returns
returns g c = ap length c.exchange.ensures.pages ∙ length-set _ _ _ ∙ length-set _ _ _ ∙ c.requires.size

pub exchange-requires-clause-room : goal.exchange-requires-clause-room
exchange-requires-clause-room g c = c.check_room.ensures.more_room c.args.page
