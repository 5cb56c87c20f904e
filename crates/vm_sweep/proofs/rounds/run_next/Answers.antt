use Rattle.std.proofs.Common.{rules}
use Rattle.vm_sweep.proofs.RoundLemmas.{under-way_next, under-way_serves}
use Rattle.vm_sweep.proofs.rounds.run_next.Goals as goal

pub run_round_with-requires-clause-serves : goal.run_round_with-requires-clause-serves
run_round_with-requires-clause-serves g c κs within =
    under-way_serves _ _ _ _ c.in_ok-round.ensures.taken c.requires.under_way

pub returns-in-Ok-clause-under_way : goal.returns-in-Ok-clause-under_way
returns-in-Ok-clause-under_way g c =
    under-way_next _ _ _ _ _ c.in_ok-round.ensures.taken (search rules) c.requires.under_way c.run_round_with.ensures.serves
