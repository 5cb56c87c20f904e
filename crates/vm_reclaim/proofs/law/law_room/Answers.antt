use Rattle.vm_reclaim.proofs.EnoughLemmas.{room_to_raise, room_to_start}
use Rattle.vm_reclaim.proofs.law.law_room.Goals as goal

pub returns-clause-start : goal.returns-clause-start
returns-clause-start c = room_to_start

pub returns-clause-minimum : goal.returns-clause-minimum
returns-clause-minimum c = room_to_raise
