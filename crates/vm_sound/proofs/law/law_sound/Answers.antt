use Rattle.vm_sound.proofs.SoundPoolLemmas.{sound-all_granted, sound-all_revoked, sound-all_taken, sound-epoch, sound-granted, sound-orders, sound-released, sound-released_at, sound-revoked, sound-serviced, sound-spares, sound-started, sound-stopped, sound-taken, sound-with_cap, sound-with_min, sound-with_shares}
use Rattle.vm_sound.proofs.law.law_sound.Goals as goal

pub returns-clause-serviced : goal.returns-clause-serviced
returns-clause-serviced c = sound-serviced

pub returns-clause-spares : goal.returns-clause-spares
returns-clause-spares c = sound-spares

pub returns-clause-orders : goal.returns-clause-orders
returns-clause-orders c = sound-orders

pub returns-clause-epoch : goal.returns-clause-epoch
returns-clause-epoch c = sound-epoch

pub returns-clause-released : goal.returns-clause-released
returns-clause-released c = sound-released

pub returns-clause-released_at : goal.returns-clause-released_at
returns-clause-released_at c = sound-released_at

pub returns-clause-revoked : goal.returns-clause-revoked
returns-clause-revoked c = sound-revoked

pub returns-clause-taken : goal.returns-clause-taken
returns-clause-taken c = sound-taken

pub returns-clause-granted : goal.returns-clause-granted
returns-clause-granted c = sound-granted

pub returns-clause-with_cap : goal.returns-clause-with_cap
returns-clause-with_cap c = sound-with_cap

pub returns-clause-with_shares : goal.returns-clause-with_shares
returns-clause-with_shares c = sound-with_shares

pub returns-clause-with_min : goal.returns-clause-with_min
returns-clause-with_min c = sound-with_min

pub returns-clause-stopped : goal.returns-clause-stopped
returns-clause-stopped c = sound-stopped

pub returns-clause-started : goal.returns-clause-started
returns-clause-started c = sound-started

pub returns-clause-all_revoked : goal.returns-clause-all_revoked
returns-clause-all_revoked c = sound-all_revoked

pub returns-clause-all_taken : goal.returns-clause-all_taken
returns-clause-all_taken c = sound-all_taken

pub returns-clause-all_granted : goal.returns-clause-all_granted
returns-clause-all_granted c = sound-all_granted
