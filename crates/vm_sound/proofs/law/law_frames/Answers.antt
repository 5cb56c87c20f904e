use Rattle.vm_sound.proofs.FramesLemmas.{conserves-all_granted, conserves-all_revoked, conserves-all_taken, conserves-epoch, conserves-granted, conserves-orders, conserves-released, conserves-released_at, conserves-revoked, conserves-serviced, conserves-spares, conserves-started, conserves-stopped, conserves-taken, conserves-with_cap, conserves-with_min, conserves-with_shares}
use Rattle.vm_sound.proofs.law.law_frames.Goals as goal

pub returns-clause-serviced : goal.returns-clause-serviced
returns-clause-serviced c = conserves-serviced

pub returns-clause-spares : goal.returns-clause-spares
returns-clause-spares c = conserves-spares

pub returns-clause-orders : goal.returns-clause-orders
returns-clause-orders c = conserves-orders

pub returns-clause-epoch : goal.returns-clause-epoch
returns-clause-epoch c = conserves-epoch

pub returns-clause-released : goal.returns-clause-released
returns-clause-released c = conserves-released

pub returns-clause-released_at : goal.returns-clause-released_at
returns-clause-released_at c = conserves-released_at

pub returns-clause-revoked : goal.returns-clause-revoked
returns-clause-revoked c = conserves-revoked

pub returns-clause-taken : goal.returns-clause-taken
returns-clause-taken c = conserves-taken

pub returns-clause-granted : goal.returns-clause-granted
returns-clause-granted c = conserves-granted

pub returns-clause-with_cap : goal.returns-clause-with_cap
returns-clause-with_cap c = conserves-with_cap

pub returns-clause-with_shares : goal.returns-clause-with_shares
returns-clause-with_shares c = conserves-with_shares

pub returns-clause-with_min : goal.returns-clause-with_min
returns-clause-with_min c = conserves-with_min

pub returns-clause-stopped : goal.returns-clause-stopped
returns-clause-stopped c = conserves-stopped

pub returns-clause-started : goal.returns-clause-started
returns-clause-started c = conserves-started

pub returns-clause-all_revoked : goal.returns-clause-all_revoked
returns-clause-all_revoked c = conserves-all_revoked

pub returns-clause-all_taken : goal.returns-clause-all_taken
returns-clause-all_taken c = conserves-all_taken

pub returns-clause-all_granted : goal.returns-clause-all_granted
returns-clause-all_granted c = conserves-all_granted
