use Rattle.vm_sound.proofs.ToldLemmas.{told-all_granted, told-all_revoked, told-all_taken, told-epoch, told-granted, told-orders, told-released, told-released_at, told-revoked, told-serviced, told-spares, told-started, told-stopped, told-taken, told-with_cap, told-with_min, told-with_shares}
use Rattle.vm_sound.proofs.law.law_told.Goals as goal

pub returns-clause-spares : goal.returns-clause-spares
returns-clause-spares c = told-spares

pub returns-clause-orders : goal.returns-clause-orders
returns-clause-orders c = told-orders

pub returns-clause-released : goal.returns-clause-released
returns-clause-released c = told-released

pub returns-clause-released_at : goal.returns-clause-released_at
returns-clause-released_at c = told-released_at

pub returns-clause-revoked : goal.returns-clause-revoked
returns-clause-revoked c = told-revoked

pub returns-clause-taken : goal.returns-clause-taken
returns-clause-taken c = told-taken

pub returns-clause-granted : goal.returns-clause-granted
returns-clause-granted c = told-granted

pub returns-clause-with_cap : goal.returns-clause-with_cap
returns-clause-with_cap c = told-with_cap

pub returns-clause-with_shares : goal.returns-clause-with_shares
returns-clause-with_shares c = told-with_shares

pub returns-clause-with_min : goal.returns-clause-with_min
returns-clause-with_min c = told-with_min

pub returns-clause-stopped : goal.returns-clause-stopped
returns-clause-stopped c = told-stopped

pub returns-clause-all_revoked : goal.returns-clause-all_revoked
returns-clause-all_revoked c = told-all_revoked

pub returns-clause-all_taken : goal.returns-clause-all_taken
returns-clause-all_taken c = told-all_taken

pub returns-clause-all_granted : goal.returns-clause-all_granted
returns-clause-all_granted c = told-all_granted

pub returns-clause-serviced : goal.returns-clause-serviced
returns-clause-serviced c = told-serviced

pub returns-clause-started : goal.returns-clause-started
returns-clause-started c = told-started

pub returns-clause-epoch : goal.returns-clause-epoch
returns-clause-epoch c = told-epoch
