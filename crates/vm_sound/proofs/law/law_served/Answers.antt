use Rattle.vm_sound.proofs.ServedLemmas.{served-all_granted, served-all_revoked, served-all_taken, served-granted, served-orders, served-released, served-released_at, served-revoked, served-serviced, served-spares, served-started, served-stopped, served-taken, served-with_cap, served-with_min, served-with_shares}
use Rattle.vm_sound.proofs.law.law_served.Goals as goal

pub returns-clause-serviced : goal.returns-clause-serviced
returns-clause-serviced c = served-serviced

pub returns-clause-spares : goal.returns-clause-spares
returns-clause-spares c = served-spares

pub returns-clause-orders : goal.returns-clause-orders
returns-clause-orders c = served-orders

pub returns-clause-released : goal.returns-clause-released
returns-clause-released c = served-released

pub returns-clause-released_at : goal.returns-clause-released_at
returns-clause-released_at c = served-released_at

pub returns-clause-revoked : goal.returns-clause-revoked
returns-clause-revoked c = served-revoked

pub returns-clause-taken : goal.returns-clause-taken
returns-clause-taken c = served-taken

pub returns-clause-granted : goal.returns-clause-granted
returns-clause-granted c = served-granted

pub returns-clause-with_cap : goal.returns-clause-with_cap
returns-clause-with_cap c = served-with_cap

pub returns-clause-with_shares : goal.returns-clause-with_shares
returns-clause-with_shares c = served-with_shares

pub returns-clause-with_min : goal.returns-clause-with_min
returns-clause-with_min c = served-with_min

pub returns-clause-stopped : goal.returns-clause-stopped
returns-clause-stopped c = served-stopped

pub returns-clause-started : goal.returns-clause-started
returns-clause-started c = served-started

pub returns-clause-all_revoked : goal.returns-clause-all_revoked
returns-clause-all_revoked c = served-all_revoked

pub returns-clause-all_taken : goal.returns-clause-all_taken
returns-clause-all_taken c = served-all_taken

pub returns-clause-all_granted : goal.returns-clause-all_granted
returns-clause-all_granted c = served-all_granted
