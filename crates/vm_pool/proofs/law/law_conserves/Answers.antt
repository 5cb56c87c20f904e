use Rattle.std.proofs.Common.{refl}
use Rattle.vm_guest.specs.Boundary.{ordered, revoked, serviced, with_cap, with_shares}
use Rattle.vm_guest.specs.Epoch.{epoch}
use Rattle.vm_guest.proofs.EpochLemmas.{epoch-held, serviced-held}
use Rattle.vm_pool.specs.Changes.{blocked_above}
use Rattle.vm_pool.proofs.ConservesLemmas.{conserves-all_changed, conserves-changed, conserves-first, conserves-granted, conserves-released, conserves-released_all, conserves-spares, conserves-started, conserves-stopped, conserves-with_min}
use Rattle.vm_pool.proofs.law.law_conserves.Goals as goal

pub returns-clause-first : goal.returns-clause-first
returns-clause-first c = conserves-first

pub returns-clause-started : goal.returns-clause-started
returns-clause-started c = conserves-started

pub returns-clause-stopped : goal.returns-clause-stopped
returns-clause-stopped c = conserves-stopped

pub returns-clause-serviced : goal.returns-clause-serviced
returns-clause-serviced c = λ p. conserves-all_changed serviced p serviced-held

pub returns-clause-with_spares_back : goal.returns-clause-with_spares_back
returns-clause-with_spares_back c = conserves-spares

pub returns-clause-released : goal.returns-clause-released
returns-clause-released c = conserves-released

pub returns-clause-released_all : goal.returns-clause-released_all
returns-clause-released_all c = conserves-released_all

pub returns-clause-revoked : goal.returns-clause-revoked
returns-clause-revoked c = λ p i. conserves-changed revoked p i (λ g. refl)

pub returns-clause-granted : goal.returns-clause-granted
returns-clause-granted c = conserves-granted

pub returns-clause-with_cap : goal.returns-clause-with_cap
returns-clause-with_cap c = λ cap p i. conserves-changed (λ g. with_cap g cap) p i (λ g. refl)

pub returns-clause-with_min : goal.returns-clause-with_min
returns-clause-with_min c = conserves-with_min

pub returns-clause-with_shares : goal.returns-clause-with_shares
returns-clause-with_shares c = λ shares p i. conserves-changed (λ g. with_shares g shares) p i (λ g. refl)

pub returns-clause-ordered : goal.returns-clause-ordered
returns-clause-ordered c = λ blocked p i. conserves-changed (λ g. ordered g blocked) p i (λ g. refl)

pub returns-clause-ordered_all : goal.returns-clause-ordered_all
returns-clause-ordered_all c = λ blocks p. conserves-all_changed (λ g. ordered g (blocked_above blocks g)) p (λ g. refl)

pub returns-clause-epoch : goal.returns-clause-epoch
returns-clause-epoch c = λ p. conserves-all_changed epoch p epoch-held
