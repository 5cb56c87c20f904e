use Rattle.std.specs.FinSet as set
use Rattle.vm_guest.proofs.OnlyGuestLemmas.{own_out, own_none}
use Rattle.guest_cases.proofs.lone_guest.LoneGuest.stop.Goals as goal

pub stop-spec-requires : goal.stop-spec-requires
stop-spec-requires c = own_out _ _ c.self.invariant.own

pub returns-clause-empty : goal.returns-clause-empty
returns-clause-empty c = set.empty_of_len c.stop-spec.new.machine.out (own_none _ _ _ c.self.invariant.own c.stop-spec.ensures.frames)

pub returns-clause-none : goal.returns-clause-none
returns-clause-none c = own_none _ _ _ c.self.invariant.own c.stop-spec.ensures.frames
