use Rattle.std.proofs.Common.{subst, sym, true}
use Rattle.vm_guest.specs.State.{GuestState}
use Rattle.vm_guest.proofs.BoundaryLemmas.{serviced-nothing_posted}
use Rattle.guest_cases.specs.Lone.{IsLone}
use Rattle.guest_cases.proofs.lone_guest.LoneGuest.serve.Goals as goal

pub invariant_of-self : goal.invariant_of-self
invariant_of-self c =
    subst (λ (s : GuestState). IsLone c.self.inside.machine.out true c.self.inside.first s) (sym c.serve.ensures) (record {
      own = c.self.invariant.own;
      nothing = λ served. serviced-nothing_posted c.self.inside.guest.guest;
      room = c.self.invariant.room;
    })
