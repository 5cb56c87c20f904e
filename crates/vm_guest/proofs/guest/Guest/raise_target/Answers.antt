use Rattle.std.proofs.Common.{◌≡◌, ℕ, ◌+◌, ◌-◌, ap, arith}
use Rattle.vm_guest.specs.Boundary.{with_target_raised}
use Rattle.vm_guest.specs.GuestFields.{state_of}
use Rattle.vm_guest.specs.Parts.{record_of}
use Rattle.vm_guest.specs.State.{GuestState, with_guest}
use Rattle.vm_guest.proofs.AllottedLemmas.{allotted-guest, raised-sound}
use Rattle.vm_guest.proofs.guest.Guest.raise_target.Goals as goal

pub invariant_of-self : goal.invariant_of-self
invariant_of-self c =
    let g = record_of c.self.inside.parts in
    let is = c.self.invariant in
    let few = rw (← c.self.view_is) at c.requires.room in
    rw c.from.ensures (allotted-guest c.self.inside (with_target_raised c.args.count g).allotment (raised-sound g c.args.count few is.fit.sound) is.fit.tied.swap is)

-- the demand is as it has to be
raised-to : (s : GuestState) (count demand : ℕ) → demand ≡ s.guest.allotment.demand - count
    → with_guest s (record s.guest { allotment = record s.guest.allotment { target = s.guest.allotment.target + count; demand = demand } }) ≡ with_guest s (with_target_raised count s.guest)
raised-to s count demand is =
    ap {B = GuestState} (λ d. with_guest s (record s.guest { allotment = record s.guest.allotment { target = s.guest.allotment.target + count; demand = d } })) is

pub returns : goal.returns
returns c = rw (← c.self.view_is) (raised-to (state_of c.self.inside) c.args.count _ (omega arith))
