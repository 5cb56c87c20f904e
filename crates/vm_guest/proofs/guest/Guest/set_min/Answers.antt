use Rattle.std.proofs.Common.{◌≡◌, ℕ, ◌-◌, ◌≤◌, max, min, arith}
use Rattle.vm_guest.specs.Boundary.{with_min}
use Rattle.vm_guest.specs.GuestFields.{state_of}
use Rattle.vm_guest.specs.Parts.{record_of}
use Rattle.vm_guest.specs.State.{GuestState, with_guest}
use Rattle.vm_guest.proofs.AllottedLemmas.{allotted-guest}
use Rattle.vm_guest.proofs.BoundaryLemmas.{with_min-sound}
use Rattle.vm_guest.proofs.guest.Guest.set_min.Goals as goal

pub invariant_of-self : goal.invariant_of-self
invariant_of-self c =
    let g = record_of c.self.inside.parts in
    let is = c.self.invariant in
    let to = rw (← c.self.view_is) at c.requires.to in
    let swap = rw (← c.self.view_is) at c.requires.swap in
    let tied = is.fit.tied in
    let room : g.config.size - min g.allotment.least_min c.args.least ≤ c.self.inside.parts.memory.capacity = omega (arith, swap, tied.swap) in
    rw (c.min-allotment.ensures, c.max-allotment.ensures)
    (allotted-guest c.self.inside (with_min g c.args.least).allotment (with_min-sound g c.args.least c.requires.from to is.fit.sound) room is)

-- the target is as it has to be
min-set : (s : GuestState) (least least_min target : ℕ) → least_min ≡ min s.guest.allotment.least_min least → target ≡ max s.guest.allotment.target least
    → with_guest s (record s.guest { allotment = record s.guest.allotment { min = least; least_min = least_min; target = target } }) ≡ with_guest s (with_min s.guest least)
min-set s least least_min target least_is target_is =
    λ i. with_guest s (record s.guest { allotment = record s.guest.allotment { min = least; least_min = least_is i; target = target_is i } })

pub returns : goal.returns
returns c = rw (← c.self.view_is) (min-set (state_of c.self.inside) c.args.least _ _ c.min-allotment.ensures (omega arith))
