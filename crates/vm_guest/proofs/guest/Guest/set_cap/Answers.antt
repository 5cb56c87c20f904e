use Rattle.std.proofs.Common.{refl}
use Rattle.vm_guest.specs.Boundary.{with_cap}
use Rattle.vm_guest.specs.Parts.{record_of}
use Rattle.vm_guest.proofs.AllottedLemmas.{allotted-guest}
use Rattle.vm_guest.proofs.BoundaryLemmas.{with_cap-sound}
use Rattle.vm_guest.proofs.guest.Guest.set_cap.Goals as goal

pub invariant_of-self : goal.invariant_of-self
invariant_of-self c =
    let g = record_of c.self.inside.parts in
    let is = c.self.invariant in
    let from = rw (← c.self.view_is) at c.requires.from in
    let to = rw (← c.self.view_is) at c.requires.to in
    rw (c.saturating_add-allotment.ensures, c.from.ensures, c.saturating_sub-more.ensures, c.min-allotment.ensures)
    (allotted-guest c.self.inside (with_cap g c.args.cap).allotment (with_cap-sound g c.args.cap from to is.fit.sound) is.fit.tied.swap is)

pub returns : goal.returns
returns c = rw (← c.self.view_is, c.saturating_add-allotment.ensures, c.from.ensures, c.saturating_sub-more.ensures, c.min-allotment.ensures) refl
