use Rattle.std.proofs.Common.{refl}
use Rattle.vm_guest.specs.Boundary.{revoked}
use Rattle.vm_guest.specs.Parts.{record_of}
use Rattle.vm_guest.proofs.AllottedLemmas.{allotted-guest}
use Rattle.vm_guest.proofs.BoundaryLemmas.{revoked-sound}
use Rattle.vm_guest.proofs.guest.Guest.revoke.Goals as goal

pub invariant_of-self : goal.invariant_of-self
invariant_of-self c =
    let g = record_of c.self.inside.parts in
    let is = c.self.invariant in
    let above = rw (← c.self.view_is) at c.requires in
    allotted-guest c.self.inside (revoked g).allotment (revoked-sound g above is.fit.sound) is.fit.tied.swap is

pub returns : goal.returns
returns c = rw (← c.self.view_is) refl
