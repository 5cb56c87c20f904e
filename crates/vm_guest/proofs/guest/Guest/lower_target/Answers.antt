use Rattle.std.proofs.Common.{refl}
use Rattle.vm_guest.specs.Boundary.{lowered}
use Rattle.vm_guest.specs.Parts.{record_of}
use Rattle.vm_guest.proofs.AllottedLemmas.{allotted-guest, lowered-sound}
use Rattle.vm_guest.proofs.guest.Guest.lower_target.Goals as goal

pub invariant_of-self : goal.invariant_of-self
invariant_of-self c =
    let g = record_of c.self.inside.parts in
    let is = c.self.invariant in
    let few = rw (← c.self.view_is) at c.requires in
    allotted-guest c.self.inside (lowered c.args.count g).allotment (lowered-sound g c.args.count few is.fit.sound) is.fit.tied.swap is

pub returns : goal.returns
returns c = rw (← c.self.view_is) refl
