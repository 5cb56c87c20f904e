use Rattle.std.proofs.Common.{refl}
use Rattle.vm_guest.specs.Boundary.{with_shares}
use Rattle.vm_guest.specs.Parts.{record_of}
use Rattle.vm_guest.proofs.AllottedLemmas.{allotted-guest}
use Rattle.vm_guest.proofs.BoundaryLemmas.{with_shares-sound}
use Rattle.vm_guest.proofs.guest.Guest.set_shares.Goals as goal

pub invariant_of-self : goal.invariant_of-self
invariant_of-self c =
    let g = record_of c.self.inside.parts in
    let is = c.self.invariant in
    allotted-guest c.self.inside (with_shares g c.args.shares).allotment (with_shares-sound g c.args.shares c.requires.some c.requires.few is.fit.sound) is.fit.tied.swap is

pub returns : goal.returns
returns c = rw (← c.self.view_is) refl
