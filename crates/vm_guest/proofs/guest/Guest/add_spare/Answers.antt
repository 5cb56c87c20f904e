use Rattle.std.proofs.Common.{◌+◌, ◌≤◌, subst, sym, ap, arith}
use Rattle.vm_guest.specs.Good.{IsSound}
use Rattle.vm_guest.specs.Memory.{Memory}
use Rattle.vm_guest.specs.Parts.{record_of}
use Rattle.vm_guest.specs.Record.{GuestRecord}
use Rattle.vm_guest.proofs.AllottedLemmas.{holding-guest, with_more-sound}
use Rattle.vm_guest.proofs.guest.Guest.add_spare.Goals as goal

pub invariant_of-self : goal.invariant_of-self
invariant_of-self c =
    let g = record_of c.self.inside.parts in
    let is = c.self.invariant in
    let sound = is.fit.sound in
    let allotment = sound.allotment in
    let fewer = rw (← c.self.view_is) at c.requires.fewer in
    let few : g.memory.held + 1 ≤ g.config.size = omega (arith, fewer, allotment.target_to, allotment.cap) in
    holding-guest c.self.inside c.add_spare.new.self
    (subst (λ (m : Memory). IsSound (record g { memory = m })) (sym c.add_spare.ensures.memory) (with_more-sound g 1 few sound))
    (omega (arith, c.add_spare.ensures.capacity)) is

pub returns-clause-record : goal.returns-clause-record
returns-clause-record c =
    let g = record_of c.self.inside.parts in
    rw (← c.self.view_is) (ap {B = GuestRecord} (λ (m : Memory). record g { memory = m }) c.add_spare.ensures.memory)
