use Rattle.std.proofs.Common.{refl, arith}
use Rattle.vm_guest.proofs.guest.Guest.peek.Goals as goal

pub copy_page-requires : goal.copy_page-requires
copy_page-requires c =
    let inside = rw (← c.self-inside.view_is) at c.self.invariant in
    let memory = inside.fit.sound.memory in
    omega (arith, memory.places_size, c.if-page-self.false)

pub returns-clause-there : goal.returns-clause-there
returns-clause-there c = rw (← c.self.view_is, ← c.self-inside.view_is) (λ is. c.if-page-self.false, λ below. refl)
