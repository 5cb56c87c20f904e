use Rattle.std.proofs.Common.{◌≡◌, ◌+◌, subst, sym, ap}
use Rattle.vm_guest.specs.Good.{IsSound}
use Rattle.vm_guest.specs.GuestFields.{state_of}
use Rattle.vm_guest.specs.Holding.{Holding}
use Rattle.vm_guest.specs.Memory.{Memory}
use Rattle.vm_guest.specs.Parts.{record_of}
use Rattle.vm_guest.specs.State.{GuestState}
use Rattle.vm_guest.proofs.AllottedLemmas.{grown-holding, holding-guest, on-err, on-ok}
use Rattle.vm_guest.proofs.guest.Guest.grow_swap.Goals as goal

pub invariant_of-self : goal.invariant_of-self
invariant_of-self c =
    let i = c.self.inside in
    let g = record_of i.parts in
    let is = c.self.invariant in
    let grown = grown-holding c.grow_swap.result i.parts.memory c.grow_swap.new.self c.args.more c.grow_swap.ensures.ok c.grow_swap.ensures.err in
    holding-guest i c.grow_swap.new.self (subst (λ (m : Memory). IsSound (record g { memory = m })) (sym grown.0) is.fit.sound) grown.1 is

pub returns-clause-ok : goal.returns-clause-ok
returns-clause-ok c =
    let i = c.self.inside in
    let more = c.args.more in
    rw (← c.self.view_is)
    (on-ok c.grow_swap.result (c.grow_swap.new.self ≡ record i.parts.memory { capacity = i.parts.memory.capacity + more }) _
    (λ is. ap {B = GuestState} (λ (h : Holding). state_of (record i { parts = record i.parts { memory = h } })) is) c.grow_swap.ensures.ok)

pub returns-clause-err : goal.returns-clause-err
returns-clause-err c =
    let i = c.self.inside in
    rw (← c.self.view_is)
    (on-err c.grow_swap.result (c.grow_swap.new.self ≡ i.parts.memory) _
    (λ is. ap {B = GuestState} (λ (h : Holding). state_of (record i { parts = record i.parts { memory = h } })) is) c.grow_swap.ensures.err)
