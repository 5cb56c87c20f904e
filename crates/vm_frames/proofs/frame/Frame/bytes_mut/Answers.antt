use Rattle.std.proofs.Common.{◌≡◌, ℕ, List, Some, refl, sym, subst, ap, ◌∙◌}
use denote.RawPtr.{Ptr}
use Rattle.vm_frames.specs.Frame.{FrameView, bytes_of}
use Rattle.vm_frames.specs.Rooms.{IsFrameAt, IsWritten}
use Rattle.vm_frames.specs.declared.block.Room.{Room}
use Rattle.vm_frames.specs.declared.frame.Frame.TheInside.{Inside}
use Rattle.vm_frames.proofs.PageLemmas.{zeros_unwritten}
use Rattle.vm_frames.proofs.frame.Frame.bytes_mut.Goals as goal
use Rattle.vm_frames.proofs.frame.Frame.bytes_mut.Goals.{then-not-self, else-not-self}

still_written : (room : Room) (p : Ptr) (w : List ℕ) → room.ptr ≡ p → IsWritten (record room { page = Some w }) p
still_written room p w at = record { place = at; written = refl }

pub invariant_of-self-lent : goal.invariant_of-self-lent
invariant_of-self-lent c = elim c.if-not-self.branch [
  | then-not-self b ↦
      let place = ap (λ (r : Room). r.ptr) b.fill.ensures ∙ (rw b.if-not-self.true at c.self.invariant.marked).place in
      subst (λ (m : Inside). (w : List ℕ) → IsFrameAt m.tether m.number m.written (record m.room { page = Some w })) (sym b.self-inside-is)
      (λ w. record { page = c.self.invariant.page; marked = still_written b.fill.new.self _ w place })
  | else-not-self b ↦
      let place = (rw b.if-not-self.false at c.self.invariant.marked).place in
      subst (λ (m : Inside). (w : List ℕ) → IsFrameAt m.tether m.number m.written (record m.room { page = Some w })) (sym b.self-inside-is)
      (λ w. record { page = c.self.invariant.page; marked = rw b.if-not-self.false (still_written c.self.inside.room _ w place) })
]

pub returns : goal.returns
returns c =
    let number = ap (λ (f : FrameView). f.number) c.self.view_is in
    let bytes = ap (λ (f : FrameView). f.bytes) c.self.view_is in
    elim c.if-not-self.branch [
      | then-not-self b ↦
          let same = ap (λ (m : Inside). m.number) b.self-inside-is ∙ number in
          let zeros = zeros_unwritten c.self.inside.room.page (rw b.if-not-self.true at c.self.invariant.marked).empty in
          let page = ap (λ (m : Inside). bytes_of m.room.page) b.self-inside-is ∙ ap (λ (r : Room). bytes_of r.page) b.fill.ensures in
          ((refl, λ w i. record { number = same i; bytes = w }), record { writes_back = tt; value = c.page_mut.ensures.value ∙ page ∙ zeros ∙ bytes })
      | else-not-self b ↦
          let same = ap (λ (m : Inside). m.number) b.self-inside-is ∙ number in
          let page = ap (λ (m : Inside). bytes_of m.room.page) b.self-inside-is in
          ((refl, λ w i. record { number = same i; bytes = w }), record { writes_back = tt; value = c.page_mut.ensures.value ∙ page ∙ bytes })
    ]
