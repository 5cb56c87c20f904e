use Rattle.std.proofs.Common.{◌≡◌, None, Some, is_some, ap, refl, ◌∙◌}
use Rattle.std.specs.FinMap.{get}
use Rattle.vm_patches.specs.Patches.{patched, zero_bytes}
use Rattle.vm_swap.specs.Merged.{merged}
use Rattle.vm_swap.proofs.Merged.{first_of, bytes_of, get-merged}
use Rattle.vm_swap.proofs.Parted.{absent_both, few_alone, traded_few_pages, parted_traded_few}
use Rattle.vm_swap.proofs.area.SwapArea.trade_logs.Goals as goal
use Rattle.vm_swap.proofs.area.SwapArea.trade_logs.Goals.{in-Ok, in-Err}

pub hand_over-requires-clause-absent : goal.hand_over-requires-clause-absent
hand_over-requires-clause-absent c =
    (absent_both c.self.inside.whole.values c.self.inside.few.values c.args.other (rw (← c.self.view_is) at c.requires.absent)).1

pub invariant_of-self : goal.invariant_of-self
invariant_of-self c = elim c.match-hand_over.branch [
  | in-Ok w ↦
      rw w.in-Ok.ensures.given
      (parted_traded_few c.self.inside.capacity c.self.inside.whole c.self.inside.few c.args.page c.args.other c.args.log c.self.invariant (ap is_some w.in-Ok.ensures.taken) (rw (← c.self.view_is) at c.requires.absent))
  | in-Err w ↦ rw w.in-Err.ensures.same c.self.invariant
]

pub returns-clause-area : goal.returns-clause-area
returns-clause-area c = elim c.match-hand_over.branch [
  | in-Ok w ↦
      let inside = c.self.inside in
      let gone = few_alone inside.capacity inside.whole inside.few c.args.page c.self.invariant (ap is_some w.in-Ok.ensures.taken) in
      let absent = (absent_both inside.whole.values inside.few.values c.args.other (rw (← c.self.view_is) at c.requires.absent)).0 in
      let pages = traded_few_pages inside.whole.values inside.few.values c.args.page c.args.other c.args.log gone absent in
      rw (w.result-is, w.in-Ok.ensures.given, ← c.self.view_is) (λ i. record { pages = pages i; capacity = inside.capacity })
  | in-Err w ↦ rw w.result-is tt
]

pub returns-clause-frame : goal.returns-clause-frame
returns-clause-frame c = elim c.match-hand_over.branch [
  | in-Ok w ↦
      let inside = c.self.inside in
      let gone = few_alone inside.capacity inside.whole inside.few c.args.page c.self.invariant (ap is_some w.in-Ok.ensures.taken) in
      let was : get (merged inside.whole.values inside.few.values) c.args.page ≡ Some (patched zero_bytes w.in-Ok.log) =
      get-merged inside.whole.values inside.few.values c.args.page ∙ ap (λ o. first_of o (bytes_of (get inside.few.values c.args.page))) gone ∙ ap (λ o. first_of None (bytes_of o)) w.in-Ok.ensures.taken in
      rw (w.result-is, w.frame-is, w.set_log.ensures, ← c.self.view_is, was) refl
  | in-Err w ↦ rw w.result-is tt
]
