use Rattle.std.proofs.Common.{◌≡◌, [], List, Option, Some, None, unwrap_or, refl, ap, ◌∙◌}
use Rattle.std.specs.FinMap.{get}
use Rattle.vm_patches.specs.declared.patch.ByteWrite.{ByteWrite}
use Rattle.vm_patches.specs.Patches.{patched, zero_bytes}
use Rattle.vm_swap.proofs.Merged.{first_of, bytes_of, get-merged}
use Rattle.vm_swap.proofs.area.bring_in.Goals as goal
use Rattle.vm_swap.proofs.area.bring_in.Goals.{in-Some, in-None}

or_zeros : (o : Option (List ByteWrite)) → patched zero_bytes (unwrap_or o []) ≡ unwrap_or (bytes_of o) zero_bytes
or_zeros None = refl
or_zeros (Some writes) = refl

pub returns-clause-frame : goal.returns-clause-frame
returns-clause-frame c =
    let whole = get c.args.whole.now.values c.args.page in
    let few = get c.args.few.now.values c.args.page in
    rw (get-merged c.args.whole.now.values c.args.few.now.values c.args.page)
    (elim c.match-get.branch [
      | in-Some w ↦ w.frame-is ∙ w.set_bytes.ensures
          ∙ (λ i. record { number = c.args.frame.now.number; bytes = unwrap_or (first_of (w.in-Some.ensures i) (bytes_of few)) zero_bytes })
      | in-None w ↦
          let bytes = ap (λ o. patched zero_bytes (unwrap_or o [])) c.remove-log.ensures.taken ∙ or_zeros few in
          let none = ap (λ o. unwrap_or (first_of o (bytes_of few)) zero_bytes) w.in-None.ensures in
          w.frame-is ∙ w.set_log.ensures ∙ rw (w.unwrap_or.ensures, w.new.ensures) (λ i. record { number = c.args.frame.now.number; bytes = (bytes ∙ none) i })
    ])

pub returns-clause-whole : goal.returns-clause-whole
returns-clause-whole c = c.discard.ensures.removed
