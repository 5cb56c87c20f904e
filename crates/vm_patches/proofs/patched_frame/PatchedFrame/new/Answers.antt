use Rattle.std.proofs.Common.{refl, sym, ◌∙◌}
use Rattle.vm_patches.proofs.Zeros.{zero_bytes-is}
use Rattle.vm_patches.proofs.patched_frame.PatchedFrame.new.Goals as goal

pub returns-then-is_blank : goal.returns-then-is_blank
returns-then-is_blank c =
    let blank = c.is_blank.ensures c.if-is_blank.true ∙ zero_bytes-is in
    rw c.new.ensures (λ i. record { number = c.args.frame.number; bytes = sym blank i })

pub returns-else-is_blank : goal.returns-else-is_blank
returns-else-is_blank c = refl
