use Rattle.std.proofs.Common.{◌≡◌, refl, ap, ◌∙◌}
use Rattle.vm_patches.specs.Lines.{masked}
use Rattle.vm_patches.specs.Patches.{patched, zero_bytes}
use Rattle.vm_patches.proofs.Masks.{masked-none}
use Rattle.vm_patches.proofs.patched_frame.settle.Goals as goal
use Rattle.vm_patches.proofs.patched_frame.settle.Goals.{in-Few, in-Lines, in-Whole}

pub returns-clause-frame : goal.returns-clause-frame
returns-clause-frame c =
    elim c.match-contents.branch [
      | in-Few w ↦
          let few = w.in-Few.few in
          let blank : masked w.new-lines.result w.bytes_mut.result.now ≡ zero_bytes = rw w.new-lines.ensures (masked-none w.bytes_mut.result.now) in
          let brought = w.write_each.ensures ∙ ap (λ page. patched page few) blank in
          let bytes : w.blank_others.new.page ≡ patched zero_bytes few = w.blank_others.ensures ∙ ap (masked w.write_each.new.lines) w.bytes_mut-in-Few.ensures.value ∙ brought in
          rw (w.frame-is, w.in-Few.is) (λ i. record { number = c.args.frame.now.number; bytes = bytes i })
      | in-Lines w ↦
          let bytes = w.blank_others-in-Lines.ensures ∙ ap (masked w.in-Lines.lines) w.bytes_mut-in-Lines.ensures.value in
          rw (w.frame-is, w.in-Lines.is) (λ i. record { number = c.args.frame.now.number; bytes = bytes i })
      | in-Whole w ↦ rw (w.frame-is, w.in-Whole.is) refl
    ]
