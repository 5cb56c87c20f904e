use Rattle.std.proofs.Common.{◌≡◌, ◌+◌, ◌++◌, ◌<◌, ◌∷◌, [], take, set, length, get_or, refl, sym, ap, ◌∙◌, append_assoc, arith}
use Rattle.std.proofs.lemmas.List.{take_more_set, length-set}
use Rattle.vm_patches.specs.Patches.{writes_of}
use Rattle.vm_patches.proofs.Writes.{writes_of-next}
use Rattle.vm_patches.proofs.patch.add_writes.Goals as goal

pub loop-i-preserved : goal.loop-i-preserved
loop-i-preserved c =
    let i = c.loop-i.i in
    let bytes = c.args.bytes.now in
    let o = c.args.offset in
    let n = c.args.len in
    let whole = c.loop-i.invariant.whole in
    let fits : n + i < length c.loop-i.writes = let room = c.requires.room in omega arith in
    let more : n + (i + 1) ≡ (n + i) + 1 = omega arith in
    record {
      whole = length-set c.loop-i.writes (n + i) _ ∙ whole;
      added =
          ap (λ k. take k (set c.loop-i.writes (n + i) (record { offset = o + i; byte = get_or bytes i 0 }))) more
          ∙ take_more_set c.loop-i.writes (n + i) _ fits
          ∙ ap (λ ws. ws ++ record { offset = o + i; byte = get_or bytes i 0 } ∷ []) c.loop-i.invariant.added
          ∙ append_assoc (take n c.args.writes.now) (writes_of o (take i bytes)) (record { offset = o + i; byte = get_or bytes i 0 } ∷ [])
          ∙ ap (λ ws. take n c.args.writes.now ++ ws) (sym (writes_of-next o bytes i (i + 1) 0 refl (omega arith)));
    }
