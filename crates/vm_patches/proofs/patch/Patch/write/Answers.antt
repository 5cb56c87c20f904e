use Rattle.std.proofs.Common.{◌≡◌, ◌<◌, ◌+◌, ◌++◌, ◌∙◌, length, take, sym, ap, arith}
use Rattle.std.proofs.lemmas.List.{length-take-le}
use Rattle.std.proofs.lemmas.List.Elements.{All-append}
use Rattle.vm_patches.specs.declared.patch.ByteWrite.{ByteWrite}
use Rattle.vm_patches.specs.Patches.{writes_of}
use Rattle.vm_patches.proofs.Writes.{AreWithin-writes_of}
use Rattle.vm_patches.proofs.patch.Patch.write.Goals as goal

pub invariant_of-self : goal.invariant_of-self
invariant_of-self c =
    let old = take c.self.inside.len c.self.inside.writes in
    let new = writes_of c.args.offset c.args.bytes.now in
    let added : take (c.self.inside.len + length c.args.bytes.now) c.add_writes.new.writes ≡ old ++ new =
    ap (λ k. take (k + length c.args.bytes.now) c.add_writes.new.writes) (sym c.from.ensures)
    ∙ c.add_writes.ensures.added
    ∙ ap (λ k. take k c.self.inside.writes ++ new) c.from.ensures
    in
    let within = AreWithin-writes_of c.args.offset c.args.bytes.now c.requires.within in
    let count : length c.args.self.now ≡ c.self.inside.len =
    ap length (sym c.self.view_is)
    ∙ length-take-le c.self.inside.len c.self.inside.writes (let whole = c.self.invariant.0 in let few = c.self.invariant.1 in omega arith)
    in (
      c.add_writes.ensures.places ∙ c.self.invariant.0,
      (let room = c.requires.room in omega (arith, count)),
      rw added (All-append (λ (write : ByteWrite). write.offset < 4096) old new c.self.invariant.2 within),
    )
