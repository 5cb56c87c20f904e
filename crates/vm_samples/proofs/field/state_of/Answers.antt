use Rattle.std.proofs.Common.{◌≡◌, false, true, bytes_eq, codes, slice_index, refl, arith}
use Rattle.vm_samples.proofs.FieldLemmas.{apart, field_is, told}
use Rattle.vm_samples.proofs.field.state_of.Goals as goal

pub returns-then-eq : goal.returns-then-eq
returns-then-eq c =
    let key = c.args.key.now in
    field_is key true (bytes_eq key (codes "balloon.current")) (bytes_eq key (codes "balloon.maximum")) (bytes_eq key (codes "balloon.usable")) (bytes_eq key (codes "balloon.unused")) (bytes_eq key (codes "balloon.swap_in"))
    (told key (codes "state.state") c.as_slice.result.now c.eq.result true c.eq.ensures c.as_slice.ensures c.if-eq.true) refl refl refl refl refl

pub returns-else-eq : goal.returns-else-eq
returns-else-eq c =
    let key = c.args.key.now in
    let first : slice_index key 0 ≡ 115 = c.requires in
    let other : slice_index key 0 ≡ 98 → ⊥ = λ is. absurd (omega arith) in
    field_is key false false false false false false
    (told key (codes "state.state") c.as_slice.result.now c.eq.result false c.eq.ensures c.as_slice.ensures c.if-eq.false)
    (apart key (codes "balloon.current") other) (apart key (codes "balloon.maximum") other) (apart key (codes "balloon.usable") other) (apart key (codes "balloon.unused") other) (apart key (codes "balloon.swap_in") other)
