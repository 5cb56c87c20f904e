use Rattle.std.proofs.Common.{◌≡◌, false, true, bytes_eq, codes, slice_index, refl, arith}
use Rattle.vm_samples.proofs.FieldLemmas.{apart, field_is, told}
use Rattle.vm_samples.proofs.field.balloon_of.Goals as goal

pub returns-then-eq : goal.returns-then-eq
returns-then-eq c =
    let key = c.args.key.now in
    let first : slice_index key 0 ≡ 98 = c.requires in
    let other : slice_index key 0 ≡ 115 → ⊥ = λ is. absurd (omega arith) in
    field_is key false true (bytes_eq key (codes "balloon.maximum")) (bytes_eq key (codes "balloon.usable")) (bytes_eq key (codes "balloon.unused")) (bytes_eq key (codes "balloon.swap_in"))
    (apart key (codes "state.state") other)
    (told key (codes "balloon.current") c.as_slice.result.now c.eq.result true c.eq.ensures c.as_slice.ensures c.if-eq.true)
    refl
    refl
    refl
    refl

pub returns-then-eq-2 : goal.returns-then-eq-2
returns-then-eq-2 c =
    let key = c.args.key.now in
    let first : slice_index key 0 ≡ 98 = c.requires in
    let other : slice_index key 0 ≡ 115 → ⊥ = λ is. absurd (omega arith) in
    field_is key false false true (bytes_eq key (codes "balloon.usable")) (bytes_eq key (codes "balloon.unused")) (bytes_eq key (codes "balloon.swap_in"))
    (apart key (codes "state.state") other)
    (told key (codes "balloon.current") c.as_slice.result.now c.eq.result false c.eq.ensures c.as_slice.ensures c.if-eq.false)
    (told key (codes "balloon.maximum") c.as_slice-else-eq.result.now c.eq-else-eq.result true c.eq-else-eq.ensures c.as_slice-else-eq.ensures c.if-eq-2.true)
    refl
    refl
    refl

pub returns-then-eq-3 : goal.returns-then-eq-3
returns-then-eq-3 c =
    let key = c.args.key.now in
    let first : slice_index key 0 ≡ 98 = c.requires in
    let other : slice_index key 0 ≡ 115 → ⊥ = λ is. absurd (omega arith) in
    field_is key false false false true (bytes_eq key (codes "balloon.unused")) (bytes_eq key (codes "balloon.swap_in"))
    (apart key (codes "state.state") other)
    (told key (codes "balloon.current") c.as_slice.result.now c.eq.result false c.eq.ensures c.as_slice.ensures c.if-eq.false)
    (told key (codes "balloon.maximum") c.as_slice-else-eq.result.now c.eq-else-eq.result false c.eq-else-eq.ensures c.as_slice-else-eq.ensures c.if-eq-2.false)
    (told key (codes "balloon.usable") c.as_slice-else-eq-2.result.now c.eq-else-eq-2.result true c.eq-else-eq-2.ensures c.as_slice-else-eq-2.ensures c.if-eq-3.true)
    refl
    refl

pub returns-then-eq-4 : goal.returns-then-eq-4
returns-then-eq-4 c =
    let key = c.args.key.now in
    let first : slice_index key 0 ≡ 98 = c.requires in
    let other : slice_index key 0 ≡ 115 → ⊥ = λ is. absurd (omega arith) in
    field_is key false false false false true (bytes_eq key (codes "balloon.swap_in"))
    (apart key (codes "state.state") other)
    (told key (codes "balloon.current") c.as_slice.result.now c.eq.result false c.eq.ensures c.as_slice.ensures c.if-eq.false)
    (told key (codes "balloon.maximum") c.as_slice-else-eq.result.now c.eq-else-eq.result false c.eq-else-eq.ensures c.as_slice-else-eq.ensures c.if-eq-2.false)
    (told key (codes "balloon.usable") c.as_slice-else-eq-2.result.now c.eq-else-eq-2.result false c.eq-else-eq-2.ensures c.as_slice-else-eq-2.ensures c.if-eq-3.false)
    (told key (codes "balloon.unused") c.as_slice-else-eq-3.result.now c.eq-else-eq-3.result true c.eq-else-eq-3.ensures c.as_slice-else-eq-3.ensures c.if-eq-4.true)
    refl

pub returns-then-eq-5 : goal.returns-then-eq-5
returns-then-eq-5 c =
    let key = c.args.key.now in
    let first : slice_index key 0 ≡ 98 = c.requires in
    let other : slice_index key 0 ≡ 115 → ⊥ = λ is. absurd (omega arith) in
    field_is key false false false false false true
    (apart key (codes "state.state") other)
    (told key (codes "balloon.current") c.as_slice.result.now c.eq.result false c.eq.ensures c.as_slice.ensures c.if-eq.false)
    (told key (codes "balloon.maximum") c.as_slice-else-eq.result.now c.eq-else-eq.result false c.eq-else-eq.ensures c.as_slice-else-eq.ensures c.if-eq-2.false)
    (told key (codes "balloon.usable") c.as_slice-else-eq-2.result.now c.eq-else-eq-2.result false c.eq-else-eq-2.ensures c.as_slice-else-eq-2.ensures c.if-eq-3.false)
    (told key (codes "balloon.unused") c.as_slice-else-eq-3.result.now c.eq-else-eq-3.result false c.eq-else-eq-3.ensures c.as_slice-else-eq-3.ensures c.if-eq-4.false)
    (told key (codes "balloon.swap_in") c.as_slice-else-eq-4.result.now c.eq-else-eq-4.result true c.eq-else-eq-4.ensures c.as_slice-else-eq-4.ensures c.if-eq-5.true)

pub returns-else-eq-5 : goal.returns-else-eq-5
returns-else-eq-5 c =
    let key = c.args.key.now in
    let first : slice_index key 0 ≡ 98 = c.requires in
    let other : slice_index key 0 ≡ 115 → ⊥ = λ is. absurd (omega arith) in
    field_is key false false false false false false
    (apart key (codes "state.state") other)
    (told key (codes "balloon.current") c.as_slice.result.now c.eq.result false c.eq.ensures c.as_slice.ensures c.if-eq.false)
    (told key (codes "balloon.maximum") c.as_slice-else-eq.result.now c.eq-else-eq.result false c.eq-else-eq.ensures c.as_slice-else-eq.ensures c.if-eq-2.false)
    (told key (codes "balloon.usable") c.as_slice-else-eq-2.result.now c.eq-else-eq-2.result false c.eq-else-eq-2.ensures c.as_slice-else-eq-2.ensures c.if-eq-3.false)
    (told key (codes "balloon.unused") c.as_slice-else-eq-3.result.now c.eq-else-eq-3.result false c.eq-else-eq-3.ensures c.as_slice-else-eq-3.ensures c.if-eq-4.false)
    (told key (codes "balloon.swap_in") c.as_slice-else-eq-4.result.now c.eq-else-eq-4.result false c.eq-else-eq-4.ensures c.as_slice-else-eq-4.ensures c.if-eq-5.false)
