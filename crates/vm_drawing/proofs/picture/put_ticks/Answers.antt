use Rattle.std.proofs.Common.{◌≡◌, ◌++◌, ◌∙◌, ℕ, ◌+◌, ◌*◌, ◌/◌, ◌<◌, ◌≤◌, ◌^◌, ap, arith, subst, sym}
use Rattle.std.specs.List.{flat_map, range_with_len}
use Rattle.vm_drawing.proofs.PictureLemmas.{shapes_more}
use Rattle.vm_drawing.proofs.ScaleLemmas.{tick-small}
use Rattle.vm_drawing.specs.Picture.{tick_at}
use Rattle.vm_drawing.specs.Scale.{tick_step}
use Rattle.vm_drawing.specs.Shapes.{shapes_text}
use Rattle.vm_drawing.proofs.picture.put_ticks.Goals as goal

-- the loop went over all twelve
at-end : (k : ℕ) → 12 ≤ k → k ≤ 12 → k ≡ 12
at-end k past within = omega arith

-- the place of a tick, from what the conversions gave
place-small : (first s k a b by : ℕ) → first < 2 ^ 64 → s < 2 ^ 64 → k < 12 → a ≡ first / s → b ≡ k → by ≡ s → (a + b) * by < 2 ^ 70
place-small first s k a b by place step few is_a is_b is_by =
    subst (λ (n : ℕ). n < 2 ^ 70) (sym (λ i. (is_a i + is_b i) * is_by i)) (tick-small first s k place step few)

pub put_tick_at-requires-clause-place : goal.put_tick_at-requires-clause-place
put_tick_at-requires-clause-place c =
    place-small c.args.area.axis.first c.tick_step-step.result c.loop-k.k _ _ _ (omega arith) c.tick_step-step.type_inv
    c.loop-k-test.true c.from.ensures c.from-in-loop-k.ensures c.from-in-loop-k-2.ensures

pub overflow_mul-place : goal.overflow_mul-place
overflow_mul-place c =
    let less =
    place-small c.args.area.axis.first c.tick_step-step.result c.loop-k.k _ _ _ (omega arith) c.tick_step-step.type_inv
    c.loop-k-test.true c.from.ensures c.from-in-loop-k.ensures c.from-in-loop-k-2.ensures in
    omega (arith, less)

pub loop-k-preserved : goal.loop-k-preserved
loop-k-preserved c =
    let area = c.args.area in
    let step = c.tick_step-step.ensures.value in
    let before = c.from.ensures ∙ ap (λ (s : ℕ). area.axis.first / s) step in
    let by = c.from-in-loop-k-2.ensures ∙ step in
    shapes_more (λ k. tick_at area ((area.axis.first / tick_step area.axis + k) * tick_step area.axis)) c.loop-k.k _ _ _ c.loop-k.invariant
    (c.in_ok-put_tick_at.ensures ∙ ap (λ l. c.loop-k.text.items ++ shapes_text (tick_at area l))
    (λ i. (before i + c.from-in-loop-k.ensures i) * by i))

pub returns : goal.returns
returns c =
    let area = c.args.area in
    let all = at-end _ c.loop-k-test.false c.loop-k.auto.k-end in
    subst (λ (n : ℕ). c.loop-k.text.items ≡ c.args.text.now.items
    ++ shapes_text (flat_map (λ k. tick_at area ((area.axis.first / tick_step area.axis + k) * tick_step area.axis)) (range_with_len 0 n)))
    all c.loop-k.invariant
