use Rattle.std.proofs.Common.{◌-◌, ◌*◌, ◌<◌, ◌∙◌, sym, arith, refl}
use Rattle.vm_drawing.proofs.ScaleLemmas.{at-last, found, next-from, next-power, power-small, power-some}
use Rattle.vm_drawing.specs.Scale.{round_up}
use Rattle.vm_drawing.proofs.scale.round_up.Goals as goal

pub loop-decade-init : goal.loop-decade-init
unfolding round_up
loop-decade-init c = record { power = refl; below = omega arith; rest = refl }

pub overflow_mul-power : goal.overflow_mul-power
overflow_mul-power c =
    let small = power-small c.loop-decade.decade c.loop-decade-test.true in
    let is = c.loop-decade.invariant.power in
    omega arith

pub round_within-requires-clause-bound : goal.round_within-requires-clause-bound
round_within-requires-clause-bound c =
    let small = power-small c.loop-decade.decade c.loop-decade-test.true in
    let is = c.loop-decade.invariant.power in
    omega arith

pub returns-then-least-power-clause-value : goal.returns-then-least-power-clause-value
returns-then-least-power-clause-value c =
    let left = found (19 - c.loop-decade.decade) c.loop-decade.power c.args.least (omega (arith, c.loop-decade-test.true)) c.if-least-power.true in
    c.round_within.ensures.value ∙ sym left ∙ c.loop-decade.invariant.rest

pub returns-then-least-power-clause-some : goal.returns-then-least-power-clause-some
returns-then-least-power-clause-some c =
    let some = power-some c.loop-decade.decade in
    let is = c.loop-decade.invariant.power in
    let more = c.round_within.ensures.some in
    omega arith

pub overflow_mul-power-in-loop-decade : goal.overflow_mul-power-in-loop-decade
overflow_mul-power-in-loop-decade c =
    let small = power-small c.loop-decade.decade c.loop-decade-test.true in
    let is = c.loop-decade.invariant.power in
    omega arith

pub loop-decade-preserved : goal.loop-decade-preserved
loop-decade-preserved c =
    let beyond : 5 * c.loop-decade.power < c.args.least = omega (arith, c.if-least-power.false) in
    record {
      power = next-power c.loop-decade.decade c.loop-decade.power c.loop-decade.invariant.power;
      below = omega (arith, beyond);
      rest = sym (next-from c.loop-decade.decade c.loop-decade.power c.args.least c.loop-decade-test.true beyond) ∙ c.loop-decade.invariant.rest;
    }

pub returns-clause-value : goal.returns-clause-value
returns-clause-value c =
    sym (at-last c.loop-decade.decade c.loop-decade.power c.args.least (omega (arith, c.loop-decade-test.false))) ∙ c.loop-decade.invariant.rest
