use Rattle.std.proofs.Common.{◌≡◌, ◌∙◌, ℕ, suc, ◌+◌, ◌-◌, ◌*◌, ap, sym, arith}
use Rattle.vm_samples.specs.PolicyOf.{doubled}
use Rattle.vm_samples.proofs.UnitLemmas.{doubled_more, greatest, greatest_more, least_greatest}
use Rattle.vm_samples.proofs.root.default_unit.Goals as goal

pub returns-then-memory-unit-le-MAX_MEMORY-clause-to : goal.returns-then-memory-unit-le-MAX_MEMORY-clause-to
returns-then-memory-unit-le-MAX_MEMORY-clause-to c =
    let few = least_greatest (10 - c.loop-times.times) c.loop-times.unit in
    omega (arith, few, c.loop-times.invariant.most)

pub loop-times-preserved : goal.loop-times-preserved
loop-times-preserved c =
    let unit = c.loop-times.unit in
    let left = 10 - (c.loop-times.times + 1) in
    let next : 10 - c.loop-times.times ≡ suc left = omega (arith, c.loop-times-test.true) in
    let twice : unit * 2 ≡ 2 * unit = omega arith in
    record {
      some = omega (arith, c.loop-times.invariant.some);
      most = ap (greatest left) twice ∙ sym (greatest_more (10 - c.loop-times.times) left unit next) ∙ c.loop-times.invariant.most;
      completes = ap (λ (n : ℕ). doubled left n c.args.memory) twice
          ∙ sym (doubled_more (10 - c.loop-times.times) left unit c.args.memory next c.if-memory-unit-le-MAX_MEMORY.false)
          ∙ c.loop-times.invariant.completes;
    }
