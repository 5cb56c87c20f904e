use Rattle.std.proofs.Common.{◌+◌, ◌/◌, ◌∙◌, refl, sym, ap, inl, inr, cond, get_or, arith}
use Rattle.std.proofs.lemmas.Bool.{cases_eq, eq-eqb, ne_eqb}
use Rattle.vm_patches.specs.Lines.{is_marked}
use Rattle.vm_patches.proofs.lines.mask.Goals as goal
use Rattle.vm_patches.proofs.lines.mask.Goals.{then-not-contains, else-not-contains}

pub loop-line-init : goal.loop-line-init
loop-line-init c =
    record {
      count = refl;
      passed = λ i inside before. absurd (omega (arith, before));
      left = λ i inside after. refl;
    }

pub loop-line-preserved : goal.loop-line-preserved
loop-line-preserved c =
    let o = c.args.offset in
    let bytes = c.args.bytes.now in
    let before = c.loop-line.invariant in
    elim c.if-not-contains.branch [
      | then-not-contains w ↦ rw w.bytes-is (record {
        count = w.blank.ensures.length ∙ before.count;
        passed = λ i inside below.
            w.blank.ensures.each i (omega (arith, inside, before.count))
            ∙ elim (cases_eq ((o + i) / 64) c.loop-line.line) [
              | inl same ↦
                  rw (eq-eqb ((o + i) / 64) c.loop-line.line same)
                  (sym (ap (λ b. cond b (get_or bytes i 0) 0) (ap (is_marked c.args.lines.now) same ∙ sym c.contains.ensures ∙ w.if-not-contains.true)))
              | inr apart ↦
                  rw (ne_eqb ((o + i) / 64) c.loop-line.line apart) (before.passed i inside (omega (arith, below, apart)))
            ];
        left = λ i inside past.
            w.blank.ensures.each i (omega (arith, inside, before.count))
            ∙ rw (ne_eqb ((o + i) / 64) c.loop-line.line (λ e. omega (arith, e, past))) (before.left i inside (omega (arith, past)));
      })
      | else-not-contains w ↦ rw w.bytes-is (record {
        count = before.count;
        passed = λ i inside below.
            elim (cases_eq ((o + i) / 64) c.loop-line.line) [
              | inl same ↦
                  before.left i inside (omega (arith, same))
                  ∙ sym (ap (λ b. cond b (get_or bytes i 0) 0) (ap (is_marked c.args.lines.now) same ∙ sym c.contains.ensures ∙ w.if-not-contains.false))
              | inr apart ↦ before.passed i inside (omega (arith, below, apart))
            ];
        left = λ i inside past. before.left i inside (omega (arith, past));
      })
    ]

pub returns-clause-each : goal.returns-clause-each
returns-clause-each c = λ i inside. c.loop-line.invariant.passed i inside (omega (arith, inside, c.loop-line-test.false, c.div_ceil-line-end.ensures))
