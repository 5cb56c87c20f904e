use Rattle.std.proofs.Common.{◌∙◌, refl, inl, inr, arith, ap}
use Rattle.std.proofs.lemmas.Bool.{cases_eq}
use Rattle.vm_patches.specs.Lines.{is_marked}
use Rattle.vm_patches.proofs.lines.open_lines.Goals as goal

pub loop-line-init : goal.loop-line-init
loop-line-init c = record { same = refl; marked = λ line from below. absurd (omega (arith, from, below)) }

pub loop-line-preserved : goal.loop-line-preserved
loop-line-preserved c =
    record {
      same = c.open_line.ensures.same ∙ c.loop-line.invariant.same;
      marked = λ line from below.
          elim (cases_eq line c.loop-line.line) [
            | inl last ↦ ap (is_marked c.open_line.new.lines) last ∙ c.open_line.ensures.marked
            | inr apart ↦ c.open_line.ensures.others line apart ∙ c.loop-line.invariant.marked line from (omega (arith, below, apart))
          ];
    }

pub returns-clause-same : goal.returns-clause-same
returns-clause-same c = c.loop-line.invariant.same

pub returns-clause-marked : goal.returns-clause-marked
returns-clause-marked c = λ line from below. c.loop-line.invariant.marked line from (omega (arith, below, c.loop-line-test.false))
