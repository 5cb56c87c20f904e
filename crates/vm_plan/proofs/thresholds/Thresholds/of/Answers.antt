use Rattle.std.proofs.Common.{◌≡◌, ◌+◌, ℕ, arith}
use Rattle.vm_plan.specs.declared.thresholds.Percents.{Percents}
use Rattle.vm_plan.specs.declared.thresholds.Thresholds.{Thresholds}
use Rattle.vm_plan.specs.Thresholds.{part_of, margin_of, thresholds_of}
use Rattle.vm_plan.proofs.thresholds.Thresholds.of.Goals as goal

-- thresholds whose parts go by other names
of_parts : (frames : ℕ) (percents : Percents) (high soft hard low margin : ℕ)
    → high ≡ part_of 10000 frames percents.high → soft ≡ part_of 10000 frames percents.soft → hard ≡ part_of 10000 frames percents.hard
    → low ≡ part_of 10000 frames percents.low → margin ≡ margin_of frames
    → ◌≡◌ {A = Thresholds} (record { high = high; soft = soft; hard = hard; low = low; margin = margin; goal = high + margin }) (thresholds_of 10000 frames percents)
of_parts frames percents high soft hard low margin e f g h m =
    λ i. record { high = e i; soft = f i; hard = g i; low = h i; margin = m i; goal = e i + m i }

pub returns : goal.returns
returns c =
    of_parts c.args.frames c.args.percents _ _ _ _ _
    c.part-high.ensures.exact c.part.ensures.exact c.part-2.ensures.exact c.part-3.ensures.exact (omega arith)
