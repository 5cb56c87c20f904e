-- Thresholds that are no frame of a machine: however few are free, the host never falls below them.
use Rattle.std.specs.Prelude.{ℕ, ◌==◌, List, [], ◌∷◌, ◌++◌, if◌then◌else◌}
use Rattle.vm_config.specs.declared.place.Key.TheVariants.{Percent}
use Rattle.vm_config.specs.declared.place.Part.TheVariants.{Root}
use Rattle.vm_domains.specs.Machine.{MachineConfig}
use Rattle.vm_plan.specs.Thresholds.{thresholds_of}
use Rattle.vm_plan.specs.declared.thresholds.Thresholds.{Thresholds}
use Rattle.vm_check.specs.declared.finding.Finding.{Finding}
use Rattle.vm_check.specs.declared.place.FindingPlace.TheVariants as place
use Rattle.vm_check.specs.declared.what.Level.{Level}
use Rattle.vm_check.specs.declared.what.Level.TheVariants.{High, Soft, Hard, Low}
use Rattle.vm_check.specs.declared.what.What.TheVariants.{NoFrames}

-- a threshold of so many frames, where a machine has some
abbrev pub at_zero : Level → (frames threshold : ℕ) → List Finding
at_zero level frames threshold =
    if threshold == 0 then record { place = place.Key Root Percent; what = NoFrames level frames } ∷ [] else []

abbrev pub findings_by : ℕ → Thresholds → List Finding
findings_by frames t = at_zero High frames t.high ++ (at_zero Soft frames t.soft ++ (at_zero Hard frames t.hard ++ at_zero Low frames t.low))

abbrev pub threshold_findings : MachineConfig → List Finding
threshold_findings m = findings_by m.frames (thresholds_of 10000 m.frames m.percent)
