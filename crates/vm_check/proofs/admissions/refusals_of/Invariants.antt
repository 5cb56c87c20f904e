use Rattle.std.proofs.Common.{◌≡◌, drop}
use Rattle.std.specs.List.{fold}
use Rattle.vm_check.specs.Admissions.{begun, started_at}
use Rattle.vm_check.proofs.admissions.refusals_of.Given as goal

-- the starts that are left complete the whole
abbrev pub invariant-loop-guest : goal.invariant-loop-guest
invariant-loop-guest l =
    fold (started_at l.specs) l.admissions (drop l.guest-index l.starts) ≡ fold (started_at l.specs) (begun l.machine) l.starts
