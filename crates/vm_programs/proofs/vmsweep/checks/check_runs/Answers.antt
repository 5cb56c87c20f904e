use Rattle.std.proofs.Common.{◌≡◌, ◌≤◌, ◌-◌, ◌^◌, ℕ, min, arith}
use Rattle.vm_programs.proofs.vmsweep.checks.check_runs.Goals as goal

-- a count that 64 bits hold is the count itself
few-enough : (count held : ℕ) → held ≡ min count (2 ^ 64 - 1) → held ≤ 10000 → count ≤ 10000
few-enough count held is few = omega (arith, is, few)

pub returns-clause-few : goal.returns-clause-few
returns-clause-few c = few-enough _ _ c.runs.ensures c.if-runs-gt-MOST_RUNS.false
