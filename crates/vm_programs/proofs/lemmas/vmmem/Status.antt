-- What the status 1 of a run says.
use Rattle.std.proofs.Common.{◌≡◌, ℕ, List, Option, Bool}
use Rattle.vm_programs.specs.runs.Statuses.{status_of, IsRefused}
use Rattle.vm_programs.proofs.lemmas.runs as runs
use Rattle.vm_sim.specs.declared.run_error.RunError.{RunError}
use Rattle.vm_sim.specs.Run.{Fails}

module _ (read_old read_new written_old written_new : Option (List ℕ)) (limit : ℕ) (read_failed write_failed : Bool) where
  -- only a refused configuration has status 1
  pub refused-by : (status : ℕ) (error : RunError) → status ≡ status_of error
      → Fails read_old read_new written_old written_new limit read_failed write_failed error
      → status ≡ 1 → IsRefused read_old read_new
  refused-by =
      runs.refused-by (Fails read_old read_new written_old written_new limit read_failed write_failed) (IsRefused read_old read_new)
      (λ fault fails. let all = fails.1 in (all.0, all.1, all.2, (fault, all.3)))
