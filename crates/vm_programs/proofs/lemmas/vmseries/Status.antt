-- What the status 1 of a run says.
use Rattle.std.proofs.Common.{◌≡◌, ℕ, List, Option, Bool}
use Rattle.std.specs.Io.KnownBytes.{Consumes, IsAtEnd}
use Rattle.vm_programs.specs.runs.Statuses.{status_of, IsRefused}
use Rattle.vm_programs.specs.vmseries.Written.{FailsOnSeries}
use Rattle.vm_programs.proofs.lemmas.runs as runs
use Rattle.vm_sim.specs.declared.run_error.RunError.{RunError}

module _ (read_old read_new written_old written_new : Option (List ℕ)) (is_drawn : Bool) (text run : List ℕ) (same : run ≡ text) where
  -- only a refused configuration has status 1
  pub refused-by : (status : ℕ) (error : RunError) → status ≡ status_of error → FailsOnSeries written_old written_new is_drawn run error
      → Consumes read_old read_new text → IsAtEnd read_new → status ≡ 1 → IsRefused read_old read_new
  refused-by status error is fails all end one =
      runs.refused-by (FailsOnSeries written_old written_new is_drawn run) (IsRefused read_old read_new)
      (λ fault fails. runs.refused-text read_old read_new text run same all end fault fails.1) status error is fails one
