-- What the status of a run that stopped says.
use Rattle.std.proofs.Common.{◌≡◌, ℕ, List, Option, Ok, Err, subst, arith}
use Rattle.std.specs.Io.KnownBytes.{Consumes, IsAtEnd}
use Rattle.vm_config.specs.declared.config.Config.{Config as Configuration}
use Rattle.vm_config.specs.declared.error.ConfigError.{ConfigError}
use Rattle.vm_config.specs.Reading.{config_of}
use Rattle.vm_programs.specs.runs.Statuses.{status_of, IsRefused}
use Rattle.vm_sim.specs.declared.run_error.RunError.{RunError}
use Rattle.vm_sim.specs.declared.run_error.RunError.TheVariants.{Config, Read, Write, Memory, Workers}
use Rattle.vm_sim.specs.Run.{MeansConfig, RunsConfig}

-- what an error says, where that of a refused configuration says R
module _ (Fails : RunError → Type 0) (R : Type 0) (of : (fault : ConfigError) → Fails (Config fault) → R) where
  -- only a refused configuration has status 1
  pub refused-by : (status : ℕ) (error : RunError) → status ≡ status_of error → Fails error → status ≡ 1 → R
  refused-by status (Config fault) is fails one = of fault fails
  refused-by status Workers is fails one = absurd (omega (arith, is, one))
  refused-by status Read is fails one = absurd (omega (arith, is, one))
  refused-by status Write is fails one = absurd (omega (arith, is, one))
  refused-by status Memory is fails one = absurd (omega (arith, is, one))

-- a text that was read whole, as it was run
module _ (read_old read_new : Option (List ℕ)) (text run : List ℕ) (same : run ≡ text) (all : Consumes read_old read_new text)
    (end : IsAtEnd read_new) where
  pub refused-text : (fault : ConfigError) → config_of run ≡ Err fault → IsRefused read_old read_new
  refused-text fault is = (text, all, end, (fault, subst (λ (bytes : List ℕ). config_of bytes ≡ Err fault) same is))

  pub run-text : (P : Configuration → Type 0) → MeansConfig P run → RunsConfig read_old read_new P
  run-text P (config, is, holds) = (text, all, end, (config, subst (λ (bytes : List ℕ). config_of bytes ≡ Ok config) same is, holds))
