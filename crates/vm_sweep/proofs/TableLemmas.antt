-- The table of the configuration that a text is.
use Rattle.std.proofs.Common.{◌≡◌, ℕ, List, Option, None, Some, Result, Ok, Err, IfErr, inl, inr, refl, sym}
use Rattle.std.specs.Io.KnownBytes.{Keeps}
use Rattle.std.specs.Prelude.{⊤}
use Rattle.vm_config.specs.declared.config.Config.{Config as Configuration}
use Rattle.vm_config.specs.Outcomes.{IsOrMemory}
use Rattle.vm_config.specs.Reading.{config_of}
use Rattle.vm_sim.specs.declared.run_error.RunError.{RunError}
use Rattle.vm_sim.specs.declared.run_error.RunError.TheVariants.{Config, Read, Write, Memory, Workers}
use Rattle.vm_sweep.specs.Combinations.{ValueLists}
use Rattle.vm_sweep.specs.Refusals.{StopsFor}
use Rattle.vm_sweep.specs.declared.errors.SweepError.{SweepError}
use Rattle.vm_sweep.specs.declared.errors.SweepError.TheVariants.{Guest, Run}
use Rattle.vm_sweep.specs.Written.{FailsOnRead, FailsOnTable, FailsWithin}

-- a configuration that was read is what the text means
pub was-read : (config : Configuration) (text : List ℕ) → IsOrMemory (Ok config) (config_of text) → config_of text ≡ Ok config
was-read config text (inl is) = sym is
was-read config text (inr is) = cc

pub keeps : (x : Option (List ℕ)) → Keeps x x
keeps None = tt
keeps (Some bytes) = refl

-- rows of a configuration that was read
pub fails-in_run : (x y : Option (List ℕ)) (rows : Configuration → List (List ℕ)) (text : List ℕ) (config : Configuration) → config_of text ≡ Ok config
    → (e : RunError) → FailsWithin x y (rows config) e → FailsOnTable x y rows text e
fails-in_run x y rows text config is Workers why = why
fails-in_run x y rows text config is Read why = why
fails-in_run x y rows text config is (Config fault) why = absurd why
fails-in_run x y rows text config is Write why = (config, is, why)
fails-in_run x y rows text config is Memory why = inr (config, is, why)

-- none was read, or it is refused
module _ (x : Option (List ℕ)) (rows : Configuration → List (List ℕ)) (lists : ValueLists) (text : List ℕ) where
  read-fails : (e : RunError) → FailsOnRead text e → FailsOnTable x x rows text e
  read-fails Workers why = why
  read-fails Read why = why
  read-fails (Config fault) why = (keeps x, why)
  read-fails Write why = absurd why
  read-fails Memory why = inl (keeps x)

  begins-not : (e : SweepError) → StopsFor ⊤ (FailsOnRead text) lists text e → StopsFor (Keeps x x) (FailsOnTable x x rows text) lists text e
  begins-not (Run e) why = read-fails e why
  begins-not (Guest refusal) why = (keeps x, why.1)

  pub not-read : {T : Type 0} (result : Result T SweepError) → IfErr result (StopsFor ⊤ (FailsOnRead text) lists text)
      → IfErr result (StopsFor (Keeps x x) (FailsOnTable x x rows text) lists text)
  not-read (Ok value) why = tt
  not-read (Err e) why = begins-not e why
