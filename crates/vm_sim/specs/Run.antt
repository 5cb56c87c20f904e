-- What a run does to its reader and its writer: for each, the bytes before and after, where they are known.
use Rattle.std.specs.Prelude.{◌≡◌, ◌⊎◌, ◌<◌, ℕ, List, length, Bool, true, Option, Ok, Err, IfSome}
use Rattle.std.specs.Io.KnownBytes.{Consumes, IsAtEnd, Keeps}
use Rattle.vm_config.specs.declared.config.Config.{Config as Configuration}
use Rattle.vm_config.specs.Reading.{config_of}
use Rattle.vm_streams.specs.Streams.{AppendsFront}
use Rattle.vm_sim.specs.declared.run_error.RunError.{RunError}
use Rattle.vm_sim.specs.declared.run_error.RunError.TheVariants.{Config, Read, Write, Memory, Workers}
use Rattle.vm_sim.specs.Report.{report_of}

-- why a report was cut short: the writer failed, or memory was refused and the writer did not fail
abbrev pub CutShort : Bool → Bool → RunError → Type 0
CutShort old new e = ((e ≡ Write) × (new ≡ true)) ⊎ ((e ≡ Memory) × (new ≡ old))

-- all that the reader had was taken, and P holds of it
abbrev pub TakesAll : Option (List ℕ) → Option (List ℕ) → (List ℕ → Type 0) → Type 0
TakesAll old new P = (input : List ℕ) × Consumes old new input × IsAtEnd new × P input

-- it is a configuration of which P holds
abbrev pub MeansConfig : (Configuration → Type 0) → List ℕ → Type 0
MeansConfig P input = (config : Configuration) × (config_of input ≡ Ok config) × P config

-- all that the reader had was taken, and it is a configuration of which P holds
abbrev pub RunsConfig : Option (List ℕ) → Option (List ℕ) → (Configuration → Type 0) → Type 0
RunsConfig old new P = TakesAll old new (MeansConfig P)

module _ (read_old read_new written_old written_new : Option (List ℕ)) where
  -- a front of the report of the configuration that was read was written, and nothing else
  abbrev pub WritesFront : Type 0
  WritesFront = RunsConfig read_old read_new (λ config. AppendsFront written_old written_new (report_of config))

  -- what was written by then, and the cause, but for Memory, which has none, and Workers, whose cause is a clause of its own
  abbrev pub Fails : (limit : ℕ) → (read_failed write_failed : Bool) → RunError → Type 0
  Fails limit read_failed write_failed Workers = Keeps read_old read_new × Keeps written_old written_new
  Fails limit read_failed write_failed Read = Keeps written_old written_new
      × ((read_failed ≡ true) ⊎ IfSome read_old (λ bytes. limit < length bytes))
  Fails limit read_failed write_failed (Config e) = Keeps written_old written_new
      × TakesAll read_old read_new (λ input. config_of input ≡ Err e)
  Fails limit read_failed write_failed Write = (write_failed ≡ true) × WritesFront
  Fails limit read_failed write_failed Memory = WritesFront ⊎ Keeps written_old written_new

-- why a text was not read: the reader failed, or had more than the limit, or memory was refused
abbrev pub FailsToRead : (old : Option (List ℕ)) → (limit : ℕ) → (read_failed : Bool) → RunError → Type 0
FailsToRead old limit read_failed Workers = ⊥
FailsToRead old limit read_failed Read = (read_failed ≡ true) ⊎ IfSome old (λ bytes. limit < length bytes)
FailsToRead old limit read_failed (Config e) = ⊥
FailsToRead old limit read_failed Write = ⊥
FailsToRead old limit read_failed Memory = Unit {0}

-- why a text that was read was not run: it means no configuration, or memory was refused
abbrev pub FailsOnText : List ℕ → RunError → Type 0
FailsOnText text Workers = Unit {0}
FailsOnText text Read = ⊥
FailsOnText text (Config e) = config_of text ≡ Err e
FailsOnText text Write = ⊥
FailsOnText text Memory = Unit {0}
