-- What a sweep that goes on, or stops early, has written.
use Rattle.std.specs.Prelude.{◌≡◌, ◌⊎◌, ℕ, List, ◌++◌, Option, Err, ⊤}
use Rattle.std.specs.List.{concat}
use Rattle.std.specs.Io.KnownBytes.{Appends, Keeps}
use Rattle.vm_config.specs.declared.config.Config.{Config as Configuration}
use Rattle.vm_config.specs.Reading.{config_of}
use Rattle.vm_sim.specs.declared.run_error.RunError.{RunError}
use Rattle.vm_sim.specs.declared.run_error.RunError.TheVariants.{Config, Read, Write, Memory, Workers}
use Rattle.vm_sim.specs.Run.{MeansConfig}
use Rattle.vm_streams.specs.Streams.{AppendsFront}

-- why the configuration that a text is was not read
abbrev pub FailsOnRead : (text : List ℕ) → RunError → Type 0
FailsOnRead text (Config fault) = config_of text ≡ Err fault
FailsOnRead text Memory = ⊤
FailsOnRead text _ = ⊥

module _ (old new : Option (List ℕ)) where
  -- the rows but those that are left were written, whole and in order, and nothing else
  pub record HasTold (rows left : List (List ℕ)) : Type 0 where
    pub told : List (List ℕ)
    pub whole : told ++ left ≡ rows
    pub written : Appends old new (concat told)

  -- some rows from the first on were written, whole, and nothing else
  abbrev pub WritesFirst : List (List ℕ) → Type 0
  WritesFirst rows = (left : List (List ℕ)) × HasTold rows left

  -- why rows were not all written, and what was written by then: memory is refused between two rows
  abbrev pub FailsWithin : List (List ℕ) → RunError → Type 0
  FailsWithin rows Workers = ⊥
  FailsWithin rows Read = ⊥
  FailsWithin rows (Config fault) = ⊥
  FailsWithin rows Write = AppendsFront old new (concat rows)
  FailsWithin rows Memory = WritesFirst rows

  -- why the rows of the configuration that a text is were not all written, and what was written by then
  abbrev pub FailsOnTable : (rows : Configuration → List (List ℕ)) → (text : List ℕ) → RunError → Type 0
  FailsOnTable rows text Workers = ⊥
  FailsOnTable rows text Read = ⊥
  FailsOnTable rows text (Config fault) = Keeps old new × (config_of text ≡ Err fault)
  FailsOnTable rows text Write = MeansConfig (λ config. AppendsFront old new (concat (rows config))) text
  FailsOnTable rows text Memory = Keeps old new ⊎ MeansConfig (λ config. WritesFirst (rows config)) text
