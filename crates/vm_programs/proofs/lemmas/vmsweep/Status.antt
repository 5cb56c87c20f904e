-- What the statuses 1 and 3 of a sweep say.
use Rattle.std.proofs.Common.{◌≡◌, ◌∙◌, ◌⊎◌, ℕ, List, Option, Err, ap, subst, sym, arith, inl, inr}
use Rattle.std.proofs.lemmas.List.Folds.{concat-append}
use Rattle.std.specs.List.{concat}
use Rattle.std.specs.Io.KnownBytes.{Consumes, IsAtEnd, Keeps}
use Rattle.vm_programs.specs.runs.Statuses.{status_of, IsRefused}
use Rattle.vm_config.specs.declared.config.Config.{Config as Configuration}
use Rattle.vm_config.specs.declared.error.ConfigError.{ConfigError}
use Rattle.vm_config.specs.Reading.{config_of}
use Rattle.vm_sim.specs.declared.run_error.RunError.{RunError}
use Rattle.vm_sim.specs.declared.run_error.RunError.TheVariants.{Config, Read, Write, Memory, Workers}
use Rattle.vm_sim.specs.Run.{MeansConfig}
use Rattle.vm_streams.specs.Streams.{AppendsFront}
use Rattle.vm_streams.proofs.StreamLemmas.{Appends-then_front, AppendsFront-none}
use Rattle.vm_sweep.specs.Combinations.{ValueLists}
use Rattle.vm_sweep.specs.Drawn.{FailsOnDrawing}
use Rattle.vm_sweep.specs.Refusals.{StopsFor}
use Rattle.vm_sweep.specs.Table.{guest_rows_of, rows_of}
use Rattle.vm_sweep.specs.Written.{FailsOnTable, WritesFirst}
use Rattle.vm_sweep.specs.declared.errors.SweepError.{SweepError}
use Rattle.vm_sweep.specs.declared.errors.SweepError.TheVariants.{Guest, Run}
use Rattle.vm_programs.proofs.lemmas.runs as runs
use Rattle.vm_programs.specs.vmsweep.Written.{FailsOnSweep, IsRefusedUnder, StopsEarly, status_of_sweep, sweep_of}
use Rattle.vm_programs.specs.declared.vmsweep.asked.Form.{Form}
use Rattle.vm_programs.specs.declared.vmsweep.asked.Form.TheVariants.{Drawing, Guests, Table}

-- some of the rows are a front of all
front-of_some : (old new : Option (List ℕ)) (rows : List (List ℕ)) → WritesFirst old new rows → AppendsFront old new (concat rows)
front-of_some old new rows (left, far) =
    subst (AppendsFront old new) (sym (concat-append far.told left) ∙ ap concat far.whole)
    (Appends-then_front old new new (concat far.told) (concat left) far.written (AppendsFront-none new (concat left)))

-- how a sweep failed, whatever its form: it says of each error what its statuses need
module _ (old new : Option (List ℕ)) (lists : ValueLists) (text : List ℕ) where
  -- what an error says where a front of this may have been written
  abbrev pub Fails : (Configuration → List ℕ) → RunError → Type 0
  Fails sweep Workers = ⊥
  Fails sweep Read = ⊥
  Fails sweep (Config fault) = config_of text ≡ Err fault
  Fails sweep Write = MeansConfig (λ config. AppendsFront old new (sweep config)) text
  Fails sweep Memory = Keeps old new ⊎ MeansConfig (λ config. AppendsFront old new (sweep config)) text

  of-table : (rows : Configuration → List (List ℕ)) (error : RunError) → FailsOnTable old new rows text error
      → Fails (λ config. concat (rows config)) error
  of-table rows Workers fails = fails
  of-table rows Read fails = fails
  of-table rows (Config fault) fails = fails.1
  of-table rows Write fails = fails
  of-table rows Memory (inl keeps) = inl keeps
  of-table rows Memory (inr (config, means, some)) = inr (config, means, front-of_some _ _ _ some)

  of-drawing : (error : RunError) → FailsOnDrawing old new lists text error → Fails (sweep_of Drawing lists) error
  of-drawing Workers fails = fails
  of-drawing Read fails = fails
  of-drawing (Config fault) fails = fails.1
  of-drawing Write fails = fails
  of-drawing Memory fails = inl fails

  pub of-sweep : (form : Form) (error : RunError) → FailsOnSweep old new form lists text error → Fails (sweep_of form lists) error
  of-sweep Table error fails = of-table (rows_of lists) error fails
  of-sweep Guests error fails = of-table (guest_rows_of lists) error fails
  of-sweep Drawing error fails = of-drawing error fails

-- a sweep that stopped
module _ (written_old written_new : Option (List ℕ)) (form : Form) (lists : ValueLists) (run : List ℕ) where
  kept-in : (f : Form) (fault : ConfigError) → FailsOnSweep written_old written_new f lists run (Config fault) → Keeps written_old written_new
  kept-in Table fault fails = fails.0
  kept-in Guests fault fails = fails.0
  kept-in Drawing fault fails = fails.0

  kept-as : (status : ℕ) (error : RunError) → status ≡ status_of error → FailsOnSweep written_old written_new form lists run error → status ≡ 1
      → Keeps written_old written_new
  kept-as status (Config fault) is fails one = kept-in form fault fails
  kept-as status Workers is fails one = absurd (omega (arith, is, one))
  kept-as status Read is fails one = absurd (omega (arith, is, one))
  kept-as status Write is fails one = absurd (omega (arith, is, one))
  kept-as status Memory is fails one = absurd (omega (arith, is, one))

  taken-as : (status : ℕ) (error : RunError) → status ≡ status_of error → Fails written_old written_new lists run (sweep_of form lists) error
      → status ≡ 2 → ⊥
  taken-as status (Config fault) is fails two = absurd (omega (arith, is, two))
  taken-as status Workers is fails two = absurd fails
  taken-as status Read is fails two = absurd fails
  taken-as status Write is fails two = absurd (omega (arith, is, two))
  taken-as status Memory is fails two = absurd (omega (arith, is, two))

  -- what a sweep that stopped says of the status that it is answered by
  abbrev pub Stops : SweepError → Type 0
  Stops error = StopsFor (Keeps written_old written_new) (FailsOnSweep written_old written_new form lists run) lists run error

  -- words that are taken have no status 2
  pub taken-by : (status : ℕ) (error : SweepError) → status ≡ status_of_sweep error → Stops error → status ≡ 2 → ⊥
  taken-by status (Run error) is stops two =
      taken-as status error is (of-sweep written_old written_new lists run form error stops) two
  taken-by status (Guest refusal) is stops two = absurd (omega (arith, is, two))

  -- with the status 1 nothing was written
  pub kept-by : (status : ℕ) (error : SweepError) → status ≡ status_of_sweep error → Stops error → status ≡ 1 → Keeps written_old written_new
  kept-by status (Run error) is stops one = kept-as status error is stops one
  kept-by status (Guest refusal) is stops one = stops.0

module _ (read_old read_new written_old written_new : Option (List ℕ)) (form : Form) (lists : ValueLists) (text run : List ℕ) (same : run ≡ text) where
  refused-as : (status : ℕ) (error : RunError) → status ≡ status_of error → Fails written_old written_new lists run (sweep_of form lists) error
      → Consumes read_old read_new text → IsAtEnd read_new → status ≡ 1 → IsRefused read_old read_new
  refused-as status error is fails all end one =
      runs.refused-by (Fails written_old written_new lists run (sweep_of form lists)) (IsRefused read_old read_new)
      (λ fault fails. runs.refused-text read_old read_new text run same all end fault fails) status error is fails one

  stopped-as : (status : ℕ) (error : RunError) → status ≡ status_of error → Fails written_old written_new lists run (sweep_of form lists) error
      → Consumes read_old read_new text → IsAtEnd read_new → status ≡ 3 → StopsEarly read_old read_new written_old written_new form lists
  stopped-as status (Config fault) is fails all end three = absurd (omega (arith, is, three))
  stopped-as status Workers is fails all end three = absurd fails
  stopped-as status Read is fails all end three = absurd fails
  stopped-as status Write is fails all end three = inl (runs.run-text read_old read_new text run same all end _ fails)
  stopped-as status Memory is (inl keeps) all end three = inr keeps
  stopped-as status Memory is (inr fails) all end three = inl (runs.run-text read_old read_new text run same all end _ fails)

  -- only a refused configuration, or one that refuses a list, has it
  pub refused-by : (status : ℕ) (error : SweepError) → status ≡ status_of_sweep error → Stops written_old written_new form lists run error → Consumes read_old read_new text
      → IsAtEnd read_new → status ≡ 1 → IsRefusedUnder read_old read_new lists
  refused-by status (Run error) is stops all end one =
      inl (refused-as status error is (of-sweep written_old written_new lists run form error stops) all end one)
  refused-by status (Guest refusal) is stops all end one =
      inr (refusal, runs.run-text read_old read_new text run same all end _ stops.1)

  -- and one that has status 3 has written a front of the sweep, or nothing
  pub stopped-by : (status : ℕ) (error : SweepError) → status ≡ status_of_sweep error → Stops written_old written_new form lists run error → Consumes read_old read_new text
      → IsAtEnd read_new → status ≡ 3 → StopsEarly read_old read_new written_old written_new form lists
  stopped-by status (Run error) is stops all end three =
      stopped-as status error is (of-sweep written_old written_new lists run form error stops) all end three
  stopped-by status (Guest refusal) is stops all end three = absurd (omega (arith, is, three))
