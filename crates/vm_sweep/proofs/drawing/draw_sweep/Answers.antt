use Rattle.std.proofs.Common.{◌≡◌, ℕ, List, Option, Result, Ok, Err, IfErr, rules}
use Rattle.std.specs.Io.KnownBytes.{Keeps}
use Rattle.std.specs.Prelude.{⊤}
use Rattle.vm_config.specs.declared.config.Config.{Config as Configuration}
use Rattle.vm_config.specs.Reading.{config_of}
use Rattle.vm_sim.specs.declared.run_error.RunError.{RunError}
use Rattle.vm_sim.specs.declared.run_error.RunError.TheVariants.{Config, Read, Write, Memory, Workers}
use Rattle.vm_sweep.specs.Combinations.{ValueLists}
use Rattle.vm_sweep.specs.Drawn.{FailsOnDrawing, FailsToDraw, drawing_of}
use Rattle.vm_sweep.specs.Refusals.{StopsFor}
use Rattle.vm_sweep.specs.Written.{FailsOnRead}
use Rattle.vm_sweep.specs.declared.errors.SweepError.{SweepError}
use Rattle.vm_sweep.specs.declared.errors.SweepError.TheVariants.{Guest, Run}
use Rattle.vm_sweep.proofs.TableLemmas.{keeps}
use Rattle.vm_sweep.proofs.drawing.draw_sweep.Goals as goal

read-fails : (x : Option (List ℕ)) (lists : ValueLists) (text : List ℕ) (e : RunError) → FailsOnRead text e → FailsOnDrawing x x lists text e
read-fails x lists text Workers why = why
read-fails x lists text Read why = why
read-fails x lists text (Config fault) why = (keeps x, why)
read-fails x lists text Write why = absurd why
read-fails x lists text Memory why = keeps x

not-read : {T : Type 0} (x : Option (List ℕ)) (lists : ValueLists) (text : List ℕ) (result : Result T SweepError)
    → IfErr result (StopsFor ⊤ (FailsOnRead text) lists text) → IfErr result (StopsFor (Keeps x x) (FailsOnDrawing x x lists text) lists text)
not-read x lists text (Ok value) why = tt
not-read x lists text (Err (Run e)) why = read-fails x lists text e why
not-read x lists text (Err (Guest refusal)) why = (keeps x, why.1)

draws-not : (x y : Option (List ℕ)) (lists : ValueLists) (text : List ℕ) (config : Configuration) → config_of text ≡ Ok config → (e : RunError)
    → FailsToDraw x y (drawing_of lists config) e → FailsOnDrawing x y lists text e
draws-not x y lists text config is Workers why = why
draws-not x y lists text config is Read why = why
draws-not x y lists text config is (Config fault) why = absurd why
draws-not x y lists text config is Write why = (config, is, why)
draws-not x y lists text config is Memory why = why

pub returns-in_err-config-clause-failed : goal.returns-in_err-config-clause-failed
returns-in_err-config-clause-failed g c =
    not-read (g.W.Sink.contents c.args.writer.now) c.args.lists.now c.args.text.now c.from_residual.result (search rules)

pub returns-in-Ok-clause-done : goal.returns-in-Ok-clause-done
returns-in-Ok-clause-done g c = (c.in_ok-config.config, c.in_ok-config.ensures.config, c.in-Ok.ensures.done)

pub returns-in-Ok-clause-accepted : goal.returns-in-Ok-clause-accepted
returns-in-Ok-clause-accepted g c = (c.in_ok-config.config, c.in_ok-config.ensures.config, c.in_ok-config.ensures.accepted)

pub returns-in-Err-clause-failed : goal.returns-in-Err-clause-failed
returns-in-Err-clause-failed g c =
    draws-not _ _ c.args.lists.now c.args.text.now c.in_ok-config.config c.in_ok-config.ensures.config c.in-Err.error c.in-Err.ensures.failed
