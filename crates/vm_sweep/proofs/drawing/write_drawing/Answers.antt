use Rattle.std.proofs.Common.{◌≡◌, ◌∙◌, ℕ, List, Option, Result, Ok, Err, IfErr, rules, subst, sym}
use Rattle.std.specs.Io.KnownBytes.{Appends}
use Rattle.vm_sim.specs.declared.run_error.RunError.{RunError}
use Rattle.vm_sim.specs.declared.run_error.RunError.TheVariants.{Write, Memory}
use Rattle.vm_streams.specs.Streams.{AppendsFront}
use Rattle.vm_sweep.specs.Drawn.{FailsToDraw, drawing_of}
use Rattle.vm_sweep.proofs.TableLemmas.{keeps}
use Rattle.vm_sweep.proofs.drawing.write_drawing.Goals as goal

memory-fails : {T : Type 0} (result : Result T RunError) → IfErr result (λ e. e ≡ Memory) → (x : Option (List ℕ)) (drawing : List ℕ)
    → IfErr result (FailsToDraw x x drawing)
memory-fails (Ok value) is x drawing = tt
memory-fails (Err e) is x drawing = subst (FailsToDraw x x drawing) (sym is) (keeps x)

write-fails : {T : Type 0} (result : Result T RunError) → IfErr result (λ e. e ≡ Write) → (x y : Option (List ℕ)) (drawing : List ℕ)
    → AppendsFront x y drawing → IfErr result (FailsToDraw x y drawing)
write-fails (Ok value) is x y drawing front = tt
write-fails (Err e) is x y drawing front = subst (FailsToDraw x y drawing) (sym is) front

pub returns-in_err-drawing-clause-failed : goal.returns-in_err-drawing-clause-failed
returns-in_err-drawing-clause-failed g c =
    memory-fails c.from_residual.result (search rules) (g.W.Sink.contents c.args.writer.now) (drawing_of c.args.lists.now c.args.config)

pub returns-in_err-write_text-clause-failed : goal.returns-in_err-write_text-clause-failed
returns-in_err-write_text-clause-failed g c =
    let old = g.W.Sink.contents c.args.writer.now in
    let new = g.W.Sink.contents c.write_text.new.writer in
    write-fails c.from_residual-in_err-write_text.result (search rules) old new (drawing_of c.args.lists.now c.args.config)
    (subst (AppendsFront old new) (c.deref.ensures.value ∙ c.in_ok-drawing.ensures) c.in_err-write_text.ensures.front)

pub returns-clause-done : goal.returns-clause-done
returns-clause-done g c =
    subst (Appends (g.W.Sink.contents c.args.writer.now) (g.W.Sink.contents c.write_text.new.writer)) (c.deref.ensures.value ∙ c.in_ok-drawing.ensures)
    c.in_ok-write_text.ensures.written
