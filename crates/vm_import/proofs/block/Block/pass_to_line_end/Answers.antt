use Rattle.std.proofs.Common.{◌≡◌, ◌∙◌, position, Some, None, sym, ap}
use Rattle.vm_import.specs.Logs.{is_line_end}
use Rattle.vm_import.specs.Waiting.{Waiting}
use Rattle.vm_import.proofs.FirstLineLemmas.{used_beyond, used_there}
use Rattle.vm_import.proofs.block.Block.pass_to_line_end.Goals as goal

pub returns-in-Some-clause-there : goal.returns-in-Some-clause-there
returns-in-Some-clause-there c = λ _ more.
    let found : position is_line_end c.args.self.now.bytes ≡ Some c.in-Some.end = ap (position is_line_end) (sym c.bytes.ensures) ∙ sym c.line_end.ensures ∙ c.in-Some.is in
    used_there is_line_end c.args.self.now.bytes c.pass.new.self.bytes c.in-Some.end found (ap (λ (w : Waiting). w.bytes) c.pass.ensures) more

pub returns-in-None-clause-beyond : goal.returns-in-None-clause-beyond
returns-in-None-clause-beyond c = λ _ more.
    let none : position is_line_end c.args.self.now.bytes ≡ None = ap (position is_line_end) (sym c.bytes.ensures) ∙ sym c.line_end.ensures ∙ c.in-None.is in
    used_beyond is_line_end c.args.self.now.bytes none more
