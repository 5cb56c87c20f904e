use Rattle.std.proofs.Common.{◌∙◌, take, ap}
use Rattle.std.proofs.lemmas.List.{take_min}
use Rattle.std.specs.List.{before_first}
use Rattle.vm_import.specs.Logs.{is_line_end}
use Rattle.vm_import.proofs.reader.window.Goals as goal

pub returns : goal.returns
returns c =
    c.first_line.ensures
    ∙ ap (λ n. before_first is_line_end (take n c.args.bytes.now)) c.min.ensures
    ∙ ap (before_first is_line_end) (take_min 32 c.args.bytes.now)
