use Rattle.std.proofs.Common.{ap, sym, subst, ◌∙◌}
use Rattle.std.specs.List.{list_all}
use Rattle.vm_trace.specs.Sized.{is_within}
use Rattle.vm_trace.specs.TextSteps.{HasRow, list_of}
use Rattle.vm_trace.proofs.Rows.{touches_tested, frees_tested}
use Rattle.vm_trace.proofs.text_steps.are_within.Goals as goal

pub returns-in-Touches : goal.returns-in-Touches
returns-in-Touches c =
    touches_tested c.args.size c.in-Touches.row.page c.in-Touches.row.count (subst (HasRow 262144) c.in-Touches.is c.requires).some
    ∙ ap (λ steps. list_all (is_within c.args.size) (list_of steps)) (sym c.in-Touches.is)

pub returns-in-Frees : goal.returns-in-Frees
returns-in-Frees c =
    frees_tested c.args.size c.in-Frees.row.page c.in-Frees.row.count (subst (HasRow 262144) c.in-Frees.is c.requires).some
    ∙ ap (λ steps. list_all (is_within c.args.size) (list_of steps)) (sym c.in-Frees.is)
