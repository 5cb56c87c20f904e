use Rattle.std.proofs.Common.{sym, ap, ◌∙◌, Err}
use Rattle.vm_samples.specs.Placed.{at}
use Rattle.vm_samples.specs.declared.place.Place.TheVariants.{Text}
use Rattle.vm_samples.proofs.TextLemmas.{data_in_read, data_in_refused}
use Rattle.vm_samples.proofs.policy_text.data_in.Goals as goal

pub returns-in-Ok : goal.returns-in-Ok
returns-in-Ok c = ap (at Text) (data_in_read c.args.text.now _ c.in-Ok.ensures.ok.0 c.in-Ok.ensures.ok.1)

pub returns-in-Err-NotJson : goal.returns-in-Err-NotJson
returns-in-Err-NotJson c =
    ap (at Text) (data_in_refused c.args.text.now (c.read.ensures.refused (c.in-Err-NotJson.is ∙ ap Err c.in-Err-NotJson.field-0-is)))
    ∙ ap Err (sym c.in_text.ensures)
