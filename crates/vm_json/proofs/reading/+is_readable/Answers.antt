use Rattle.std.proofs.Common.{◌∙◌, sym, ap}
use Rattle.vm_json.specs.Tree.{value_view}
use Rattle.vm_json.specs.View.{is_readable}
use Rattle.vm_json.proofs.ViewLemmas.{readable_texts}
use Rattle.vm_json.proofs.reading.+is_readable.Goals as goal

pub is_readable-returns-in-Texts : goal.is_readable-returns-in-Texts
is_readable-returns-in-Texts t c = sym (ap (λ v. is_readable (value_view v)) c.in-Texts.is ∙ readable_texts c.in-Texts.field-0)
