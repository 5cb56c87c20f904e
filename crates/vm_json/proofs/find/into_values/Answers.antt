use Rattle.std.proofs.Common.{◌∙◌, sym, ap, Some}
use Rattle.serde_json.specs.Find.{as_array}
use Rattle.vm_json.specs.View.{view, data_of}
use Rattle.vm_json.proofs.TreeLemmas.{view-Array}
use Rattle.vm_json.proofs.ViewLemmas.{items_seen}
use Rattle.vm_json.proofs.find.into_values.Goals as goal

pub returns-in-Array-clause-values : goal.returns-in-Array-clause-values
returns-in-Array-clause-values c =
    ap (λ v. as_array (view v)) c.in-Array.is ∙ ap (λ j. as_array (data_of j)) (view-Array c.in-Array.values)
    ∙ sym (ap Some (items_seen c.in-Array.values.items))
