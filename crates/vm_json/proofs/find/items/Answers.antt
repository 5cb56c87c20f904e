use Rattle.std.proofs.Common.{◌∙◌, sym, ap, map, Some}
use Rattle.serde_json.specs.Data.{string}
use Rattle.serde_json.specs.Find.{as_array}
use Rattle.serde_json.specs.View.{items_of}
use Rattle.vm_json.specs.View.{view, data_of}
use Rattle.vm_json.proofs.TreeLemmas.{view-Array, view-Texts}
use Rattle.vm_json.proofs.ViewLemmas.{items_seen, texts_seen}
use Rattle.vm_json.proofs.find.items.Goals as goal

pub returns-in-Texts : goal.returns-in-Texts
returns-in-Texts c =
    ap (λ ts. Some (items_of (map (λ t. string t.now) ts))) c.as_slice.ensures.value ∙ ap Some (texts_seen c.in-Texts.texts.items)
    ∙ sym (ap (λ v. as_array (view v)) c.in-Texts.is ∙ ap (λ j. as_array (data_of j)) (view-Texts c.in-Texts.texts))

pub returns-in-Array : goal.returns-in-Array
returns-in-Array c =
    ap (λ vs. Some (items_of (map view vs))) c.as_slice-in-Array.ensures.value ∙ ap Some (items_seen c.in-Array.values.items)
    ∙ sym (ap (λ v. as_array (view v)) c.in-Array.is ∙ ap (λ j. as_array (data_of j)) (view-Array c.in-Array.values))
