use Rattle.std.proofs.Common.{List, sym, ap, ◌∙◌}
use Rattle.json.specs.Find.{at, get_item}
use Rattle.json.specs.Json.{Json}
use Rattle.vm_json.specs.Tree.{items_view, value_view}
use Rattle.vm_json.specs.declared.value.Value.{Value}
use Rattle.vm_json.proofs.TreeLemmas.{view-Array, view-Texts}
use Rattle.vm_policy_check.specs.KnownKeys.{keys_or_none}
use Rattle.vm_policy_check.proofs.ObjectLemmas.{texts_have_none}
use Rattle.vm_policy_check.proofs.objects.item_at.Goals as goal

pub returns-in-Array : goal.returns-in-Array
returns-in-Array c =
    ap keys_or_none (c.value_at.ensures ∙ (ap (λ (vs : List Value). get_item c.args.place (items_view vs)) c.deref.ensures.value
    ∙ sym (ap (λ (v : Value). at c.args.place (value_view v)) c.in-Array.is ∙ ap (at c.args.place) (view-Array c.in-Array.values))))

pub returns-in-Texts : goal.returns-in-Texts
returns-in-Texts c =
    sym (ap (λ (v : Value). keys_or_none (at c.args.place (value_view v))) c.in-Texts.is
    ∙ (ap (λ (j : Json). keys_or_none (at c.args.place j)) (view-Texts c.in-Texts.field-0) ∙ texts_have_none c.in-Texts.field-0.items c.args.place))
