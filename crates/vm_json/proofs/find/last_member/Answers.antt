use Rattle.std.proofs.Common.{◌∙◌, sym, ap}
use Rattle.json.specs.Find.{get, get_member}
use Rattle.vm_json.specs.Tree.{members_view, value_view}
use Rattle.vm_json.specs.declared.value.Value.{Value}
use Rattle.vm_json.proofs.TreeLemmas.{view-Object}
use Rattle.vm_json.proofs.find.last_member.Goals as goal

pub returns-in-Object : goal.returns-in-Object
returns-in-Object c =
    let name = c.args.name.now in
    c.last.ensures ∙ (ap (λ ms. get_member name (members_view ms)) c.deref.ensures.value
    ∙ sym (ap (λ (v : Value). get name (value_view v)) c.in-Object.is ∙ ap (get name) (view-Object c.in-Object.members)))
