use Rattle.std.proofs.Common.{◌∙◌, sym, ap}
use Rattle.json.specs.Json.{object}
use Rattle.vm_json.specs.Tree.{members_view}
use Rattle.vm_json.proofs.TreeLemmas.{view-Object}
use Rattle.serde_json.specs.Find.{get}
use Rattle.vm_json.specs.View.{view, data_of}
use Rattle.vm_json.proofs.ViewLemmas.{found_in}
use Rattle.vm_json.proofs.find.take_member.Goals as goal

pub returns-in-Object : goal.returns-in-Object
returns-in-Object c =
    let name = c.args.name.now in
    found_in name (object (members_view c.in-Object.members.items)) c.take_last.result c.take_last.ensures
    ∙ sym (ap (λ v. get name (view v)) c.in-Object.is ∙ ap (λ j. get name (data_of j)) (view-Object c.in-Object.members))
