use Rattle.std.proofs.Common.{ap, sym, ◌∙◌}
use Rattle.json.proofs.Trees as tree
use Rattle.vm_json.proofs.TreeLemmas as borrowed
use Rattle.vm_keys.specs.Keys.{keys_in}
use Rattle.vm_check.proofs.KeyLemmas.{same_keys}
use Rattle.vm_check.proofs.odd.keys_of.Goals as goal

pub returns-in-Object : goal.returns-in-Object
returns-in-Object c =
    rw c.in-Object.is
    (ap keys_in (borrowed.view-Object c.in_ok-bare.bare)
    ∙ same_keys c.in_ok-bare.bare.items c.deref.result.now c.in-Object.members.items c.in_ok-bare.ensures c.deref.ensures.value
    ∙ sym (ap keys_in (tree.view-Object c.in-Object.members)))
