use Rattle.std.proofs.Common.{◌≡◌, ℕ, List, map, sym, ap, ◌∙◌}
use Rattle.std.specs.Borrow.{Bor}
use Rattle.vm_json.specs.Tree.{value_view}
use Rattle.vm_json.specs.declared.value.Value.{Value}
use Rattle.vm_json.proofs.TreeLemmas.{view-Object}
use Rattle.vm_keys.specs.Keys.{keys_in}
use Rattle.vm_keys.proofs.OddLemmas.{keys-members}
use Rattle.vm_keys.proofs.odd.odd_keys.Goals as goal

pub returns-in-Object : goal.returns-in-Object
returns-in-Object c =
    let is : keys_in (value_view c.args.object.now) ≡ map (λ (m : Bor (List ℕ) × Value). m.0.now) c.deref.result.now =
    ap (λ (v : Value). keys_in (value_view v)) c.in-Object.is
    ∙ (ap keys_in (view-Object c.in-Object.members)
    ∙ (keys-members c.in-Object.members.items ∙ ap (map (λ (m : Bor (List ℕ) × Value). m.0.now)) (sym c.deref.ensures.value))) in
    rw is c.odd_members.ensures
