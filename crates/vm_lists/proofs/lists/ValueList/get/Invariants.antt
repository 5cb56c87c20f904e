use Rattle.std.proofs.Common.{◌≡◌, slice_get, drop}
use Rattle.std.specs.List.{concat}
use Rattle.vm_lists.proofs.lists.ValueList.get.Given as goal

abbrev pub invariant-loop-item : goal.invariant-loop-item
invariant-loop-item l = slice_get l.self l.index ≡ slice_get (concat (drop l.item-index l.item-items)) l.left
