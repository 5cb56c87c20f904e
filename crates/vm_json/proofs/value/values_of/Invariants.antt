use Rattle.std.proofs.Common.{◌≡◌, ◌++◌, map, take}
use Rattle.vm_json.specs.Tree.{gathered, texts_view, value_view}
use Rattle.vm_json.proofs.value.values_of.Given as goal

abbrev pub invariant-loop-text : goal.invariant-loop-text
invariant-loop-text l = map value_view l.all.items ≡ texts_view (take l.text-index l.texts)

abbrev pub invariant-loop-value : goal.invariant-loop-value
invariant-loop-value l = map value_view l.all.items ++ map value_view l.value-iterator.rest.items ≡ gathered l.texts l.fn.values.items
