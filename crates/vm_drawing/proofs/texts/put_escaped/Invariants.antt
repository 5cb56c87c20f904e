use Rattle.std.proofs.Common.{◌≡◌, ◌++◌, drop}
use Rattle.vm_drawing.specs.Shapes.{escaped}
use Rattle.vm_drawing.proofs.texts.put_escaped.Given as goal

-- the bytes that are left complete the text
abbrev pub invariant-loop-byte : goal.invariant-loop-byte
invariant-loop-byte l = l.text.items ++ escaped (drop l.byte-index l.bytes) ≡ l.fn.text.items ++ escaped l.bytes
