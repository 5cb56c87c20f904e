use Rattle.std.proofs.Common.{◌≡◌, ◌++◌}
use Rattle.vm_drawing.specs.Bands.{back_text}
use Rattle.vm_drawing.proofs.bands.put_back.Given as goal

-- the places that are left complete the text
abbrev pub invariant-loop-i : goal.invariant-loop-i
invariant-loop-i l =
    l.text.items ++ back_text l.area l.curve l.spreads l.i ≡ l.fn.text.items ++ back_text l.area l.curve l.spreads l.end
