use Rattle.std.proofs.Common.{◌≡◌, drop, max}
use Rattle.vm_drawing.specs.Picture.{greatest_in}
use Rattle.vm_drawing.proofs.picture.greatest_in.Given as goal

-- the curves that are left may have a greater value
abbrev pub invariant-loop-curve : goal.invariant-loop-curve
invariant-loop-curve l = max l.most (greatest_in (drop l.curve-index l.curves)) ≡ greatest_in l.curves
