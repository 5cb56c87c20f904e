use Rattle.std.proofs.Common.{◌≡◌, drop, max}
use Rattle.vm_drawing.specs.Picture.{longest}
use Rattle.vm_drawing.proofs.picture.longest.Given as goal

-- the curves that are left may have a longer name
abbrev pub invariant-loop-curve : goal.invariant-loop-curve
invariant-loop-curve l = max l.most (longest (drop l.curve-index l.curves)) ≡ longest l.curves
