use Rattle.std.proofs.Common.{◌≡◌, max, drop}
use Rattle.vm_drawing.specs.Drawing.{ends_among}
use Rattle.vm_drawing.specs.Values.{greatest}
use Rattle.vm_drawing.proofs.values.greatest_end.Given as goal

-- the spreads that are left may have a greater end
abbrev pub invariant-loop-spread : goal.invariant-loop-spread
invariant-loop-spread l = max l.most (greatest (ends_among (drop l.spread-index l.spreads))) ≡ greatest (ends_among l.spreads)
