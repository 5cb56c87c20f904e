use Rattle.std.proofs.Common.{◌≡◌, ◌++◌, ◌+◌, ◌*◌, ◌/◌}
use Rattle.std.specs.List.{flat_map, range_with_len}
use Rattle.vm_drawing.specs.Picture.{tick_at}
use Rattle.vm_drawing.specs.Scale.{tick_step}
use Rattle.vm_drawing.specs.Shapes.{shapes_text}
use Rattle.vm_drawing.proofs.picture.put_ticks.Given as goal

-- the ticks so far
abbrev pub invariant-loop-k : goal.invariant-loop-k
invariant-loop-k l =
    l.text.items ≡ l.fn.text.items
    ++ shapes_text (flat_map (λ k. tick_at l.area ((l.area.axis.first / tick_step l.area.axis + k) * tick_step l.area.axis)) (range_with_len 0 l.k))
