use Rattle.std.proofs.Common.{◌≡◌, ◌++◌, ◌*◌, map, string_bytes}
use Rattle.std.specs.List.{flat_map, range_with_len}
use Rattle.vm_drawing.specs.Picture.{level_at}
use Rattle.vm_drawing.specs.Shapes.{shapes_text}
use Rattle.vm_drawing.proofs.picture.put_levels.Given as goal

-- the levels so far
abbrev pub invariant-loop-part : goal.invariant-loop-part
invariant-loop-part l =
    l.text.items ≡ l.fn.text.items
    ++ shapes_text (flat_map (λ part. level_at l.area (map string_bytes l.words) (part * l.area.scale.step)) (range_with_len 0 l.part))
