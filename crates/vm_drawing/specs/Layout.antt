-- A chart so near that no length of it needs more than 128 bits: for private contracts alone.
use Rattle.std.specs.Prelude.{◌≤◌, ◌^◌}
use Rattle.vm_drawing.specs.declared.area.Area.{Area}

abbrev pub IsSmall : Area → Type 0
IsSmall area = (area.base ≤ 2 ^ 100) × (area.scale.parts ≤ 100)
