-- Positions that come several times in a row.
use Rattle.std.specs.Prelude.{ℕ, ◌+◌, ◌==◌, List, [], ◌∷◌, replicate, if◌then◌else◌}
use Rattle.std.specs.List.{flat_map}
use Rattle.vm_plan.specs.declared.stretch.Stretch.{Stretch}

-- one position more in front of some stretches
abbrev pub with_one : ℕ → List Stretch → List Stretch
with_one position [] = record { position = position; count = 1 } ∷ []
with_one position (stretch ∷ stretches) =
    if stretch.position == position
    then record stretch { count = stretch.count + 1 } ∷ stretches
    else record { position = position; count = 1 } ∷ stretch ∷ stretches

-- the stretches of equal positions, in order
abbrev pub stretches_of : List ℕ → List Stretch
stretches_of [] = []
stretches_of (position ∷ positions) = with_one position (stretches_of positions)

-- the positions of a stretch
abbrev pub positions_of : Stretch → List ℕ
positions_of stretch = replicate stretch.count stretch.position

-- the positions of some stretches, in order
abbrev pub moves_of : List Stretch → List ℕ
moves_of stretches = flat_map positions_of stretches
