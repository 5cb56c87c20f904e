-- The two scales of a chart: values upwards, and places from left to right. A chart is 880 pixels wide.
use Rattle.std.specs.Prelude.{ℕ, zero, suc, ◌-◌, ◌*◌, ◌/◌, max, if◌then◌else◌, nat_le}
use Rattle.std.specs.Int.{div_ceil}
use Rattle.vm_drawing.specs.declared.scale.Axis.{Axis}
use Rattle.vm_drawing.specs.declared.scale.Scale.{Scale}

-- ---- round numbers

-- the least of a power of ten and twice and five times as much that is at least as great
abbrev pub round_within : (power least : ℕ) → ℕ
round_within power least = if nat_le least power then power else (if nat_le least (2 * power) then 2 * power else 5 * power)

-- the same from a power of ten on, through so many powers
unfoldable pub round_from : (powers power least : ℕ) → ℕ
round_from zero power least = power
round_from (suc n) power least =
    if nat_le least (5 * power) then round_within power least else round_from n (10 * power) least

-- the least of 1, 2, 5, 10, 20, 50 and so on that is at least as great, for numbers of 64 bits
unfoldable pub round_up : ℕ → ℕ
round_up least = round_from 19 1 least

-- the least round step of which so many reach a value
abbrev pub step_for : (parts value : ℕ) → ℕ
step_for parts value = round_up (div_ceil value parts)

-- ---- values

-- the least number of steps that reach a value, at least one
abbrev pub parts_for : (step value : ℕ) → ℕ
parts_for step value = max 1 (div_ceil value step)

-- the scale of numbers up to a greatest value: 200 pixels high, in at most five round steps
abbrev pub scale_to : ℕ → Scale
scale_to greatest = record { height = 200; step = step_for 5 greatest; parts = parts_for (step_for 5 greatest) greatest }

-- the scale of so many words: 75 pixels high
abbrev pub scale_of_words : ℕ → Scale
scale_of_words words = record { height = 75; step = 1; parts = max 1 (words - 1) }

-- the value at the upper edge
abbrev pub top_of : Scale → ℕ
top_of scale = scale.step * scale.parts

-- how high a value stands
abbrev pub y_of : Scale → ℕ → ℕ
y_of scale value = value * scale.height / max 1 (top_of scale)

-- ---- places

-- how far right of the left edge a place is
abbrev pub x_of : Axis → ℕ → ℕ
x_of axis place = (place - axis.first) * 880 / max 1 (axis.last - axis.first)

-- the least round step of which ten reach along the axis
abbrev pub tick_step : Axis → ℕ
tick_step axis = step_for 10 (axis.last - axis.first)
