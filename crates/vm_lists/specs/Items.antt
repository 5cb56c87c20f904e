-- What an item of a list is: a number, or a range FROM..TO or FROM..TO/STEP.
use Rattle.std.specs.Prelude.{ℕ, ◌+◌, ◌==◌, ◌&&◌, Bool, false, not, nat_le, nat_lt, if◌then◌else◌, List, [], ◌∷◌, length, drop, Option, Some, None, Result, Ok, Err}
use Rattle.std.specs.List.{before_first, after_first}
use Rattle.std.specs.Option.{option_map, option_map_or}
use Rattle.vm_lists.specs.declared.bounds.Unit.{Unit as Units}
use Rattle.vm_lists.specs.declared.bounds.Unit.TheVariants.{Whole, Hundredths}
use Rattle.vm_lists.specs.declared.bounds.Limits.{Limits}
use Rattle.vm_lists.specs.declared.faults.ListFault.{ListFault}
use Rattle.vm_lists.specs.declared.faults.ListFaultKind.{ListFaultKind}
use Rattle.vm_lists.specs.declared.faults.ListFaultKind.TheVariants.{NoItem, OutsideRange, EndsBelow, NoStep}
use Rattle.vm_lists.specs.declared.items.Written.{Written}
use Rattle.vm_lists.specs.Numbers.{◌>>=◌, has, number_of}
use Rattle.vm_lists.specs.Ranges.{range_of}

-- whether a text begins with two points
abbrev pub begins_with_dots : List ℕ → Bool
begins_with_dots (a ∷ b ∷ rest) = a == 46 && b == 46
begins_with_dots _ = false

-- what stands before and behind the first two points
abbrev pub around_dots : List ℕ → Option (List ℕ × List ℕ)
around_dots [] = None
around_dots (byte ∷ rest) =
    if begins_with_dots (byte ∷ rest)
    then Some ([], drop 1 rest)
    else option_map (λ parts. (byte ∷ parts.0, parts.1)) (around_dots rest)

abbrev pub is_slash : ℕ → Bool
is_slash byte = byte == 47

-- the step of a range that names none: 1, or 1 percent
abbrev pub one_of : Units → ℕ
one_of Whole = 1
one_of Hundredths = 100

-- the range FROM..BEHIND, in an item that begins at this byte
unfoldable pub range_written : Units → ℕ → List ℕ → List ℕ → Option Written
range_written unit at front behind = do
  from ← number_of unit front
  if has is_slash behind
      then (do
        to ← number_of unit (before_first is_slash behind)
        step ← number_of unit (after_first is_slash behind)
        Some (record {
          from = from;
          to = to;
          step = step;
          to_at = at + (length front + 2);
          step_at = at + (length front + 2) + (length (before_first is_slash behind) + 1);
        }))
      else (do
        to ← number_of unit behind
        Some (record { from = from; to = to; step = one_of unit; to_at = at + (length front + 2); step_at = at }))

-- a number is the range from itself to itself
unfoldable pub number_written : Units → ℕ → List ℕ → Option Written
number_written unit at item = do
  number ← number_of unit item
  Some (record { from = number; to = number; step = one_of unit; to_at = at; step_at = at })

-- the numbers of an item that begins at this byte, if it has the form of one
unfoldable pub written_of : Units → ℕ → List ℕ → Option Written
written_of unit at item = option_map_or (λ parts. range_written unit at parts.0 parts.1) (around_dots item) (number_written unit at item)

abbrev pub fault : ℕ → ListFaultKind → Result (List ℕ) ListFault
fault at kind = Err (record { at = at; kind = kind })

abbrev pub is_within : Limits → ℕ → Bool
is_within limits number = nat_le limits.least number && nat_le number limits.greatest

-- the values of what is written, or its first fault
unfoldable pub values_of : Limits → ℕ → Written → Result (List ℕ) ListFault
values_of limits at item =
    if not (is_within limits item.from) then fault at (OutsideRange limits)
    else if not (is_within limits item.to) then fault item.to_at (OutsideRange limits)
    else if nat_lt item.to item.from then fault item.to_at EndsBelow
    else if item.step == 0 then fault item.step_at NoStep
    else Ok (range_of item.from item.to item.step)

-- the values of an item that begins at this byte, or its first fault
unfoldable pub item_of : Limits → ℕ → List ℕ → Result (List ℕ) ListFault
item_of limits at item = option_map_or (values_of limits at) (written_of limits.unit at item) (fault at NoItem)
