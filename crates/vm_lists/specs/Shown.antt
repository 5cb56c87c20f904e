-- How a value is written in its unit.
use Rattle.std.specs.Prelude.{ℕ, ◌/◌, ◌%◌, ◌==◌, not, if◌then◌else◌, List, ◌++◌, codes}
use Rattle.std.specs.Fmt.{decimal}
use Rattle.vm_lists.specs.declared.bounds.Unit.{Unit as Units}
use Rattle.vm_lists.specs.declared.bounds.Unit.TheVariants.{Whole, Hundredths}
use Rattle.vm_lists.specs.declared.bounds.Limits.{Limits}

-- percent, without zeros at the end of what stands behind its point
abbrev pub shown_percent : ℕ → List ℕ
shown_percent value =
    if not (value % 10 == 0) then decimal (value / 100) ++ (codes "." ++ (decimal (value / 10 % 10) ++ decimal (value % 10)))
    else if not (value / 10 % 10 == 0) then decimal (value / 100) ++ (codes "." ++ decimal (value / 10 % 10))
    else decimal (value / 100)

-- the text of a value
unfoldable pub shown : Units → ℕ → List ℕ
shown Whole value = decimal value
shown Hundredths value = shown_percent value

-- the text of a list's limits
abbrev pub shown_limits : Limits → List ℕ
shown_limits limits = shown limits.unit limits.least ++ (codes " to " ++ shown limits.unit limits.greatest)
