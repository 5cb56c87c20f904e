-- The steps that a text stands for, as they are read.
use Rattle.std.specs.Prelude.{ℕ, ◌+◌, ◌≤◌, ⊤, List, [], ◌∷◌, map, Result, Ok}
use Rattle.std.specs.List.{range_with_len}
use Rattle.vm_trace.specs.declared.error.TraceError.{TraceError}
use Rattle.vm_trace.specs.declared.step.Step.{Step}
use Rattle.vm_trace.specs.declared.step.Action.TheVariants.{Touch, Free}
use Rattle.vm_trace.specs.declared.text_steps.Row.{Row}
use Rattle.vm_trace.specs.declared.text_steps.TextSteps.{TextSteps}
use Rattle.vm_trace.specs.declared.text_steps.TextSteps.TheVariants.{One, Touches, Frees}
use Rattle.vm_trace.specs.Words.{◌>>=◌}

-- the pages of a row, in rising order
abbrev pub pages_in : Row → List ℕ
pages_in row = range_with_len row.page row.count

-- the steps
abbrev pub list_of : TextSteps → List Step
list_of (One action) = action ∷ []
list_of (Touches row) = map Touch (pages_in row)
list_of (Frees row) = map Free (pages_in row)

-- the same of the result of reading
abbrev pub listed : Result TextSteps TraceError → Result (List Step) TraceError
listed read = read >>= (λ steps. Ok (list_of steps))

-- the steps on the pages of a row, of the result of reading it
abbrev pub on_row : (ℕ → Step) → Result Row TraceError → Result (List Step) TraceError
on_row step read = read >>= (λ row. Ok (map step (pages_in row)))

-- a row has some pages, all of them of a guest with this many
pub record IsRow (pages : ℕ) (row : Row) : Type 0 where
  pub some : 1 ≤ row.count
  pub inside : row.page + row.count ≤ pages

-- the row of steps, where they are on one
abbrev pub HasRow : ℕ → TextSteps → Type 0
HasRow pages (One action) = ⊤
HasRow pages (Touches row) = IsRow pages row
HasRow pages (Frees row) = IsRow pages row
