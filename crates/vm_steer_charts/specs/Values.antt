-- What is seen of a host sample by sample, as numbers: the values of a curve.
use Rattle.std.specs.Prelude.{ℕ, List, [], ◌∷◌, bytes_eq, is_some, map, Option, Some, None, slice_get, unwrap_or, if◌then◌else◌}
use Rattle.std.specs.Option.{option_map}
use Rattle.vm_plan.specs.State.{rank}
use Rattle.vm_steer.specs.Names.{is_before, place_of, stands_at}
use Rattle.vm_steer_charts.specs.declared.rows.Numbers.{Numbers}
use Rattle.vm_steer_charts.specs.declared.values.Measure.{Measure}
use Rattle.vm_steer_charts.specs.declared.values.Measure.TheVariants.{Target, Held, Used}
use Rattle.vm_steer_charts.specs.Rows.{Row}

-- ---- of the host

abbrev pub states : List Row → List (Option ℕ)
states rows = map (λ row. Some (rank row.state)) rows

abbrev pub frees : List Row → List (Option ℕ)
frees rows = map (λ row. Some row.free) rows

-- ---- of a domain

-- the numbers of the domain with a name, if it is in the sample and steered
abbrev pub numbers_named : (name : List ℕ) → (names : List (List ℕ)) → List (Option Numbers) → Option Numbers
numbers_named name [] numbers = None
numbers_named name (n ∷ names) [] = None
numbers_named name (n ∷ names) (x ∷ numbers) = if bytes_eq n name then x else numbers_named name names numbers

abbrev pub number_of : Measure → Numbers → ℕ
number_of Target numbers = numbers.target
number_of Held numbers = numbers.held
number_of Used numbers = numbers.used

abbrev pub value : Measure → (name : List ℕ) → Row → Option ℕ
value measure name row = option_map (number_of measure) (numbers_named name row.names row.numbers)

-- one for each sample
abbrev pub values : Measure → (name : List ℕ) → List Row → List (Option ℕ)
values measure name rows = map (value measure name) rows

-- ---- the domains that are drawn

-- a name at its place among names that rise byte by byte, if it isn't there
abbrev pub with_name : (name : List ℕ) → List (List ℕ) → List (List ℕ)
with_name name [] = name ∷ []
with_name name (n ∷ names) =
    if is_before n name then n ∷ with_name name names else (if bytes_eq n name then n ∷ names else name ∷ n ∷ names)

-- that of a domain, if it is steered
abbrev pub with_steered : Option Numbers → (name : List ℕ) → List (List ℕ) → List (List ℕ)
with_steered numbers name names = if is_some numbers then with_name name names else names

-- those of the steered domains of a sample, and names that were there before
abbrev pub with_domains : (drawn names : List (List ℕ)) → List (Option Numbers) → List (List ℕ)
with_domains drawn [] numbers = drawn
with_domains drawn (name ∷ names) [] = drawn
with_domains drawn (name ∷ names) (x ∷ numbers) = with_domains (with_steered x name drawn) names numbers

abbrev pub with_rows : (drawn : List (List ℕ)) → List Row → List (List ℕ)
with_rows drawn [] = drawn
with_rows drawn (row ∷ rows) = with_rows (with_domains drawn row.names row.numbers) rows

-- the names of all domains that are steered in any sample, in order, each once
abbrev pub names_drawn : List Row → List (List ℕ)
names_drawn rows = with_rows [] rows

-- ---- for private contracts alone

-- the place of a name among names in order, if it is there
abbrev pub found_at : List (List ℕ) → (name : List ℕ) → Option ℕ
found_at names name = if stands_at names (place_of names name) name then Some (place_of names name) else None

-- what stands at a place, if anything does
abbrev pub numbers_at : List (Option Numbers) → (place : ℕ) → Option Numbers
numbers_at numbers place = unwrap_or (slice_get numbers place) None
