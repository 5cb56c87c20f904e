-- Records as they are put together: from what the records of an epoch have in common, a name, and what is shown of a guest.
use Rattle.std.specs.Prelude.{ℕ, List, [], ◌∷◌, ◌++◌, Option, Some, None, if◌then◌else◌, is_some, length, slice_get, unwrap_or}
use Rattle.std.specs.Fmt.{decimal}
use Rattle.std.specs.List.{flat_map, list_any, range_with_len}
use Rattle.csv.specs.declared.parser.Terminator.TheVariants.{CRLF}
use Rattle.csv.specs.Writing.{comma, end_text, field_text}
use Rattle.vm_guest.specs.declared.view.GuestView.{GuestView}
use Rattle.vm_plan.specs.State.{state_word}
use Rattle.vm_series.specs.Csv.{flag, number_or_empty, rfc4180, view_in}
use Rattle.vm_series.specs.Rows.{Row, evicted_of}

-- a field behind a comma, and what follows it
abbrev pub comma_then : List ℕ → List ℕ → List ℕ
comma_then field rest = comma ∷ (field ++ rest)

-- the first three fields
unfoldable pub head_text : Row → List ℕ
head_text row = decimal row.epoch ++ comma_then (state_word row.state) (comma_then (decimal row.free) [])

-- the name, with its quotes where it needs them
abbrev pub name_text : List ℕ → List ℕ
name_text name = comma ∷ field_text rfc4180 name

-- the fields behind the name, and the end
unfoldable pub view_text : GuestView → List ℕ
view_text g =
    comma_then (decimal g.target) (comma_then (decimal g.held) (comma_then (decimal g.resident) (comma_then (decimal g.swapped)
    (comma_then (decimal g.balloon) (comma_then (decimal g.active) (comma_then (decimal g.demand) (comma_then (flag g.blocked)
    (comma_then (number_or_empty g.stalled) (comma_then (decimal (evicted_of g)) (comma_then (decimal g.done)
    (end_text CRLF)))))))))))

-- the twelve fields of a guest, all empty, and the end
unfoldable pub empty_text : List ℕ
empty_text = comma ∷ comma ∷ comma ∷ comma ∷ comma ∷ comma ∷ comma ∷ comma ∷ comma ∷ comma ∷ comma ∷ comma ∷ end_text CRLF

-- ---- put together

-- the name at a position; where there is none it is empty
abbrev pub piece_at : List (List ℕ) → ℕ → List ℕ
piece_at names position = unwrap_or (slice_get names position) (comma ∷ [])

-- the record of a guest, if it runs
abbrev pub view_record : List ℕ → List ℕ → Option GuestView → List ℕ
view_record head name None = []
view_record head name (Some g) = head ++ (name ++ view_text g)

abbrev pub record_at : List (List ℕ) → Row → ℕ → List ℕ
record_at names row position = view_record (head_text row) (piece_at names position) (view_in row position)

-- the records of an epoch
abbrev pub epoch_text : List (List ℕ) → Row → List ℕ
epoch_text names row =
    if list_any is_some row.views then flat_map (record_at names row) (range_with_len 0 (length row.views)) else head_text row ++ empty_text
