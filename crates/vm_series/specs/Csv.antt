-- The rows of a run as comma-separated values: a line for each epoch and running guest.
use Rattle.std.specs.Prelude.{◌≡◌, ℕ, List, [], ◌∷◌, Bool, true, false, Option, Some, None, codes, if◌then◌else◌, is_some, length, slice_get, unwrap_or}
use Rattle.std.specs.Fmt.{decimal}
use Rattle.std.specs.List.{flat_map, list_any, range_with_len}
use Rattle.csv.specs.declared.parser.Terminator.TheVariants.{CRLF}
use Rattle.csv.specs.declared.writer.Writer.{Writer}
use Rattle.csv.specs.declared.writer.WriterBuilder.{WriterBuilder}
use Rattle.csv.specs.Writing.{default_writer, fields_written, has_written, row_text, with_terminator, writer_setup}
use Rattle.vm_guest.specs.declared.view.GuestView.{GuestView}
use Rattle.vm_plan.specs.State.{state_word}
use Rattle.vm_series.specs.Rows.{Row, Rows, evicted_of}

-- commas, quotes where a field needs them, and CRLF after each record (RFC 4180)
abbrev pub rfc4180 : WriterBuilder
rfc4180 = with_terminator default_writer CRLF

-- a writer so set up, before a record
pub record IsAtRecord {W : Type 0} (w : Writer W) : Type 0 where
  pub setup : writer_setup w ≡ rfc4180
  pub fields : fields_written w ≡ 0
  pub wrote : has_written w ≡ false

-- ---- fields

-- the names of the fields
unfoldable pub header : List (List ℕ)
header =
    codes "epoch" ∷ codes "state" ∷ codes "free" ∷ codes "guest" ∷ codes "target" ∷ codes "held" ∷ codes "resident" ∷ codes "swapped"
    ∷ codes "balloon" ∷ codes "active" ∷ codes "demand" ∷ codes "blocked" ∷ codes "stalled" ∷ codes "evicted"
    ∷ codes "done" ∷ []

abbrev pub flag : Bool → List ℕ
flag true = codes "1"
flag false = codes "0"

-- a number, or an empty field
abbrev pub number_or_empty : Option ℕ → List ℕ
number_or_empty (Some n) = decimal n
number_or_empty None = []

-- an epoch, and a guest that runs in it
unfoldable pub guest_record : Row → List ℕ → GuestView → List (List ℕ)
guest_record row name g =
    decimal row.epoch ∷ state_word row.state ∷ decimal row.free ∷ name ∷ decimal g.target ∷ decimal g.held ∷ decimal g.resident
    ∷ decimal g.swapped ∷ decimal g.balloon ∷ decimal g.active ∷ decimal g.demand ∷ flag g.blocked ∷ number_or_empty g.stalled
    ∷ decimal (evicted_of g) ∷ decimal g.done ∷ []

-- an epoch in which no guest runs: the fields of a guest are empty
unfoldable pub lone_record : Row → List (List ℕ)
lone_record row =
    decimal row.epoch ∷ state_word row.state ∷ decimal row.free ∷ [] ∷ [] ∷ [] ∷ [] ∷ [] ∷ [] ∷ [] ∷ [] ∷ [] ∷ [] ∷ [] ∷ [] ∷ []

-- ---- records

-- the record of a guest, if it runs
abbrev pub records_of_view : Row → List ℕ → Option GuestView → List (List (List ℕ))
records_of_view row name None = []
records_of_view row name (Some g) = guest_record row name g ∷ []

abbrev pub name_at : List (List ℕ) → ℕ → List ℕ
name_at names position = unwrap_or (slice_get names position) []

abbrev pub view_in : Row → ℕ → Option GuestView
view_in row position = unwrap_or (slice_get row.views position) None

abbrev pub records_at : List (List ℕ) → Row → ℕ → List (List (List ℕ))
records_at names row position = records_of_view row (name_at names position) (view_in row position)

-- the records of the running guests, in the order of the configuration
abbrev pub guest_records : List (List ℕ) → Row → List (List (List ℕ))
guest_records names row = flat_map (records_at names row) (range_with_len 0 (length row.views))

-- the records of an epoch: at least one
abbrev pub records_of : List (List ℕ) → Row → List (List (List ℕ))
records_of names row = if list_any is_some row.views then guest_records names row else lone_record row ∷ []

-- ---- the text

abbrev pub csv_records : Rows → List (List (List ℕ))
csv_records s = header ∷ flat_map (records_of s.names) s.rows

abbrev pub records_text : List (List (List ℕ)) → List ℕ
records_text records = flat_map (row_text rfc4180) records

-- the header and the records of all epochs
unfoldable pub csv_text : Rows → List ℕ
csv_text s = records_text (csv_records s)
