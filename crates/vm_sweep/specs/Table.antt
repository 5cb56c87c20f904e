-- The tables of a sweep, as comma-separated values (RFC 4180).
use Rattle.std.specs.Prelude.{ℕ, List, ◌∷◌, map}
use Rattle.std.specs.List.{concat}
use Rattle.vm_config.specs.declared.config.Config.{Config}
use Rattle.vm_sweep.specs.Combinations.{ValueLists, headings, numbers_of, rebalancing_of, varied, variants}
use Rattle.vm_sweep.specs.Orders.{Order, order_of}
use Rattle.vm_sweep.specs.Outcomes.{guest_records_of}
use Rattle.vm_sweep.specs.declared.outcome.Detail.{Detail}
use Rattle.vm_sweep.specs.declared.outcome.Detail.TheVariants.{Run, EachGuest}
use Rattle.vm_sweep.specs.declared.variant.Variant.{Variant}
use Rattle.vm_tally.specs.GuestTable.{guests_header}
use Rattle.vm_tally.specs.Summary.{summary_of}
use Rattle.vm_tally.specs.Table.{header, record_text}

abbrev pub header_for : Detail → ValueLists → List ℕ
header_for (Run rebalancing) lists = header rebalancing (headings lists)
header_for (EachGuest rebalancing) lists = guests_header rebalancing (headings lists)

-- the record of the run of a configuration that has this in the place of its own, or those of its guests
abbrev pub record_for : Detail → Variant → Config → List ℕ
record_for (Run rebalancing) v config = record_text rebalancing v.combination (numbers_of v) (summary_of config)
record_for (EachGuest rebalancing) v config = guest_records_of rebalancing v config

-- the same of a run that is wanted
abbrev pub record_of : Order → List ℕ
record_of order = record_for order.detail order.variant (varied order.variant order.base)

-- the header, and what is written of each run, in order
abbrev pub rows_for : Detail → ValueLists → Config → List (List ℕ)
rows_for detail lists config = header_for detail lists ∷ map record_of (map (order_of detail config) (variants lists config))

-- ---- the table: a record for each run

abbrev pub rows_of : ValueLists → Config → List (List ℕ)
rows_of lists config = rows_for (Run (rebalancing_of lists)) lists config

abbrev pub table_of : ValueLists → Config → List ℕ
table_of lists config = concat (rows_of lists config)

-- ---- the table by guests: for each run, a record for each of its guests

abbrev pub guest_rows_of : ValueLists → Config → List (List ℕ)
guest_rows_of lists config = rows_for (EachGuest (rebalancing_of lists)) lists config

abbrev pub guest_table_of : ValueLists → Config → List ℕ
guest_table_of lists config = concat (guest_rows_of lists config)
