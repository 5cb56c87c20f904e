-- The table of a sweep guest by guest, as comma-separated values (RFC 4180): a header, and a record for each run and guest.
use Rattle.std.specs.Prelude.{ℕ, List, [], ◌∷◌, ◌++◌, Option, Some, codes, slice_get, unwrap_or}
use Rattle.std.specs.List.{enumerate_from, flat_map}
use Rattle.std.specs.Option.{option_map}
use Rattle.vm_tally.specs.Combinations.{Values}
use Rattle.vm_tally.specs.declared.guest_summary.GuestSummary.{GuestSummary}
use Rattle.vm_tally.specs.declared.table.Rebalancing.{Rebalancing}
use Rattle.vm_tally.specs.declared.table.Rebalancing.TheVariants.{Own, Swept}
use Rattle.vm_tally.specs.Table.{end_of_record, field, number_field, optional_field, setting_columns, swept_field, values_text}

-- the columns of what came of a run for a guest, and the end
unfoldable pub guest_columns : Rebalancing → List ℕ
guest_columns Own =
    codes ",guest,epochs,revoked,paged,evicted,granted,blocked,stalls,done,left,most_swapped,target,held,swapped,balloon" ++ end_of_record
guest_columns Swept =
    codes ",guest,epochs,revoked,paged,evicted,granted,rebalanced,blocked,stalls,done,left,most_swapped,target,held,swapped,balloon"
    ++ end_of_record

-- the header, with further columns as in that of runs
unfoldable pub guests_header : Rebalancing → (headings : List (List ℕ)) → List ℕ
guests_header rebalancing headings = setting_columns rebalancing ++ (flat_map field headings ++ guest_columns rebalancing)

-- the numbers of a guest up to what boundaries gave
abbrev pub numbers_to_granted : GuestSummary → List ℕ
numbers_to_granted s = s.epochs ∷ s.revoked ∷ s.paged ∷ s.evicted ∷ s.granted ∷ []

-- and those behind; those of the end are empty where it doesn't run then
unfoldable pub numbers_from_blocked : GuestSummary → List (Option ℕ)
numbers_from_blocked s =
    Some s.blocked ∷ Some s.stalls ∷ Some s.done ∷ option_map (λ e. e.left) s.at_end ∷ Some s.most_swapped
    ∷ option_map (λ e. e.target) s.at_end ∷ option_map (λ e. e.held) s.at_end ∷ option_map (λ e. e.swapped) s.at_end
    ∷ option_map (λ e. e.balloon) s.at_end ∷ []

-- the fields of its numbers, in order
abbrev pub guest_fields : Rebalancing → GuestSummary → List ℕ
guest_fields rebalancing s =
    flat_map number_field (numbers_to_granted s)
    ++ (swept_field rebalancing s.rebalanced ++ flat_map optional_field (numbers_from_blocked s))

-- the record of a guest; its name is as it is, since no name of a guest needs quotes
unfoldable pub guest_record : Rebalancing → Values → (further name : List ℕ) → GuestSummary → List ℕ
guest_record rebalancing c further name s = values_text rebalancing c further ++ (field name ++ (guest_fields rebalancing s ++ end_of_record))

-- the name at a position
abbrev pub name_at : List (List ℕ) → ℕ → List ℕ
name_at names position = unwrap_or (slice_get names position) []

-- the record of the guest at a position
abbrev pub record_at : Rebalancing → Values → (further : List ℕ) → (names : List (List ℕ)) → ℕ × GuestSummary → List ℕ
record_at rebalancing c further names told = guest_record rebalancing c further (name_at names told.0) told.1

-- the records of a run, one for each of what is told of its guests, in order
abbrev pub guest_records : Rebalancing → Values → (further : List ℕ) → (names : List (List ℕ)) → List GuestSummary → List ℕ
guest_records rebalancing c further names summaries = flat_map (record_at rebalancing c further names) (enumerate_from 0 summaries)
