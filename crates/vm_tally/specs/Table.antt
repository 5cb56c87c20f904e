-- The table of a sweep, as comma-separated values (RFC 4180): a header, and a record for each run.
use Rattle.std.specs.Prelude.{ℕ, Bool, true, false, List, [], ◌∷◌, ◌++◌, Option, Some, None, codes}
use Rattle.std.specs.Fmt.{decimal}
use Rattle.std.specs.List.{flat_map}
use Rattle.vm_lists.specs.declared.bounds.Unit.TheVariants.{Hundredths}
use Rattle.vm_lists.specs.Shown.{shown}
use Rattle.vm_tally.specs.Combinations.{Values}
use Rattle.vm_tally.specs.declared.summary.Summary.{Summary}
use Rattle.vm_tally.specs.declared.table.Rebalancing.{Rebalancing}
use Rattle.vm_tally.specs.declared.table.Rebalancing.TheVariants.{Own, Swept}
use Rattle.vm_tally.specs.Summary.{fits}

-- a field behind the first one
abbrev pub field : List ℕ → List ℕ
field text = codes "," ++ text

-- the end of a record
abbrev pub end_of_record : List ℕ
end_of_record = 13 ∷ 10 ∷ []

-- the columns of what a run has in the place of the configuration's own; that of rebalancing is there only where the runs have values of
-- it from a list
unfoldable pub setting_columns : Rebalancing → List ℕ
setting_columns Own = codes "frames,swap,tax,page_rate"
setting_columns Swept = codes "frames,swap,tax,page_rate,rebalance"

-- those of what came of it, and the end
unfoldable pub run_columns : Rebalancing → List ℕ
run_columns Own =
    codes ",high,soft,hard,low,least_free,no_memory,no_swap,revoked,paged,evicted,granted,blocked,stalls,done,left,most_swapped,swapped,balloon,fits,worst"
    ++ end_of_record
run_columns Swept =
    codes ",high,soft,hard,low,least_free,no_memory,no_swap,revoked,paged,evicted,granted,rebalanced,blocked,stalls,done,left,most_swapped,swapped,balloon,fits,worst"
    ++ end_of_record

-- the header; further columns stand behind those of the settings, under these headings
unfoldable pub header : Rebalancing → (headings : List (List ℕ)) → List ℕ
header rebalancing headings = setting_columns rebalancing ++ (flat_map field headings ++ run_columns rebalancing)

abbrev pub number_field : ℕ → List ℕ
number_field number = field (decimal number)

-- a number, or an empty field
abbrev pub optional_field : Option ℕ → List ℕ
optional_field (Some number) = number_field number
optional_field None = field []

-- a number in such a column, if it is there
abbrev pub swept_field : Rebalancing → ℕ → List ℕ
swept_field Own number = []
swept_field Swept number = number_field number

-- the tax is told in percent
unfoldable pub combination_text : Rebalancing → Values → List ℕ
combination_text rebalancing c =
    decimal c.frames ++ (field (decimal c.swap) ++ (field (shown Hundredths c.tax) ++ (field (decimal c.page_rate)
    ++ swept_field rebalancing c.rebalance)))

-- the values of a run, with a number for each further column
unfoldable pub values_text : Rebalancing → Values → (further : List ℕ) → List ℕ
values_text rebalancing c further = combination_text rebalancing c ++ flat_map number_field further

-- the numbers up to what boundaries gave
abbrev pub numbers_to_granted : Summary → List ℕ
numbers_to_granted s =
    s.high ∷ s.soft ∷ s.hard ∷ s.low ∷ s.least_free ∷ s.no_memory ∷ s.no_swap ∷ s.revoked ∷ s.paged ∷ s.evicted ∷ s.granted ∷ []

-- and those behind
abbrev pub numbers_from_blocked : Summary → List ℕ
numbers_from_blocked s = s.blocked ∷ s.stalls ∷ s.done ∷ s.left ∷ s.most_swapped ∷ s.swapped ∷ s.balloon ∷ []

abbrev pub yes_or_no : Bool → List ℕ
yes_or_no true = codes "yes"
yes_or_no false = codes "no"

-- the record of a run
unfoldable pub record_text : Rebalancing → Values → (further : List ℕ) → Summary → List ℕ
record_text rebalancing c further s =
    values_text rebalancing c further ++ (flat_map number_field (numbers_to_granted s) ++ (swept_field rebalancing s.rebalanced
    ++ (flat_map number_field (numbers_from_blocked s) ++ (field (yes_or_no (fits s))
    ++ (optional_field s.worst ++ end_of_record)))))
