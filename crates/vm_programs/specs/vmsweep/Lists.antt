-- The lists that words give, and what their combinations are.
use Rattle.std.specs.Prelude.{ℕ, ⊤, ◌≤◌, ◌*◌, ◌+◌, All, IfSome, List, [], ◌∷◌, length, map, Option, Some, None, Result, Ok, Err, unwrap_or}
use Rattle.clap.specs.Words.{Row, Text}
use Rattle.vm_config.specs.Names.{is_name}
use Rattle.vm_lists.specs.Lists.{IsWithin, list_of}
use Rattle.vm_lists.specs.NamedLists.{Named, named_of}
use Rattle.vm_lists.specs.Names.{checked_names}
use Rattle.vm_lists.specs.declared.faults.ListFault.{ListFault}
use Rattle.vm_lists.specs.declared.faults.NameFault.{NameFault}
use Rattle.vm_lists.specs.declared.faults.NamedListFault.{NamedListFault}
use Rattle.vm_programs.specs.vmsweep.CommandLine.{seeds_of}
use Rattle.vm_programs.specs.vmsweep.Keys.{limits_of, word_of}
use Rattle.vm_programs.specs.declared.vmsweep.asked.Asked.{Asked}
use Rattle.vm_programs.specs.declared.vmsweep.faults.SweepFault.{SweepFault}
use Rattle.vm_programs.specs.declared.vmsweep.faults.SweepFault.TheVariants.{BadList, BadName, BadNamedList}
use Rattle.vm_programs.specs.declared.vmsweep.keys.SweptKey.{SweptKey}
use Rattle.vm_programs.specs.declared.vmsweep.keys.SweptKey.TheVariants.{Frames, Swap, Tax, PageRate, Rebalance, MinPercent, Min, Shares}
use Rattle.vm_sweep.specs.Combinations.{NamedList, ValueLists}
use Rattle.vm_words.specs.Words.{text_of, texts_of}

-- what is asked for, as the lists of a sweep
abbrev pub lists_in : Asked → ValueLists
lists_in asked = record {
  frames = asked.frames;
  swap = asked.swap;
  tax = asked.tax;
  page_rate = asked.page_rate;
  rebalance = asked.rebalance;
  min_percent = asked.min_percent;
  minimums = asked.minimums.items;
  shares = asked.shares.items;
  seeds = asked.seeds;
}

-- ---- what the words give

infixl 10 ◌>>=◌
abbrev pub ◌>>=◌ : {A B : Type 0} → Result A SweepFault → (A → Result B SweepFault) → Result B SweepFault
(Ok x) >>= f = f x
(Err fault) >>= f = Err fault

-- what a list is read as for a key: its values, or its first fault
abbrev pub for_key : SweptKey → Result (List ℕ) ListFault → Result (Option (List ℕ)) SweepFault
for_key key (Ok values) = Ok (Some values)
for_key key (Err fault) = Err (BadList key fault)

-- what is read for a key of the text of its word, if there is one
abbrev pub read_for : SweptKey → Option Text → Result (Option (List ℕ)) SweepFault
read_for key None = Ok None
read_for key (Some text) = for_key key (list_of (limits_of key) text)

-- the values that a key is given, none where its word isn't there
unfoldable pub given : SweptKey → List Row → Result (Option (List ℕ)) SweepFault
given key rows = read_for key (text_of (word_of key) rows)

-- what a list with a name is read as for a key
abbrev pub for_guest : SweptKey → Result Named NamedListFault → Result Named SweepFault
for_guest key (Ok named) = Ok named
for_guest key (Err fault) = Err (BadNamedList key fault)

-- the name and the values of a text, or its first fault
unfoldable pub read_one : SweptKey → Text → Result Named SweepFault
read_one key text = for_guest key (named_of (limits_of key) text)

-- the names and values of texts, or the fault of the first one that has any
abbrev pub read_each : SweptKey → List Text → Result (List Named) SweepFault
read_each key [] = Ok []
read_each key (text ∷ texts) = do
  list ← read_one key text
  lists ← read_each key texts
  Ok (list ∷ lists)

-- the names and values that a key is given, by all its words in order
unfoldable pub given_each : SweptKey → List Row → Result (List Named) SweepFault
given_each key rows = read_each key (texts_of (word_of key) rows)

-- what is wrong with the names of a key's lists, if anything is
abbrev pub for_names : SweptKey → Result ⊤ NameFault → Result ⊤ SweepFault
for_names key (Ok _) = Ok tt
for_names key (Err fault) = Err (BadName key fault)

-- each is a guest's name, and none stands twice, or it is said of which list that isn't so
unfoldable pub names_checked : SweptKey → List Named → Result ⊤ SweepFault
names_checked key lists = for_names key (checked_names is_name (map (λ list. list.name) lists))

-- the same list for a guest, as one of a sweep
abbrev pub guest_list : Named → NamedList
guest_list list = record { name = list.name; values = list.values }

-- lists for guests
pub record GuestLists : Type 0 where
  pub minimums : List NamedList
  pub shares : List NamedList

-- those that are given, or the fault of the first one that has any, and then that of the first name
unfoldable pub guests_of : List Row → Result GuestLists SweepFault
guests_of rows = do
  minimums ← given_each Min rows
  shares ← given_each Shares rows
  _ ← names_checked Min minimums
  _ ← names_checked Shares shares
  Ok (record { minimums = map guest_list minimums; shares = map guest_list shares })

-- the lists of all keys, or the first fault, key by key
abbrev pub lists_of : List Row → Result ValueLists SweepFault
lists_of rows = do
  frames ← given Frames rows
  swap ← given Swap rows
  tax ← given Tax rows
  page_rate ← given PageRate rows
  rebalance ← given Rebalance rows
  min_percent ← given MinPercent rows
  guests ← guests_of rows
  Ok (record {
    frames = frames;
    swap = swap;
    tax = tax;
    page_rate = page_rate;
    rebalance = rebalance;
    min_percent = min_percent;
    minimums = guests.minimums;
    shares = guests.shares;
    seeds = seeds_of rows;
  })

-- ---- the values of each list

abbrev pub IsWithinLimits : SweptKey → Option (List ℕ) → Type 0
IsWithinLimits key list = IfSome list (All (IsWithin (limits_of key)))

pub record AreWithin (lists : ValueLists) : Type 0 where
  pub frames : IsWithinLimits Frames lists.frames
  pub swap : IsWithinLimits Swap lists.swap
  pub tax : IsWithinLimits Tax lists.tax
  pub page_rate : IsWithinLimits PageRate lists.page_rate
  pub rebalance : IsWithinLimits Rebalance lists.rebalance
  pub min_percent : IsWithinLimits MinPercent lists.min_percent

abbrev pub HasValue : Option (List ℕ) → Type 0
HasValue list = IfSome list (λ values. 1 ≤ length values)

pub record HaveValues (lists : ValueLists) : Type 0 where
  pub frames : HasValue lists.frames
  pub swap : HasValue lists.swap
  pub tax : HasValue lists.tax
  pub page_rate : HasValue lists.page_rate
  pub rebalance : HasValue lists.rebalance
  pub min_percent : HasValue lists.min_percent

-- ---- combinations

-- how many values a key has in turn: one that isn't given keeps its own
abbrev pub count_of : Option (List ℕ) → ℕ
count_of None = 1
count_of (Some values) = length values

-- how many combinations of values there are of lists for guests
abbrev pub count_each : List NamedList → ℕ
count_each [] = 1
count_each (list ∷ lists) = length list.values * count_each lists

-- how many lists for guests there are
abbrev pub guest_lists : ValueLists → ℕ
guest_lists lists = length lists.minimums + length lists.shares

-- combinations of values of all loops but frames and seeds: a drawing has a curve for each
abbrev pub curves : ValueLists → ℕ
curves lists =
    count_of lists.swap * count_of lists.tax * count_of lists.page_rate * count_of lists.rebalance * count_of lists.min_percent
    * count_each lists.minimums * count_each lists.shares

-- how often each combination is run
abbrev pub seed_count : Option ℕ → ℕ
seed_count seeds = unwrap_or seeds 1

-- the runs of all loops
abbrev pub runs : ValueLists → ℕ
runs lists = count_of lists.frames * curves lists * seed_count lists.seeds

-- the values of the frames that are given
abbrev pub machines : ValueLists → List ℕ
machines lists = unwrap_or lists.frames []
