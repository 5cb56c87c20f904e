-- Lists of values, and what each run of a sweep has in the place of its configuration's own.
use Rattle.std.specs.Prelude.{ℕ, true, false, List, [], ◌∷◌, ◌++◌, codes, map, Option, Some, None, All, IfSome, if◌then◌else◌, unwrap_or, ⊤}
use Rattle.std.specs.List.{flat_map, range_with_len}
use Rattle.std.specs.Option.{option_map}
use Rattle.vm_config.specs.declared.config.Config.{Config}
use Rattle.vm_config.specs.declared.settings.Setting.TheVariants.{Frames, Swap, Tax, PageRate, Rebalance}
use Rattle.vm_config.specs.Settings.{IsInRange}
use Rattle.vm_domains.specs.Domains.{position_of}
use Rattle.vm_sweep.specs.declared.variant.Looped.{Looped}
use Rattle.vm_sweep.specs.declared.variant.Looped.TheVariants.{Machine, Percent, Minimum, Shares, Seed}
use Rattle.vm_sweep.specs.declared.variant.Variant.{Variant}
use Rattle.vm_tally.specs.declared.table.Rebalancing.{Rebalancing}
use Rattle.vm_tally.specs.declared.table.Rebalancing.TheVariants.{Own, Swept}
use Rattle.vm_tally.specs.Combinations.{configured, values_of, with_value}
use Rattle.vm_variants.specs.Changes.{changed, no_change, IsPercent}
use Rattle.vm_variants.specs.declared.guest_setting.GuestSetting.{GuestSetting}
use Rattle.vm_variants.specs.declared.guest_setting.GuestSetting.TheVariants.{Min, Shares as OfShares}

-- values for the guest with a name
pub record NamedList : Type 0 where
  -- the bytes of the name
  pub name : List ℕ
  pub values : List ℕ

-- lists of values; what has no list keeps its own value
pub record ValueLists : Type 0 where
  pub frames : Option (List ℕ)
  pub swap : Option (List ℕ)
  pub tax : Option (List ℕ)
  pub page_rate : Option (List ℕ)
  pub rebalance : Option (List ℕ)
  -- of its size each guest has so much as its minimum, in percent
  pub min_percent : Option (List ℕ)
  -- the minimums and the shares of some guests
  pub minimums : List NamedList
  pub shares : List NamedList
  -- how many runs there are with other seeds, each with the rest the same
  pub seeds : Option ℕ

-- each value is one that a run may have
pub record HoldInRange (lists : ValueLists) : Type 0 where
  pub frames : IfSome lists.frames (All (IsInRange Frames))
  pub swap : IfSome lists.swap (All (IsInRange Swap))
  pub tax : IfSome lists.tax (All (IsInRange Tax))
  pub page_rate : IfSome lists.page_rate (All (IsInRange PageRate))
  pub rebalance : IfSome lists.rebalance (All (IsInRange Rebalance))
  pub min_percent : IfSome lists.min_percent (All IsPercent)

-- where the values of the rebalancing are from
abbrev pub rebalancing_by : Option (List ℕ) → Rebalancing
rebalancing_by None = Own
rebalancing_by (Some values) = Swept

abbrev pub rebalancing_of : ValueLists → Rebalancing
rebalancing_of lists = rebalancing_by lists.rebalance

-- ---- what a run has

-- with the configuration's own values
abbrev pub own_of : Config → Variant
own_of config = record { combination = values_of config; changes = no_change; is_seeded = false }

-- the same with this value for one of its numbers
abbrev pub with_looped : Looped → ℕ → Variant → Variant
with_looped (Machine setting) n v = record v { combination = with_value setting n v.combination }
with_looped Percent n v = record v { changes = record v.changes { percent = Some n } }
with_looped (Minimum place) n v =
    record v { changes = record v.changes { minimums = v.changes.minimums ++ record { place = place; value = n } ∷ [] } }
with_looped (Shares place) n v =
    record v { changes = record v.changes { shares = v.changes.shares ++ record { place = place; value = n } ∷ [] } }
with_looped Seed n v = record v { changes = record v.changes { added = n }; is_seeded = true }

-- this number of the guest at a place
abbrev pub looped_at : GuestSetting → (place : ℕ) → Looped
looped_at Min place = Minimum place
looped_at OfShares place = Shares place

-- it may have this value
abbrev pub Allows : Looped → ℕ → Type 0
Allows (Machine setting) = IsInRange setting
Allows Percent = IsPercent
Allows _ = λ n. ⊤

-- the configuration that is run
unfoldable pub varied : Variant → Config → Config
varied v config = changed v.changes (configured v.combination config)

-- ---- the runs of a sweep

-- one loop inside those that made these: each with each value, in order
abbrev pub spread_over : Looped → List ℕ → List Variant → List Variant
spread_over what values variants = flat_map (λ v. map (λ n. with_looped what n v) values) variants

abbrev pub spread : Looped → Option (List ℕ) → List Variant → List Variant
spread what None variants = variants
spread what (Some values) variants = spread_over what values variants

-- the place of the guest with the name; of no guest 0
abbrev pub place_in : Config → NamedList → ℕ
place_in config list = unwrap_or (position_of list.name config.domains) 0

-- a loop for each list, the first of them outermost
abbrev pub spread_each : GuestSetting → Config → List NamedList → List Variant → List Variant
spread_each setting config [] variants = variants
spread_each setting config (list ∷ lists) variants =
    spread_each setting config lists (spread_over (looped_at setting (place_in config list)) list.values variants)

-- four settings: swap outermost, then tax, page rate and rebalance
abbrev pub settings : ValueLists → List Variant → List Variant
settings lists variants =
    spread (Machine Rebalance) lists.rebalance (spread (Machine PageRate) lists.page_rate (spread (Machine Tax) lists.tax
    (spread (Machine Swap) lists.swap variants)))

-- the five settings: outside these the frames
abbrev pub machines : ValueLists → List Variant → List Variant
machines lists variants = settings lists (spread (Machine Frames) lists.frames variants)

-- of guests: the percentage, each list of minimums, each of shares
abbrev pub guests : ValueLists → Config → List Variant → List Variant
guests lists config variants =
    spread_each OfShares config lists.shares (spread_each Min config lists.minimums (spread Percent lists.min_percent variants))

-- all runs, as the loops have them: the five settings, guests, and innermost the seeds
unfoldable pub variants : ValueLists → Config → List Variant
variants lists config =
    spread Seed (option_map (range_with_len 0) lists.seeds) (guests lists config (machines lists (own_of config ∷ [])))

-- what differs on one machine with one seed: the loops but those of frames and seeds
unfoldable pub combinations : ValueLists → Config → List Variant
combinations lists config = guests lists config (settings lists (own_of config ∷ []))

-- all of these on each machine, the first machine first
abbrev pub on_machines : Option (List ℕ) → List Variant → List Variant
on_machines None variants = variants
on_machines (Some frames) variants = flat_map (λ f. map (λ v. with_looped (Machine Frames) f v) variants) frames

-- how many runs there are of each combination on a machine
abbrev pub seed_count : Option ℕ → ℕ
seed_count None = 1
seed_count (Some seeds) = seeds

-- ---- the columns of a table behind those of the five settings

abbrev pub listed : {A : Type 0} → Option A → List A
listed None = []
listed (Some x) = x ∷ []

-- a heading for each list, in the order of the loops
unfoldable pub headings : ValueLists → List (List ℕ)
headings lists =
    listed (option_map (λ _. codes "min_percent") lists.min_percent)
    ++ (map (λ l. codes "min " ++ l.name) lists.minimums
    ++ (map (λ l. codes "shares " ++ l.name) lists.shares ++ listed (option_map (λ _. codes "seed") lists.seeds)))

-- what is added to each seed, where the runs differ in that
abbrev pub seed_of : Variant → Option ℕ
seed_of v = if v.is_seeded then Some v.changes.added else None

-- the numbers of a run under them
abbrev pub numbers_of : Variant → List ℕ
numbers_of v =
    listed v.changes.percent ++ (map (λ m. m.value) v.changes.minimums ++ (map (λ m. m.value) v.changes.shares ++ listed (seed_of v)))
