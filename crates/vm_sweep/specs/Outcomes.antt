-- What is told of runs.
use Rattle.std.specs.Prelude.{◌≡◌, ℕ, List, string_bytes}
use Rattle.vm_config.specs.declared.config.Config.{Config}
use Rattle.vm_domains.specs.Domains.{names_of}
use Rattle.vm_sweep.specs.declared.outcome.Detail.{Detail}
use Rattle.vm_sweep.specs.declared.outcome.Detail.TheVariants.{Run, EachGuest}
use Rattle.vm_sweep.specs.declared.outcome.Outcome.{Outcome}
use Rattle.vm_sweep.specs.declared.outcome.Outcome.TheVariants.{InNumbers, AsRecords}
use Rattle.vm_sweep.specs.Combinations.{numbers_of}
use Rattle.vm_sweep.specs.declared.variant.Variant.{Variant}
use Rattle.vm_tally.specs.declared.table.Rebalancing.{Rebalancing}
use Rattle.vm_tally.specs.GuestSummary.{guest_summaries_of}
use Rattle.vm_tally.specs.GuestTable.{guest_records}
use Rattle.vm_tally.specs.Summary.{summary_of}

-- where the values of the rebalancing are from
abbrev pub rebalancing_in : Detail → Rebalancing
rebalancing_in (Run rebalancing) = rebalancing
rebalancing_in (EachGuest rebalancing) = rebalancing

-- the records of the guests of the run of a configuration that has this in the place of its own, each with the name of its guest
abbrev pub guest_records_of : Rebalancing → Variant → Config → List ℕ
guest_records_of rebalancing v config =
    guest_records rebalancing v.combination (numbers_of v) (names_of config.domains) (guest_summaries_of config)

-- this is told of that run
abbrev pub Tells : Detail → Variant → Config → Outcome → Type 0
Tells (Run rebalancing) variant config (InNumbers summary) = summary ≡ summary_of config
Tells (EachGuest rebalancing) variant config (AsRecords text) = string_bytes text ≡ guest_records_of rebalancing variant config
Tells _ variant config _ = ⊥
