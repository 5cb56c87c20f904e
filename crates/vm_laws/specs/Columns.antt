-- Which lines of a report a number of a run adds up, and what each of them counts.
use Rattle.std.specs.Prelude.{◌≡◌, ℕ, Bool}
use Rattle.vm_config.specs.declared.config.Config.{Config}
use Rattle.vm_guest.specs.Record.{saturated}
use Rattle.vm_host.specs.declared.boundary.Refusal.{Refusal}
use Rattle.vm_plan.specs.declared.state.State.{State}
use Rattle.vm_tally.specs.Counting.{one_if, sum_each}
use Rattle.vm_tally.specs.Counts.{is_for_frames, is_for_swap, is_hard, is_high, is_low, is_refused, is_soft}
use Rattle.vm_tally.specs.Summary.{summary_of}
use Rattle.vm_laws.specs.ReportLines.{ReportLine, lines_of}
use Rattle.vm_laws.specs.ReportLines.ReportLine.{Answer, Block, Found, Grant, Guest, Page, Rebalance, Revoke, Stall}

-- 1 for each `state` line with such a state
abbrev pub found : (State → Bool) → ReportLine → ℕ
found is_such (Found state free) = one_if (is_such state)
found is_such _ = 0

-- 1 for each answer that is a refusal for such a cause
abbrev pub refusing : (Refusal → Bool) → ReportLine → ℕ
refusing cause (Answer outcome) = one_if (is_refused cause outcome)
refusing cause _ = 0

-- the number of each `revoke` line
abbrev pub revoking : ReportLine → ℕ
revoking (Revoke name count) = count
revoking _ = 0

-- of each `page` line
abbrev pub paging : ReportLine → ℕ
paging (Page name count) = count
paging _ = 0

-- of each `grant` line
abbrev pub granting : ReportLine → ℕ
granting (Grant name count) = count
granting _ = 0

-- of each `rebalance` line
abbrev pub rebalancing : ReportLine → ℕ
rebalancing (Rebalance name count) = count
rebalancing _ = 0

-- 1 for each `block` line
abbrev pub blocking : ReportLine → ℕ
blocking (Block name) = 1
blocking _ = 0

-- 1 for each `stall` line
abbrev pub stalling : ReportLine → ℕ
stalling (Stall name page) = 1
stalling _ = 0

-- the pages in swap of each line of a guest at the end
abbrev pub swapped_at_end : ReportLine → ℕ
swapped_at_end (Guest name view) = view.swapped
swapped_at_end _ = 0

-- its pages in the balloon
abbrev pub balloon_at_end : ReportLine → ℕ
balloon_at_end (Guest name view) = view.balloon
balloon_at_end _ = 0

-- what the lines of the report of a configuration count, added up
abbrev pub added_up : (ReportLine → ℕ) → Config → ℕ
added_up number c = sum_each number (lines_of c)

-- the numbers of a run that its report has too are what adding up its lines gives; a sum stops at the greatest number of 64 bits
pub record AddsUpLines (c : Config) : Type 0 where
  pub high : (summary_of c).high ≡ saturated (added_up (found is_high) c)
  pub soft : (summary_of c).soft ≡ saturated (added_up (found is_soft) c)
  pub hard : (summary_of c).hard ≡ saturated (added_up (found is_hard) c)
  pub low : (summary_of c).low ≡ saturated (added_up (found is_low) c)
  pub no_memory : (summary_of c).no_memory ≡ saturated (added_up (refusing is_for_frames) c)
  pub no_swap : (summary_of c).no_swap ≡ saturated (added_up (refusing is_for_swap) c)
  pub revoked : (summary_of c).revoked ≡ saturated (added_up revoking c)
  pub paged : (summary_of c).paged ≡ saturated (added_up paging c)
  pub granted : (summary_of c).granted ≡ saturated (added_up granting c)
  pub rebalanced : (summary_of c).rebalanced ≡ saturated (added_up rebalancing c)
  pub blocked : (summary_of c).blocked ≡ saturated (added_up blocking c)
  pub stalls : (summary_of c).stalls ≡ saturated (added_up stalling c)
  pub swapped : (summary_of c).swapped ≡ added_up swapped_at_end c
  pub balloon : (summary_of c).balloon ≡ added_up balloon_at_end c
