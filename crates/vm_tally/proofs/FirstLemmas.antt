-- Of a run before its first epoch nothing is counted.
use Rattle.std.proofs.Common.{◌≡◌, ℕ, zero, suc, ◌+◌, List, [], ◌∷◌, None, length, map, refl, sym}
use Rattle.vm_config.specs.declared.config.Config.{Config}
use Rattle.vm_domains.specs.Domains.{configs_of, names_of}
use Rattle.vm_guest.specs.Config.{GuestConfig}
use Rattle.vm_guest.specs.Record.{GuestRecord, ballooned, saturated, steps_left}
use Rattle.vm_pool.specs.Guests.{guest_in, of_running}
use Rattle.vm_sim.specs.Course.{course_of}
use Rattle.vm_tally.specs.Counting.{sum_over}
use Rattle.vm_tally.specs.Counts.{swapped_of}
use Rattle.vm_tally.specs.Summary.{summary_after}
use Rattle.vm_tally.specs.Tally.{empty_summary}

pub no-guest : (configs : List GuestConfig) (position : ℕ) → guest_in (map (λ _. None) configs) position ≡ None
no-guest [] position = refl
no-guest (config ∷ configs) zero = refl
no-guest (config ∷ configs) (suc position) = no-guest configs position

none-counted : (number : GuestRecord → ℕ) (configs : List GuestConfig) (n : ℕ)
    → sum_over (λ p. of_running number (guest_in (map (λ _. None) configs) p)) n ≡ 0
none-counted number configs zero = refl
none-counted number configs (suc n) = λ i. none-counted number configs n i + of_running number (no-guest configs n i)

pub first_summary : (c : Config) → empty_summary c.machine.frames ≡ summary_after (course_of c) 0
unfolding summary_after
first_summary c =
    let none = λ (number : GuestRecord → ℕ). sym (none-counted number (configs_of c.domains) (length (names_of c.domains))) in
    λ i. record {
      high = 0;
      soft = 0;
      hard = 0;
      low = 0;
      least_free = c.machine.frames;
      no_memory = 0;
      no_swap = 0;
      revoked = 0;
      paged = 0;
      evicted = 0;
      granted = 0;
      rebalanced = 0;
      blocked = 0;
      stalls = 0;
      done = 0;
      left = saturated (none steps_left i);
      most_swapped = 0;
      swapped = none swapped_of i;
      balloon = none ballooned i;
      most_evicted = 0;
      worst = None;
    }
