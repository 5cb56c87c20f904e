-- A boundary that goes on while a worker holds a guest leaves another host: the guest's last epoch is not done.
-- In the run of one guest that executes one step in each epoch, worker 0 draws the guest, and the second boundary goes on.
use Rattle.std.proofs.Common.{◌≡◌, ◌≢◌, ℕ, zero, suc, Bool, true, false, ◌&&◌, cond, List, [], ◌∷◌, Some, None, refl, sym, ap, ◌∙◌, arith, subst}
use Rattle.std.specs.Prelude.{codes}
use Rattle.vm_board.specs.Rounds.{draw, Entry}
use Rattle.vm_board.proofs.Rounds.{each_all}
use Rattle.vm_plan.specs.Grants.{grants_up_to}
use Rattle.vm_plan.specs.Rebalancing.{rebalancing_list}
use Rattle.vm_reclaim.specs.Rebalance.{has_own_driver}
use Rattle.vm_plan.specs.Revocation.{revocation_list}
use Rattle.vm_commands.specs.Lines.{command_of, command_of_words, domain_command}
use Rattle.vm_balloon.specs.Service.{distinct}
use Rattle.vm_trace.specs.declared.step.Action.TheVariants.{Idle}
use Rattle.vm_trace.specs.Limits.{IsStep, IsWithin}
use Rattle.vm_guest.specs.Config.{IsWithinLimits}
use Rattle.vm_guest.specs.Record.{GuestRecord}
use Rattle.vm_domains.specs.Domains.{Domain}
use Rattle.vm_domains.specs.Machine.{MachineConfig}
use Rattle.vm_pool.specs.Guests.{Guests}
use Rattle.vm_runs.specs.Rounds.{RunEvent, work, boundary, Core, first_core, next_round, goes_on, core_after, GoesOnWhileHeld, LeavesAnotherHost, LawOfRuns}
use Rattle.vm_host.specs.World.{World}
use Rattle.vm_runs.specs.Course.{Run, guests_of, host_left, run_of}
use Rattle.vm_domains.specs.Limits.{AreWithinLimits}

abbrev one_domain : List Domain
one_domain = record {
  name = codes "a";
  config = record {
    size = 1;
    min = 1;
    shares = 1;
    samples = 1;
    period = 1;
    rate = 1;
    quantum = 1;
    seed = 0;
    stream = 0;
    tell = false;
    own_driver = true;
    page = 4;
    trace = Idle ∷ [];
  };
} ∷ []

abbrev one_frame : MachineConfig
one_frame = record { frames = 1; swap = 0; overhead = 0; tax = 0; percent = record { high = 0; soft = 0; hard = 0; low = 0 }; page_rate = 1; rebalance = 0; page = 4 }

-- the guest starts at the first boundary
abbrev first_lines : ℕ → List (List ℕ)
first_lines zero = codes "start a" ∷ []
first_lines (suc k) = []

within : AreWithinLimits one_domain
within = each_all (λ (d : Domain). IsWithinLimits d.config) one_domain (
  record {
    some_frames = omega arith;
    min_within = omega arith;
    few_pages = omega arith;
    some_shares = omega arith;
    few_shares = omega arith;
    some_samples = omega arith;
    few_samples = omega arith;
    some_period = omega arith;
    short_period = omega arith;
    some_rate = omega arith;
    low_rate = omega arith;
    some_quantum = omega arith;
    short_quantum = omega arith;
    seed_fits = omega arith;
    stream_fits = omega arith;
    page_from = omega arith;
    page_to = omega arith;
    short_trace = omega arith;
    steps = each_all (IsWithin 1) (Idle ∷ []) (tt, tt);
    bounded = each_all IsStep (Idle ∷ []) (record { page = tt; bytes = tt }, tt);
  },
  tt,
)

abbrev run : Run
run = run_of one_frame one_domain first_lines 2

abbrev events : List RunEvent
events = boundary ∷ work (draw 0) ∷ boundary ∷ []

-- worker 0 holds the guest
abbrev held : Core
held = goes_on (λ _. true) run (work (draw 0)) (next_round run (first_core run))

-- the place of the first guest in its trace
abbrev place : Guests → ℕ
place [] = 0
place (None ∷ guests) = 0
place (Some g ∷ guests) = g.progress.position

differ : (a b : ℕ) → a ≡ 0 → b ≡ 1 → a ≢ b
differ a b none one same = omega arith

not_the_same : (next_round run held).host ≢ host_left run 2
unfolding grants_up_to rebalancing_list has_own_driver revocation_list command_of command_of_words domain_command distinct
not_the_same same = differ (place (guests_of (next_round run held).host)) (place (guests_of (host_left run 2))) refl refl (ap (λ (w : World). place (guests_of w)) same)

module _ (is_over : List (Entry GuestRecord) → Bool) (while_held : GoesOnWhileHeld is_over) where
  goes-on : core_after is_over run events ≡ next_round run held
  unfolding grants_up_to rebalancing_list has_own_driver revocation_list command_of command_of_words domain_command
  goes-on =
      ap (λ b. core_after_two (cond (b && true) (next_round run (first_core run)) (first_core run))) (while_held.all_are_done [] refl)
      ∙ ap (λ b. cond (b && true) (next_round run held) held) (while_held.one_is_held held.round 0 refl)
    where
      core_after_two : Core → Core
      core_after_two core = goes_on is_over run boundary (goes_on is_over run (work (draw 0)) core)

  pub leaves_another : LeavesAnotherHost is_over
  leaves_another = record {
    machine = one_frame;
    is_machine = record {
      some_frames = omega arith;
      few_frames = omega arith;
      small_swap = omega arith;
      small_overhead = omega arith;
      part_taxed = omega arith;
      falling = record { high = omega arith; soft = omega arith; hard = omega arith; low = omega arith };
      some_paging = omega arith;
      slow_paging = omega arith;
      few_moves = omega arith;
      page_from = omega arith;
      page_to = omega arith;
    };
    domains = one_domain;
    limits = within;
    few = omega arith;
    lines = first_lines;
    epochs = 2;
    events = events;
    other = subst (λ (core : Core). core.host ≢ host_left run core.boundaries) (sym goes-on) not_the_same;
  }

  pub no_law : LawOfRuns is_over → ⊥
  no_law law =
      let another = leaves_another in
      let right = law another.machine another.domains another.lines another.epochs another.events another.is_machine another.limits another.few in
      another.other right.host
