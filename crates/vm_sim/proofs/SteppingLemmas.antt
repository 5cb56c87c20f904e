-- A run that goes on by a boundary or an epoch stays the run of its configuration.
use Rattle.std.proofs.Common.{◌≡◌, ℕ, zero, suc, ◌+◌, List, [], ◌∷◌, refl, ap, ◌∙◌, add-one}
use Rattle.vm_config.specs.declared.config.Config.{Config}
use Rattle.vm_domains.specs.Domains.{Domain, configs_of, domains_of, names_of}
use Rattle.vm_host.specs.declared.boundary.Boundary.{Boundary}
use Rattle.vm_host.specs.declared.phase.Phase.{Phase}
use Rattle.vm_host.specs.declared.phase.Phase.TheVariants.{Waiting, Ready, Failed}
use Rattle.vm_host.specs.Epoch.{after_epoch}
use Rattle.vm_host.specs.World.{World, first_world}
use Rattle.vm_reclaim.specs.Policy.{policy_of}
use Rattle.vm_sim.specs.Course.{after_boundary, agenda_of, boundary_at, course_of, lines_for, ready_world, boundary_of_lines, world_after}
use Rattle.vm_sim.specs.Stepping.{RunState, run_after, run_ready}
use Rattle.vm_sim.proofs.CourseLemmas.{bound_in_course, boundary_in_course, setup-in, setup-left, IsSetUpAs}

-- ---- a boundary

-- the host that the boundary of a run leaves
host_bound : RunState → World
host_bound run = after_boundary (policy_of run.host.machine) (lines_for run.host.names run.agenda run.done) run.host

pub ready_run : (c : Config) (k : ℕ) (old : RunState) (host : World) → old ≡ run_after c k
    → host ≡ after_boundary (policy_of old.host.machine) (lines_for old.host.names old.agenda old.done) old.host
    → record old { host = host } ≡ run_ready c k
unfolding host_bound
ready_run c k old host is bound =
    let ready : host ≡ ready_world c k =
    bound_in_course c.epochs (agenda_of c) (first_world c.machine c.domains) k (world_after c k) host refl (bound ∙ ap host_bound is) in
    λ i. record { host = ready i; agenda = (is i).agenda; epochs = (is i).epochs; done = (is i).done }

-- what it tells
told_bound : RunState → Boundary
told_bound run = boundary_of_lines (policy_of run.host.machine) (lines_for run.host.names run.agenda run.done) run.host

pub told_run : (c : Config) (k : ℕ) (old : RunState) (told : Boundary) → old ≡ run_after c k
    → told ≡ boundary_of_lines (policy_of old.host.machine) (lines_for old.host.names old.agenda old.done) old.host → told ≡ boundary_at c k
unfolding told_bound
told_run c k old told is tells =
    boundary_in_course c.epochs (agenda_of c) (first_world c.machine c.domains) k (world_after c k) told refl (tells ∙ ap told_bound is)

-- ---- an epoch

pub next_run : (c : Config) (k : ℕ) (old : RunState) (host : World) → old ≡ run_ready c k → host ≡ after_epoch old.host
    → record old { host = host; done = old.done + 1 } ≡ run_after c (suc k)
next_run c k old host is next =
    let after : host ≡ world_after c (suc k) = next ∙ ap (λ (run : RunState). after_epoch run.host) is in
    λ i. record { host = after i; agenda = (is i).agenda; epochs = (is i).epochs; done = (ap (λ (run : RunState). run.done + 1) is ∙ add-one k) i }

-- a run whose epoch is done waits for a boundary
pub run_waits : (c : Config) (k : ℕ) → (run_after c k).host.phase ≡ Waiting
run_waits c zero = refl
run_waits c (suc k) = refl

-- a host of which it isn't said that it waits for none waits for a boundary
pub waits-else : (phase : Phase) → ((phase ≡ Waiting → ⊥) → ⊥) → phase ≡ Waiting
waits-else Waiting waits = refl
waits-else Ready waits = absurd (waits (λ is. absurd cc))
waits-else Failed waits = absurd (waits (λ is. absurd cc))

-- ---- what comes back at the end

domains_back : (domains : List Domain) → domains_of (names_of domains) (configs_of domains) ≡ domains
domains_back [] = refl
domains_back (domain ∷ domains) = ap (λ rest. domain ∷ rest) (domains_back domains)

-- the configuration that is made of what a run has at its end
abbrev pub config_of_run : RunState → Config
config_of_run run = record {
  machine = run.host.machine;
  epochs = run.epochs;
  domains = domains_of run.host.names run.host.pool.configs;
  autostart = run.agenda.autostart;
  commands = run.agenda.commands;
}

config_of_setup : (c : Config) (w : World) → IsSetUpAs (first_world c.machine c.domains) w
    → record { machine = w.machine; epochs = c.epochs; domains = domains_of w.names w.pool.configs; autostart = c.autostart; commands = c.commands } ≡ c
config_of_setup c w setup = λ i. record {
  machine = setup.machine i;
  epochs = c.epochs;
  domains = ((λ j. domains_of (setup.names j) (setup.configs j)) ∙ domains_back c.domains) i;
  autostart = c.autostart;
  commands = c.commands;
}

pub back_after : (c : Config) (k : ℕ) (run : RunState) → run ≡ run_after c k → config_of_run run ≡ c
back_after c k run is = ap config_of_run is ∙ config_of_setup c (world_after c k) (setup-in (course_of c) k)

pub back_ready : (c : Config) (k : ℕ) (run : RunState) → run ≡ run_ready c k → config_of_run run ≡ c
back_ready c k run is = ap config_of_run is ∙ config_of_setup c (ready_world c k) (setup-left (course_of c) k)
