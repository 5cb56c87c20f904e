-- The lines of each boundary, and the course of a configuration.
use Rattle.std.specs.Prelude.{ℕ, zero, suc, ◌==◌, Bool, true, false, List, [], ◌∷◌, ◌++◌, codes, if◌then◌else◌}
use Rattle.vm_config.specs.declared.config.Config.{Config}
use Rattle.vm_config.specs.Schedule.{ScheduledLine}
use Rattle.vm_host.specs.declared.boundary.Boundary.{Boundary}
use Rattle.vm_host.specs.Boundary.{past_boundary_by, boundary_done}
use Rattle.vm_host.specs.Epoch.{after_epoch}
use Rattle.vm_host.specs.World.{World, first_world}
use Rattle.vm_reclaim.specs.Policy.{Policy, policy_of}
use Rattle.vm_runs.specs.Course.{Run, host_after, host_left}
use Rattle.vm_sim.specs.declared.agenda.Agenda.{Agenda}

-- ---- the lines of a boundary

-- the line that starts a domain (virsh start)
abbrev pub start_line : List ℕ → List ℕ
start_line name = codes "start " ++ name

-- the lines that start the domains that start by themselves (virsh autostart)
abbrev pub autostart_lines : List (List ℕ) → List Bool → List (List ℕ)
autostart_lines (name ∷ names) (true ∷ flags) = start_line name ∷ autostart_lines names flags
autostart_lines (name ∷ names) (false ∷ flags) = autostart_lines names flags
autostart_lines (name ∷ names) [] = []
autostart_lines [] flags = []

-- the lines of an epoch, in the order of the configuration
abbrev pub lines_of_epoch : ℕ → List ScheduledLine → List (List ℕ)
lines_of_epoch k [] = []
lines_of_epoch k (scheduled ∷ later) =
    if scheduled.at == k then scheduled.line ∷ lines_of_epoch k later else lines_of_epoch k later

-- the lines of the boundary before epoch k, for domains of these names
abbrev pub lines_for : List (List ℕ) → Agenda → ℕ → List (List ℕ)
lines_for names agenda zero = autostart_lines names agenda.autostart ++ lines_of_epoch 0 agenda.commands
lines_for names agenda (suc k) = lines_of_epoch (suc k) agenda.commands

-- ---- a boundary and an epoch

-- the host after a boundary with these lines
unfoldable pub after_boundary : Policy → List (List ℕ) → World → World
after_boundary policy lines w = past_boundary_by policy w lines

-- what that boundary did
unfoldable pub boundary_of_lines : Policy → List (List ℕ) → World → Boundary
boundary_of_lines policy lines w = boundary_done policy w lines

-- the host after a boundary with these lines, and its epoch
abbrev pub next_world : Policy → List (List ℕ) → World → World
next_world policy lines w = after_epoch (after_boundary policy lines w)

-- ---- a configuration

-- the course of a host that decides by the numbers of its machine
abbrev pub course_from : ℕ → Agenda → World → Run
course_from epochs agenda w = record {
  policy = policy_of w.machine;
  lines = lines_for w.names agenda;
  first = w;
  epochs = epochs;
}

-- what a configuration asks
abbrev pub agenda_of : Config → Agenda
agenda_of c = record { autostart = c.autostart; commands = c.commands }

-- the course of a configuration
abbrev pub course_of : Config → Run
course_of c = course_from c.epochs (agenda_of c) (first_world c.machine c.domains)

-- the same by another policy
abbrev pub course_by : Policy → Config → Run
course_by policy c = record (course_of c) { policy = policy }

-- the lines of the boundary before epoch k
abbrev pub lines_at : Config → ℕ → List (List ℕ)
lines_at c k = (course_of c).lines k

-- the host after so many epochs
abbrev pub world_after : Config → ℕ → World
world_after c k = host_after (course_of c) k

-- the host that the boundary before epoch k leaves
abbrev pub ready_world : Config → ℕ → World
ready_world c k = host_left (course_of c) (suc k)

-- what the boundary before epoch k did
abbrev pub boundary_at : Config → ℕ → Boundary
boundary_at c k = boundary_of_lines (policy_of c.machine) (lines_at c k) (world_after c k)
