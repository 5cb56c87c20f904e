-- What a run keeps of a host.
use Rattle.std.proofs.Common.{◌≡◌, ℕ, zero, suc, List, Option, Result, Ok, Err, IfOk, OnOk, OnErr, refl, ap, ◌∙◌, subst}
use Rattle.vm_host.proofs.KeptLemmas.{configs-bounded, machine-bounded, names-bounded}
use Rattle.vm_host.specs.declared.boundary.Boundary.{Boundary}
use Rattle.vm_host.specs.World.{World, first_world}
use Rattle.vm_runs.specs.Course.{Run, host_after, host_left}
use Rattle.vm_config.specs.declared.config.Config.{Config}
use Rattle.std.specs.Io.KnownBytes.{Appends}
use Rattle.vm_streams.specs.Streams.{AppendsFront}
use Rattle.vm_reclaim.specs.Policy.{policy_of}
use Rattle.vm_sim.specs.Calendar.{RunAgenda, course_asked}
use Rattle.vm_sim.specs.declared.agenda.Agenda.{Agenda}
use Rattle.vm_sim.specs.Course.{after_boundary, agenda_of, course_from, lines_for, next_world, boundary_of_lines, world_after}
use Rattle.vm_sim.specs.Report.{report_in, report_of, report_at, report_of_epoch}

pub machine-in : (course : Run) (k : ℕ) → (host_after course k).machine ≡ course.first.machine
machine-in course zero = refl
machine-in course (suc k) = machine-bounded course.policy (host_after course k) (course.lines k) ∙ machine-in course k

names-in : (course : Run) (k : ℕ) → (host_after course k).names ≡ course.first.names
names-in course zero = refl
names-in course (suc k) = names-bounded course.policy (host_after course k) (course.lines k) ∙ names-in course k

configs-in : (course : Run) (k : ℕ) → (host_after course k).pool.configs ≡ course.first.pool.configs
configs-in course zero = refl
configs-in course (suc k) = configs-bounded course.policy (host_after course k) (course.lines k) ∙ configs-in course k

-- what a host is set up from, as the run began with it
pub record IsSetUpAs (first w : World) : Type 0 where
  pub machine : w.machine ≡ first.machine
  pub names : w.names ≡ first.names
  pub configs : w.pool.configs ≡ first.pool.configs

pub setup-in : (course : Run) (k : ℕ) → IsSetUpAs course.first (host_after course k)
setup-in course k = record { machine = machine-in course k; names = names-in course k; configs = configs-in course k }

-- the same of the host that a boundary leaves
pub setup-left : (course : Run) (k : ℕ) → IsSetUpAs course.first (host_left course (suc k))
setup-left course k =
    let w = host_after course k in
    record {
      machine = machine-bounded course.policy w (course.lines k) ∙ machine-in course k;
      names = names-bounded course.policy w (course.lines k) ∙ names-in course k;
      configs = configs-bounded course.policy w (course.lines k) ∙ configs-in course k;
    }

-- ---- a host decides by the numbers of its machine, and its domains keep their names

module _ (epochs : ℕ) (agenda : Agenda) (first : World) where
  abbrev course : Run
  course = course_from epochs agenda first

  policy_kept : (k : ℕ) (w : World) → w ≡ host_after course k → policy_of w.machine ≡ policy_of first.machine
  policy_kept k w is = ap (λ (v : World). policy_of v.machine) is ∙ ap policy_of (machine-in course k)

  lines_kept : (k : ℕ) (w : World) → w ≡ host_after course k → lines_for w.names agenda k ≡ lines_for first.names agenda k
  lines_kept k w is =
      ap (λ (v : World). lines_for v.names agenda k) is
      ∙ ap (λ (names : List (List ℕ)). lines_for names agenda k) (names-in course k)

  -- the host that the boundary before the next epoch leaves
  pub bound_in_course : (k : ℕ) (w next : World) → w ≡ host_after course k
      → next ≡ after_boundary (policy_of w.machine) (lines_for w.names agenda k) w → next ≡ host_left course (suc k)
  unfolding after_boundary
  bound_in_course k w next is bound =
      bound ∙ λ i. after_boundary (policy_kept k w is i) (lines_kept k w is i) (is i)

  -- and what it tells
  pub boundary_in_course : (k : ℕ) (w : World) (told : Boundary) → w ≡ host_after course k
      → told ≡ boundary_of_lines (policy_of w.machine) (lines_for w.names agenda k) w
      → told ≡ boundary_of_lines (policy_of first.machine) (lines_for first.names agenda k) (host_after course k)
  boundary_in_course k w told is tells =
      tells ∙ λ i. boundary_of_lines (policy_kept k w is i) (lines_kept k w is i) (is i)

  -- the host after one epoch more
  pub next_in_course : (k : ℕ) (w next : World) → w ≡ host_after course k
      → next ≡ next_world (policy_of w.machine) (lines_for w.names agenda k) w → next ≡ host_after course (suc k)
  unfolding after_boundary
  next_in_course k w next is after =
      after ∙ λ i. next_world (policy_kept k w is i) (lines_kept k w is i) (is i)

  -- what is told of it
  pub told_in_course : (k : ℕ) (w : World) → w ≡ host_after course k
      → report_of_epoch k (policy_of w.machine) (lines_for w.names agenda k) w ≡ report_at course k
  told_in_course k w is = λ i. report_of_epoch k (policy_kept k w is i) (lines_kept k w is i) (is i)

-- ---- a new host has the course of its configuration

module _ (c : Config) (asked : RunAgenda) (asks : asked ≡ record { agenda = agenda_of c; epochs = c.epochs }) (w : World) (is : w ≡ first_world c.machine c.domains) where
  pub world_of_new : (host : World) → host ≡ host_after (course_asked asked w) asked.epochs → host ≡ world_after c c.epochs
  world_of_new host after = after ∙ λ i. host_after (course_asked (asks i) (is i)) (asks i).epochs

  report_of_new : report_in (course_asked asked w) ≡ report_of c
  report_of_new = λ i. report_in (course_asked (asks i) (is i))

  pub written_of_new : (x y : Option (List ℕ)) → Appends x y (report_in (course_asked asked w)) → Appends x y (report_of c)
  written_of_new x y written = subst (λ (text : List ℕ). Appends x y text) report_of_new written

  pub front_of_new : (x y : Option (List ℕ)) → AppendsFront x y (report_in (course_asked asked w)) → AppendsFront x y (report_of c)
  front_of_new x y front = subst (λ (text : List ℕ). AppendsFront x y text) report_of_new front

  -- the same of a run that may have failed
  pub world_of_run : {E : Type 0} (r : Result World E) → IfOk r (λ host. host ≡ host_after (course_asked asked w) asked.epochs)
      → IfOk r (λ host. host ≡ world_after c c.epochs)
  world_of_run (Ok host) after = world_of_new host after
  world_of_run (Err e) after = tt

  pub written_of_run : {T E : Type 0} (r : Result T E) (x y : Option (List ℕ)) → OnOk r (Appends x y (report_in (course_asked asked w)))
      → IfOk r (λ _. Appends x y (report_of c))
  written_of_run (Ok host) x y written = written_of_new x y written
  written_of_run (Err e) x y written = tt

  pub front_of_run : {T E : Type 0} (r : Result T E) (x y : Option (List ℕ)) → OnErr r (AppendsFront x y (report_in (course_asked asked w)))
      → OnErr r (AppendsFront x y (report_of c))
  front_of_run (Ok host) x y front = tt
  front_of_run (Err e) x y front = front_of_new x y front
