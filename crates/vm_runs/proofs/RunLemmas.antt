-- The runs of a host are served: each boundary and each epoch keeps the host sound, and each guest written by its history.
use Rattle.std.proofs.Common.{◌≡◌, ◌∙◌, ℕ, zero, suc, ◌≤◌, List, [], ◌∷◌, ◌++◌, map, None, refl, sym, ap, subst}
use Rattle.vm_board.specs.Values.{values}
use Rattle.vm_domains.specs.Domains.{Domain, configs_of}
use Rattle.vm_domains.specs.Machine.{MachineConfig}
use Rattle.vm_guest.specs.Config.{GuestConfig}
use Rattle.vm_guest.specs.Epoch.{epoch}
use Rattle.vm_guest.specs.Good.{HasNothingPosted, IsSound}
use Rattle.vm_guest.specs.Happenings.{Happening, epoch_happenings, reads_by, IsWrittenBy}
use Rattle.vm_guest.specs.Record.{GuestRecord}
use Rattle.vm_host.specs.Boundary.{past_boundary, past_boundary_by}
use Rattle.vm_host.specs.Epoch.{after_epoch}
use Rattle.vm_host.specs.History.{history_after_epoch}
use Rattle.vm_host.specs.Sound.{IsSoundWorld}
use Rattle.vm_host.specs.World.{World, first_world}
use Rattle.vm_pool.specs.Pool.{EachGuest}
use Rattle.vm_reclaim.specs.Policy.{Policy, policy_of}
use Rattle.vm_runs.proofs.BoundedLemmas.{IsGiven, bounded-given, given-ordered}
use Rattle.vm_runs.proofs.FoldLemmas.{machine-after}
use Rattle.vm_runs.proofs.HistoryLemmas.{at_position, none_there}
use Rattle.vm_runs.specs.Course.{Run, guests_of, history_after, history_left, host_after, host_left, no_history, run_of}
use Rattle.vm_runs.specs.Served.{IsHost, IsServed}
use Rattle.vm_sound.specs.Written.{History, happenings_at, AreAll, IsKnown, IsOrdered}
use Rattle.vm_sound.proofs.BooksLemmas.{books-epoch}
use Rattle.vm_sound.proofs.FramesLemmas.{conserves-epoch}
use Rattle.vm_sound.proofs.SoundPoolLemmas.{sound-epoch}
use Rattle.vm_sound.proofs.ToldLemmas.{known-of, told-epoch}

-- ---- an epoch

epoch-sound : (w : World) → EachGuest HasNothingPosted w.pool → IsSoundWorld w → IsSoundWorld (after_epoch w)
epoch-sound w served sound =
    let books = books-epoch w.machine w.pool in
    record {
      machine = sound.machine;
      named = sound.named;
      pool = sound-epoch w.pool served sound.pool;
      frames_are = sound.frames_are;
      overhead = sound.overhead;
      conserves = conserves-epoch w.pool (sound.conserves ∙ sym sound.frames_are) ∙ sound.frames_are;
      frames = subst (λ n. n ≤ w.machine.frames) (sym (ap (λ books. books.memory) books)) sound.frames;
      swap = subst (λ n. n ≤ w.machine.swap) (sym (ap (λ books. books.reserved) books)) sound.swap;
      served = λ ready. absurd (cc);
    }

epoch-known : (w : World) (h : History) → IsSoundWorld w → IsGiven w h → AreAll IsKnown (guests_of (after_epoch w)) (history_after_epoch (guests_of w) h)
epoch-known w h sound given =
    let pool = sound.pool in
    let after = sound-epoch w.pool given.served pool in
    known-of (guests_of (after_epoch w)) (history_after_epoch (guests_of w) h) after.good (told-epoch w.pool h pool.good given.served given.written)

-- ---- before the first boundary

none-all : (P : List Happening → GuestRecord → Type 0) (configs : List GuestConfig) → AreAll P (map (λ _. None) configs) (no_history (map (λ _. None) configs))
none-all P [] = tt
none-all P (c ∷ configs) = (tt, none-all P configs)

none-runs : (configs : List GuestConfig) → values {X = GuestRecord} (map (λ _. None) configs) ≡ []
none-runs [] = refl
none-runs (c ∷ configs) = none-runs configs

-- ---- a run

-- what is known of an epoch's reads
abbrev pub EpochLaw : Type 0
EpochLaw = (g : GuestRecord) (before : List Happening) → IsSound g → HasNothingPosted g → IsWrittenBy before g
    → IsSound (epoch g) × IsWrittenBy (before ++ epoch_happenings g) (epoch g) × ((epoch g).reads ≡ g.reads ++ reads_by before (epoch_happenings g))

epoch-reads : EpochLaw → (before : List Happening) (g : GuestRecord) → IsOrdered before g → (epoch g).reads ≡ reads_by before (epoch_happenings g)
epoch-reads law before g ordered =
    let good = ordered.good in
    let now = law g before good.sound ordered.nothing_posted ordered.written in
    now.2 ∙ ap (λ reads. reads ++ reads_by before (epoch_happenings g)) ordered.no_reads

-- what a boundary finds
record IsFound (w : World) (h : History) : Type 0 where
  sound : IsSoundWorld w
  known : AreAll IsKnown (guests_of w) h

-- what is known of a boundary
abbrev pub BoundaryLaw : Type 0
BoundaryLaw = (w : World) (lines : List (List ℕ)) → IsSoundWorld w → IsSoundWorld (past_boundary w lines)

module _ (boundary : BoundaryLaw) (machine : MachineConfig) (domains : List Domain) (lines : ℕ → List (List ℕ)) (epochs : ℕ) (first : IsSoundWorld (first_world machine domains)) where
  abbrev policy : Policy
  policy = policy_of machine

  abbrev run : Run
  run = run_of machine domains lines epochs

  left-sound : (k : ℕ) → IsSoundWorld (host_after run k) → IsSoundWorld (host_left run (suc k))
  left-sound k sound =
      subst (λ (m : MachineConfig). IsSoundWorld (past_boundary_by (policy_of m) (host_after run k) (lines k))) (machine-after machine domains lines epochs policy k)
      (boundary (host_after run k) (lines k) sound)

  left-given : (k : ℕ) → IsFound (host_after run k) (history_after run k) → IsGiven (host_left run (suc k)) (history_left run (suc k))
  left-given k found = bounded-given policy (host_after run k) (lines k) (history_after run k) found.sound found.known

  found-each : (k : ℕ) → IsFound (host_after run k) (history_after run k)
  found-each zero = record { sound = first; known = none-all IsKnown (configs_of domains) }
  found-each (suc k) =
      let found = found-each k in
      let left = left-sound k found.sound in
      let given = left-given k found in
      record {
        sound = epoch-sound (host_left run (suc k)) given.served left;
        known = epoch-known (host_left run (suc k)) (history_left run (suc k)) left given;
      }

  left-each : (k : ℕ) → IsHost IsOrdered (host_left run k) (history_left run k)
  left-each zero = record {
    conserves = first.conserves;
    guests = λ position g at. absurd (none_there (guests_of run.first) position g (none-runs (configs_of domains)) at);
  }
  left-each (suc k) =
      let w = host_left run (suc k) in
      let h = history_left run (suc k) in
      let found = found-each k in
      let left = left-sound k found.sound in
      record { conserves = left.conserves; guests = at_position IsOrdered (guests_of w) h (given-ordered w h left (left-given k found)) }

  after-each : (k : ℕ) → IsHost IsKnown (host_after run k) (history_after run k)
  after-each k =
      let found = found-each k in
      let sound = found.sound in
      record { conserves = sound.conserves; guests = at_position IsKnown (guests_of (host_after run k)) (history_after run k) found.known }

  pub run-served : EpochLaw → IsServed run
  run-served law = record {
    none_runs = none-runs (configs_of domains);
    waits = refl;
    sound = λ k. (let found = found-each k in found.sound);
    left_right = left-each;
    after_right = after-each;
    reads = λ k position g at. (let now = left-each k in epoch-reads law (happenings_at (history_left run k) position) g (now.guests position g at));
  }
