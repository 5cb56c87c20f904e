-- What no boundary changes: for callers.
use Rattle.std.proofs.Common.{◌≡◌, ◌∙◌, ℕ, List, [], ◌∷◌, None, Result, Ok, Err, refl}
use Rattle.vm_commands.specs.declared.command.Command.{Command}
use Rattle.vm_commands.specs.declared.command.Command.TheVariants.{Start, Destroy, SetMemory, SetMinimum, SetShares, ShowStatistics}
use Rattle.vm_host.specs.declared.boundary.Refusal.{Refusal}
use Rattle.vm_host.specs.declared.phase.Phase.TheVariants.{Ready}
use Rattle.vm_host.specs.Boundary.{past_boundary_by, finished, opened_boundary, with_state_found}
use Rattle.vm_host.specs.Commands.{after_line, after_lines, decided, obeyed_by}
use Rattle.vm_host.specs.Decisions.{Admitted, decision_on_line}
use Rattle.vm_host.proofs.SetupLemmas.{setup-balanced}
use Rattle.vm_pool.specs.Pool.{PoolView}
use Rattle.vm_reclaim.specs.Policy.{Policy}
use Rattle.vm_reclaim.specs.Reclaim.{blocks_in}
use Rattle.vm_reclaim.specs.Room.{lacking_at, needed_to_start, raise_to, room_made}
use Rattle.vm_reclaim.proofs.RoomLemmas.{kept_room}
use Rattle.vm_sound.proofs.FramesLemmas.{setup-started}
use Rattle.vm_tax.specs.Ratio.{Tax}
use Rattle.vm_host.specs.World.{World}

machine-decided : (policy : Policy) (w : World) (decision : Result Admitted Refusal) → (decided policy w decision).machine ≡ w.machine
machine-decided policy w (Ok admitted) = refl
machine-decided policy w (Err refusal) = refl

names-decided : (policy : Policy) (w : World) (decision : Result Admitted Refusal) → (decided policy w decision).names ≡ w.names
names-decided policy w (Ok admitted) = refl
names-decided policy w (Err refusal) = refl

pub machine-lines : (policy : Policy) (w : World) (lines : List (List ℕ)) → (after_lines policy w lines).machine ≡ w.machine
machine-lines policy w [] = refl
machine-lines policy w (line ∷ lines) =
    machine-lines policy (after_line policy w line) lines ∙ machine-decided policy w (decision_on_line w line)

pub names-lines : (policy : Policy) (w : World) (lines : List (List ℕ)) → (after_lines policy w lines).names ≡ w.names
names-lines policy w [] = refl
names-lines policy w (line ∷ lines) =
    names-lines policy (after_line policy w line) lines ∙ names-decided policy w (decision_on_line w line)

pub machine-bounded : (policy : Policy) (w : World) (lines : List (List ℕ)) → (past_boundary_by policy w lines).machine ≡ w.machine
machine-bounded policy w lines = machine-lines policy (opened_boundary w) lines

pub names-bounded : (policy : Policy) (w : World) (lines : List (List ℕ)) → (past_boundary_by policy w lines).names ≡ w.names
names-bounded policy w lines = names-lines policy (opened_boundary w) lines

configs-obeyed : (tax : Tax) (pool : PoolView) (position : ℕ) (command : Command) → (obeyed_by tax pool position command).configs ≡ pool.configs
configs-obeyed tax pool position (Start domain) =
    let needed = needed_to_start pool position in
    (setup-started (room_made tax None needed pool) position).configs ∙ (kept_room tax None needed pool).configs
configs-obeyed tax pool position (Destroy domain) = refl
configs-obeyed tax pool position (SetMemory domain cap) = refl
configs-obeyed tax pool position (SetMinimum domain least) = (kept_room tax (raise_to position least) (lacking_at pool position least) pool).configs
configs-obeyed tax pool position (SetShares domain shares) = refl
configs-obeyed tax pool position (ShowStatistics domain) = refl

configs-decided : (policy : Policy) (w : World) (decision : Result Admitted Refusal) → (decided policy w decision).pool.configs ≡ w.pool.configs
configs-decided policy w (Ok admitted) = configs-obeyed policy.tax w.pool admitted.position admitted.command
configs-decided policy w (Err refusal) = refl

configs-lines : (policy : Policy) (w : World) (lines : List (List ℕ)) → (after_lines policy w lines).pool.configs ≡ w.pool.configs
configs-lines policy w [] = refl
configs-lines policy w (line ∷ lines) =
    configs-lines policy (after_line policy w line) lines ∙ configs-decided policy w (decision_on_line w line)

configs-finished : (policy : Policy) (w : World) → (finished policy w).pool.configs ≡ w.pool.configs
configs-finished policy w =
    let state = (with_state_found policy w).state in
    (setup-balanced policy state (blocks_in state) w.pool).configs

pub configs-bounded : (policy : Policy) (w : World) (lines : List (List ℕ)) → (past_boundary_by policy w lines).pool.configs ≡ w.pool.configs
configs-bounded policy w lines = configs-finished policy (after_lines policy (opened_boundary w) lines) ∙ configs-lines policy (opened_boundary w) lines

phase-decided : (policy : Policy) (w : World) (decision : Result Admitted Refusal) → (decided policy w decision).phase ≡ w.phase
phase-decided policy w (Ok admitted) = refl
phase-decided policy w (Err refusal) = refl

phase-lines : (policy : Policy) (w : World) (lines : List (List ℕ)) → (after_lines policy w lines).phase ≡ w.phase
phase-lines policy w [] = refl
phase-lines policy w (line ∷ lines) =
    phase-lines policy (after_line policy w line) lines ∙ phase-decided policy w (decision_on_line w line)

-- an epoch may follow
pub ready-bounded : (policy : Policy) (w : World) (lines : List (List ℕ)) → (past_boundary_by policy w lines).phase ≡ Ready
ready-bounded policy w lines = phase-lines policy (opened_boundary w) lines
