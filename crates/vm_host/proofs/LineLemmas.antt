-- What lines and a whole boundary keep.
use Rattle.std.proofs.Common.{◌≡◌, ℕ, ◌≤◌, List, [], ◌∷◌, Result, Ok, Err, refl, subst, sym, arith}
use Rattle.vm_commands.specs.declared.command.Command.{Command}
use Rattle.vm_commands.specs.declared.error.LineFault.{LineFault}
use Rattle.vm_commands.specs.LineGrammar.{AsksFor, Form, FormDestroy, FormMemory, FormMinimum, FormShares, FormStart, FormStatistics}
use Rattle.vm_commands.specs.Lines.{command_of}
use Rattle.vm_commands.proofs.LineLaws.{IsLine-from_read}
use Rattle.vm_host.specs.declared.boundary.Refusal.{Refusal}
use Rattle.vm_host.specs.Boundary.{past_boundary_by, opened_boundary}
use Rattle.vm_host.specs.Commands.{after_line, after_lines, decided}
use Rattle.vm_host.specs.Decisions.{◌>>=◌, Admitted, admission_of, decision_on, readable}
use Rattle.vm_host.specs.Obeying.{IsInRange}
use Rattle.vm_host.specs.Sound.{IsSoundWorld}
use Rattle.vm_host.specs.World.{World}
use Rattle.vm_host.proofs.SoundLemmas.{obeys, sound-finished, sound-opened_boundary}
use Rattle.vm_reclaim.specs.Policy.{Policy}

-- the number of a command that was read is one that a line can have
asked-range : (page : ℕ) (form : Form) (command : Command) → AsksFor page form command → IsInRange command
asked-range page (FormStart domain) command asks = subst IsInRange (sym asks) tt
asked-range page (FormDestroy domain) command asks = subst IsInRange (sym asks) tt
asked-range page (FormMemory domain size) command asks = subst IsInRange (sym asks.2) tt
asked-range page (FormMinimum domain size) command asks = subst IsInRange (sym asks.3) asks.2
asked-range page (FormShares domain number) command asks =
    let shares = asks.1 in subst IsInRange (sym asks.2) (shares.least, shares.most)
asked-range page (FormStatistics domain) command asks = subst IsInRange (sym asks) tt

pub read-range : (page : ℕ) (line : List ℕ) (command : Command) → 1 ≤ page → command_of page line ≡ Ok command → IsInRange command
read-range page line command some read = let is = IsLine-from_read page line command some read in asked-range page is.form command is.asks

-- a page of a machine stands for some KiB
pub some-page : (w : World) (page : ℕ) → IsSoundWorld w → page ≡ w.machine.page → 1 ≤ page
some-page w page sound same = let from = sound.machine.page_from in omega (arith, from, same)

-- the command and its position, where it is admitted
abbrev pub admitted_at : Command → Result ℕ Refusal → Result Admitted Refusal
admitted_at command decision = decision >>= (λ position. Ok (record { command = command; position = position }))

pub sound-admitted : (policy : Policy) (w : World) (command : Command) (decision : Result ℕ Refusal) → IsSoundWorld w → IsInRange command → decision_on w command ≡ decision
    → IsSoundWorld (decided policy w (admitted_at command decision))
sound-admitted policy w command (Ok position) sound range is = (obeys policy.tax w command position sound range is).sound
sound-admitted policy w command (Err refusal) sound range is = sound

sound-read : (policy : Policy) (w : World) (line : List ℕ) (read : Result Command LineFault) → IsSoundWorld w → command_of w.machine.page line ≡ read
    → IsSoundWorld (decided policy w (readable read >>= admission_of w))
sound-read policy w line (Ok command) sound is = sound-admitted policy w command (decision_on w command) sound (read-range w.machine.page line command (some-page w w.machine.page sound refl) is) refl
sound-read policy w line (Err fault) sound is = sound

pub sound-line : (policy : Policy) (w : World) (line : List ℕ) → IsSoundWorld w → IsSoundWorld (after_line policy w line)
sound-line policy w line sound = sound-read policy w line (command_of w.machine.page line) sound refl

pub sound-lines : (policy : Policy) (w : World) (lines : List (List ℕ)) → IsSoundWorld w → IsSoundWorld (after_lines policy w lines)
sound-lines policy w [] sound = sound
sound-lines policy w (line ∷ lines) sound = sound-lines policy (after_line policy w line) lines (sound-line policy w line sound)

-- a boundary leaves a sound host
pub bounded-sound : (policy : Policy) (w : World) (lines : List (List ℕ)) → IsSoundWorld w → IsSoundWorld (past_boundary_by policy w lines)
bounded-sound policy w lines sound = sound-finished policy (after_lines policy (opened_boundary w) lines) (sound-lines policy (opened_boundary w) lines (sound-opened_boundary w sound))
