-- Whether a command line is obeyed. A line is read first; then come the refusals for its domain, for the bounds of its number, and
-- for what the machine has promised, in this order (the memory commands of virsh; admission: Waldspurger, OSDI 2002, section 6.2).
use Rattle.std.specs.Prelude.{◌≡◌, ℕ, ◌-◌, List, nat_lt, IfSome, slice_get, Option, Some, None, Result, Ok, Err, if◌then◌else◌}
use Rattle.std.specs.Option.{ok_or}
use Rattle.vm_admission.specs.Accounts.{Accounts, with_guest, with_minimum, without_guest}
use Rattle.vm_commands.specs.declared.command.Command.{Command}
use Rattle.vm_commands.specs.declared.command.Command.TheVariants.{Start, Destroy, SetMemory, SetMinimum, SetShares, ShowStatistics}
use Rattle.vm_commands.specs.declared.error.LineFault.{LineFault}
use Rattle.vm_commands.specs.declared.error.LineFault.TheVariants.{Bad, Size, Memory}
use Rattle.vm_commands.specs.Lines.{command_of}
use Rattle.vm_guest.specs.Config.{GuestConfig}
use Rattle.vm_guest.specs.Record.{GuestRecord, reserve}
use Rattle.vm_pool.specs.Guests.{guest_in}
use Rattle.vm_pool.specs.Pool.{PoolView}
use Rattle.vm_guest.specs.View.{view_of}
use Rattle.vm_guest.specs.declared.view.GuestView.{GuestView}
use Rattle.vm_admission.specs.declared.error.AdmissionError.{AdmissionError}
use Rattle.vm_admission.specs.declared.error.AdmissionError.TheVariants.{NoMemory as FewFrames, NoSwap as LittleSwap}
use Rattle.vm_host.specs.declared.boundary.Refusal.{Refusal}
use Rattle.vm_host.specs.declared.boundary.Refusal.TheVariants.{NoSuchDomain, AlreadyRunning, NotRunning, BadLine, BadSize, BelowMinimum, AboveMaximum, NoMemory, NoSwap}
use Rattle.vm_host.specs.Books.{books_of, if_covered}
use Rattle.vm_domains.specs.Domains.{place_of}
use Rattle.vm_host.specs.World.{World, guest_at, config_at}

-- the next test, where the first passed
infixl 10 ◌>>=◌
abbrev pub ◌>>=◌ : {A B : Type 0} → Result A Refusal → (A → Result B Refusal) → Result B Refusal
(Ok x) >>= next = next x
(Err refusal) >>= next = Err refusal

-- ---- the line

-- why a line that cannot be read is refused; what a line means never lacks memory
abbrev pub refusal_of : LineFault → Refusal
refusal_of Bad = BadLine
refusal_of Size = BadSize
refusal_of Memory = BadLine

abbrev pub readable : Result Command LineFault → Result Command Refusal
readable (Ok command) = Ok command
readable (Err fault) = Err (refusal_of fault)

-- ---- the domain

-- the position of the domain with a name
abbrev pub position_in : World → List ℕ → Result ℕ Refusal
position_in w name = ok_or (place_of name w.names) NoSuchDomain

-- how a domain that does not run is set up
abbrev pub if_stopped : Option GuestRecord → Option GuestConfig → Result GuestConfig Refusal
if_stopped None config = ok_or config NoSuchDomain
if_stopped (Some g) config = Err AlreadyRunning

abbrev pub stopped_config : World → ℕ → Result GuestConfig Refusal
stopped_config w position = if_stopped (guest_at w position) (config_at w position)

-- the guest of a domain that runs
abbrev pub running_at : World → ℕ → Result GuestRecord Refusal
running_at w position = ok_or (guest_at w position) NotRunning

-- what is shown of it
abbrev pub viewed : Option GuestRecord → Result GuestView Refusal
viewed None = Err NotRunning
viewed (Some g) = Ok (view_of g)

-- the minimum of a domain, and the swap that it needs for the rest
abbrev pub needed_by : Result GuestConfig Refusal → Result (ℕ × ℕ) Refusal
needed_by (Ok config) = Ok (config.min, config.size - config.min)
needed_by (Err refusal) = Err refusal

-- what the books lack
abbrev pub refusal_by : AdmissionError → Refusal
refusal_by FewFrames = NoMemory
refusal_by LittleSwap = NoSwap

-- ---- the number

-- a cap is from the minimum to the size
abbrev pub if_cap : GuestRecord → ℕ → ℕ → Result ℕ Refusal
if_cap g cap position =
    if nat_lt cap g.allotment.min then Err BelowMinimum
    else if nat_lt g.config.size cap then Err AboveMaximum
    else Ok position

-- a minimum is at most the cap
abbrev pub if_minimum : GuestRecord → ℕ → ℕ → Result ℕ Refusal
if_minimum g least position = if nat_lt g.allotment.cap least then Err AboveMaximum else Ok position

-- ---- the books

-- one guest more
abbrev pub booked_start : Accounts → GuestConfig → Accounts
booked_start books config = with_guest books config.min (config.size - config.min)

-- another minimum of a guest; where it is the least so far, more swap is reserved
abbrev pub booked_minimum : Accounts → GuestRecord → ℕ → Accounts
booked_minimum books g least = with_minimum books g.allotment.min least (g.allotment.least_min - least)

-- what an admitted command makes of the books
abbrev pub IsBooked : PoolView → ℕ → (old new : Accounts) → Command → Type 0
IsBooked pool position old new (Start domain) = IfSome (slice_get pool.configs position) (λ config. new ≡ booked_start old config)
IsBooked pool position old new (Destroy domain) = IfSome (guest_in pool.guests position) (λ g. new ≡ without_guest old g.allotment.min (reserve g))
IsBooked pool position old new (SetMinimum domain least) = IfSome (guest_in pool.guests position) (λ g. new ≡ booked_minimum old g least)
IsBooked pool position old new (SetMemory domain cap) = new ≡ old
IsBooked pool position old new (SetShares domain shares) = new ≡ old
IsBooked pool position old new (ShowStatistics domain) = new ≡ old

-- ---- the command

-- the position of the domain that a command is about, or why it is refused
abbrev pub decision_on : World → Command → Result ℕ Refusal
decision_on w (Start domain) = do
  position ← position_in w domain
  config ← stopped_config w position
  if_covered (booked_start (books_of w) config) position
decision_on w (Destroy domain) = do
  position ← position_in w domain
  g ← running_at w position
  Ok position
decision_on w (SetMemory domain cap) = do
  position ← position_in w domain
  g ← running_at w position
  if_cap g cap position
decision_on w (SetMinimum domain least) = do
  position ← position_in w domain
  g ← running_at w position
  within ← if_minimum g least position
  if_covered (booked_minimum (books_of w) g least) position
decision_on w (SetShares domain shares) = do
  position ← position_in w domain
  g ← running_at w position
  Ok position
decision_on w (ShowStatistics domain) = do
  position ← position_in w domain
  g ← running_at w position
  Ok position

-- a command that is obeyed, and the position of its domain
pub record Admitted : Type 0 where
  pub command : Command
  pub position : ℕ

abbrev pub admission_of : World → Command → Result Admitted Refusal
admission_of w command = do
  position ← decision_on w command
  Ok (record { command = command; position = position })

-- what a line asks for, or why it is refused
abbrev pub decision_on_line : World → List ℕ → Result Admitted Refusal
decision_on_line w line = do
  command ← readable (command_of w.machine.page line)
  admission_of w command
