-- What the command lines of a configuration ask for, and of which guest, by its number.
use Rattle.std.specs.Prelude.{ℕ, List, Option, Some, None, Result, Ok, Err}
use Rattle.vm_commands.specs.declared.command.Command.{Command}
use Rattle.vm_commands.specs.declared.command.Command.TheVariants as command
use Rattle.vm_commands.specs.declared.error.LineFault.{LineFault}
use Rattle.vm_commands.specs.declared.error.LineFault.TheVariants as line
use Rattle.vm_commands.specs.Lines.{command_of}
use Rattle.vm_config.specs.Schedule.{ScheduledLine}
use Rattle.vm_domains.specs.Domains.{place_of}
use Rattle.vm_check.specs.declared.order.Ask.{Ask}
use Rattle.vm_check.specs.declared.order.Ask.TheVariants.{Start, Destroy, SetMemory, SetMinimum, Other}
use Rattle.vm_check.specs.declared.order.Asked.{Asked}
use Rattle.vm_check.specs.declared.order.Asked.TheVariants.{Of, Wrong}
use Rattle.vm_check.specs.declared.order.Order.{Order}
use Rattle.vm_check.specs.declared.what.Wrong.TheVariants.{BadLine, BadSize, NoSuchDomain}

abbrev pub ask_of : Command → Ask
ask_of (command.Start domain) = Start
ask_of (command.Destroy domain) = Destroy
ask_of (command.SetMemory domain pages) = SetMemory pages
ask_of (command.SetMinimum domain pages) = SetMinimum
ask_of (command.SetShares domain shares) = Other
ask_of (command.ShowStatistics domain) = Other

abbrev pub domain_of : Command → List ℕ
domain_of (command.Start domain) = domain
domain_of (command.Destroy domain) = domain
domain_of (command.SetMemory domain pages) = domain
domain_of (command.SetMinimum domain pages) = domain
domain_of (command.SetShares domain shares) = domain
domain_of (command.ShowStatistics domain) = domain

-- of the guest at a place, if there is one
abbrev pub asked_at : Option ℕ → Ask → Asked
asked_at None ask = Wrong NoSuchDomain
asked_at (Some guest) ask = Of guest ask

abbrev pub asked_of : List (List ℕ) → Command → Asked
asked_of names command = asked_at (place_of (domain_of command) names) (ask_of command)

-- a line's own fault comes first; what a line means never lacks memory
abbrev pub asked_by : List (List ℕ) → Result Command LineFault → Asked
asked_by names (Ok command) = asked_of names command
asked_by names (Err line.Bad) = Wrong BadLine
asked_by names (Err line.Size) = Wrong BadSize
asked_by names (Err line.Memory) = Wrong BadLine

-- what a line asks for, on a machine whose pages are of so many KiB
abbrev pub asked_in : ℕ → List (List ℕ) → List ℕ → Asked
asked_in page names line = asked_by names (command_of page line)

abbrev pub order_of : ℕ → List (List ℕ) → ScheduledLine → Order
order_of page names scheduled = record { at = scheduled.at; asked = asked_in page names scheduled.line }
