-- What happens to each guest of a host, in order.
use Rattle.std.specs.Prelude.{ℕ, List, [], ◌∷◌, ◌++◌, Result, Ok, Err, slice_set}
use Rattle.vm_commands.specs.declared.command.Command.{Command}
use Rattle.vm_commands.specs.declared.command.Command.TheVariants.{Start, Destroy, SetMemory, SetMinimum, SetShares, ShowStatistics}
use Rattle.vm_guest.specs.Happenings.{Started, epoch_happenings, service_happenings}
use Rattle.vm_host.specs.declared.boundary.Refusal.{Refusal}
use Rattle.vm_host.specs.Commands.{after_line}
use Rattle.vm_host.specs.Decisions.{Admitted, decision_on_line}
use Rattle.vm_pool.specs.Guests.{Guests}
use Rattle.vm_reclaim.specs.Policy.{Policy}
use Rattle.vm_host.specs.World.{World}
use Rattle.vm_sound.specs.Written.{History, happenings_at, with_happenings}

-- the history once a boundary has served these guests, which comes before its lines
abbrev pub history_after_service : Guests → History → History
history_after_service guests h = with_happenings service_happenings guests h

-- a start joins the happenings of its guest; no other command is a happening
abbrev pub history_of_command : History → ℕ → Command → History
history_of_command h position (Start domain) = slice_set h position (happenings_at h position ++ Started ∷ [])
history_of_command h position (Destroy domain) = h
history_of_command h position (SetMemory domain cap) = h
history_of_command h position (SetMinimum domain least) = h
history_of_command h position (SetShares domain shares) = h
history_of_command h position (ShowStatistics domain) = h

abbrev pub history_of_decision : History → Result Admitted Refusal → History
history_of_decision h (Ok admitted) = history_of_command h admitted.position admitted.command
history_of_decision h (Err refusal) = h

-- the history after the lines of a boundary
abbrev pub history_after_lines : Policy → World → History → List (List ℕ) → History
history_after_lines policy w h [] = h
history_after_lines policy w h (line ∷ lines) =
    history_after_lines policy (after_line policy w line) (history_of_decision h (decision_on_line w line)) lines

-- the history after an epoch that begins with these guests
abbrev pub history_after_epoch : Guests → History → History
history_after_epoch guests h = with_happenings epoch_happenings guests h
