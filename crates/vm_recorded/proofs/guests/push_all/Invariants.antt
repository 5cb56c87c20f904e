use Rattle.std.proofs.Common.{◌≡◌, ◌++◌, drop}
use Rattle.vm_recorded.specs.Parts.{ended}
use Rattle.vm_recorded.specs.Texts.{guest_texts}
use Rattle.vm_recorded.proofs.guests.push_all.Given as goal

-- the guests that are left complete the text
abbrev pub invariant-loop-number : goal.invariant-loop-number
invariant-loop-number l =
    l.text.items ++ ended (guest_texts l.quantum l.number (drop l.number l.guests)) ≡ l.fn.text.items ++ ended (guest_texts l.quantum 0 l.guests)
