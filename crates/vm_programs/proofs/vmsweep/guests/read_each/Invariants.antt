use Rattle.std.proofs.Common.{◌≡◌, drop, map}
use Rattle.vm_lists.specs.NamedLists.{named_in}
use Rattle.vm_programs.specs.vmsweep.Lists.{read_each}
use Rattle.vm_programs.proofs.lemmas.vmsweep.Guests.{behind}
use Rattle.vm_programs.proofs.vmsweep.guests.read_each.Given as goal

-- what the texts that are left are read as completes the whole
abbrev pub invariant-loop-text : goal.invariant-loop-text
invariant-loop-text l =
    behind (map named_in l.lists.items) (read_each l.key (map (λ text. text.now) (drop l.text-index l.texts)))
    ≡ read_each l.key (map (λ text. text.now) l.texts)
