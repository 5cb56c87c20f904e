use Rattle.std.proofs.Common.{[], ◌∷◌, ◌++◌, codes}
use Rattle.std.specs.Fmt.{decimal}
use Rattle.vm_recorded.specs.Commands.{command_of}
use Rattle.vm_recorded.specs.Parts.{ended}
use Rattle.vm_recorded.proofs.ChainLemmas.{ends_with, setmem_made}
use Rattle.vm_recorded.proofs.commands.push_setmem.Goals as goal

pub returns : goal.returns
returns c =
    let old = c.args.text.now.items in
    let before = c.push_number.new.text.items in
    let line = codes "setmem " ++ (c.args.name.now ++ (codes " " ++ decimal c.args.kib)) in
    ends_with c.extend_from_slice-4.result c.extend_from_slice-4.new.self.items before (codes "\"},") old (ended (command_of c.args.at line ∷ []))
    c.extend_from_slice-4.ensures.items
    (setmem_made c.args.at c.args.kib c.args.name.now old c.push_opening.new.text.items c.extend_from_slice.new.self.items
    c.extend_from_slice-2.new.self.items c.extend_from_slice-3.new.self.items before c.in_ok-push_opening.ensures
    c.in_ok-extend_from_slice.ensures.items c.in_ok-extend_from_slice-2.ensures.items c.in_ok-extend_from_slice-3.ensures.items
    c.in_ok-push_number.ensures)
