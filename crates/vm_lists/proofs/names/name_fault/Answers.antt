use Rattle.std.proofs.Common.{sym, ◌∙◌, arith}
use Rattle.vm_lists.proofs.NameLaws.{names_tested}
use Rattle.vm_lists.proofs.names.name_fault.Goals as goal

pub returns-then-has_name : goal.returns-then-has_name
returns-then-has_name g c =
    let found = sym (names_tested c.args.name.now c.args.earlier.now) ∙ sym c.has_name.ensures ∙ c.if-has_name.true in
    grind arith

pub returns : goal.returns
returns g c =
    let found = sym (names_tested c.args.name.now c.args.earlier.now) ∙ sym c.has_name.ensures ∙ c.if-has_name.false in
    grind arith
