use Rattle.std.proofs.Common.{rules, ◌-◌, take, drop, length, sym, subst}
use Rattle.std.proofs.lemmas.Option.{IfSome_then}
use Rattle.vm_trace.specs.Entering.{IsEntered}
use Rattle.vm_trace.proofs.InFront.{begins_with}
use Rattle.vm_trace.proofs.plain.plain_access.Goals as goal

pub returns-in-114-clause-item : goal.returns-in-114-clause-item
returns-in-114-clause-item c =
    let bytes = c.args.store.now.items in
    let text = c.args.text.now in
    let whole = begins_with 114 text (search rules) (search rules) (search rules) in
    IfSome_then c.read.result c.read.ensures (λ i each. subst (λ l. IsEntered c.args.limits l bytes bytes i) (sym whole) (each bytes c.args.limits (take (length text - 2) (drop 2 text)) (search rules)))
