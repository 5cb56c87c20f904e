use Rattle.std.proofs.Common.{rules, sym, subst}
use Rattle.std.proofs.lemmas.Option.{IfSome_then}
use Rattle.vm_trace.specs.Entering.{IsEntered}
use Rattle.vm_trace.proofs.InFront.{begins_with}
use Rattle.vm_trace.proofs.plain.plain_item.Goals as goal

pub returns-in-116-clause-item : goal.returns-in-116-clause-item
returns-in-116-clause-item c =
    let bytes = c.args.store.now.items in
    let whole = begins_with 116 c.args.text.now (search rules) (search rules) (search rules) in
    IfSome_then c.touches.result c.touches.ensures (λ i each. subst (λ l. IsEntered c.args.limits l bytes bytes i) (sym whole) (each bytes))

pub returns-in-102-clause-item : goal.returns-in-102-clause-item
returns-in-102-clause-item c =
    let bytes = c.args.store.now.items in
    let whole = begins_with 102 c.args.text.now (search rules) (search rules) (search rules) in
    IfSome_then c.frees.result c.frees.ensures (λ i each. subst (λ l. IsEntered c.args.limits l bytes bytes i) (sym whole) (each bytes))
