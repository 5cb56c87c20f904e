use Rattle.std.proofs.Common.{◌≡◌, ◌+◌, ◌++◌, ap, ◌∙◌, arith}
use Rattle.vm_lists.proofs.ListLaws.{concat_more, length-concat_more}
use Rattle.vm_lists.proofs.lists.ValueList.push.Goals as goal

pub invariant_of-self-2 : goal.invariant_of-self-2
invariant_of-self-2 c =
    let sum : c.in_ok-count.count ≡ c.self.inside.count + c.len.result = grind arith in
    rw c.in_ok-push.ensures.items (omega (arith, length-concat_more c.self.inside.items.items c.args.item))

pub returns-clause-ok : goal.returns-clause-ok
returns-clause-ok c =
    rw c.in_ok-push.ensures.items (concat_more c.self.inside.items.items c.args.item ∙ ap (λ values. values ++ c.args.item) c.self.view_is)
