use Rattle.std.proofs.Common.{◌++◌, List, ℕ, ◌∙◌, ap, replicate}
use Rattle.vm_plan.specs.Stretches.{moves_of}
use Rattle.vm_plan.proofs.StretchLemmas.{joined-push_some, joined_counted, moves_of-push_some}
use Rattle.vm_plan.proofs.plan.Plan.push.Goals as goal

pub push_moves-requires-clause-counted : goal.push_moves-requires-clause-counted
push_moves-requires-clause-counted c = joined_counted c.self.inside.stretches.items c.self.invariant

pub invariant_of-self-2 : goal.invariant_of-self-2
invariant_of-self-2 c = rw c.in_ok-push_moves.ensures.moved (joined-push_some c.args.count c.self.inside.stretches.items c.args.position c.requires.some c.self.invariant)

pub returns : goal.returns
returns c =
    ap moves_of c.in_ok-push_moves.ensures.moved
    ∙ (moves_of-push_some c.args.count c.self.inside.stretches.items c.args.position c.requires.some ∙ ap (λ (moves : List ℕ). moves ++ replicate c.args.count c.args.position) c.self.view_is)
