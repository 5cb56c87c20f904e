use Rattle.std.proofs.Common.{◌≡◌, IfSome, List, subst}
use Rattle.std.specs.Prelude.{slice_get}
use Rattle.vm_sweep.specs.declared.variant.Variant.{Variant}
use Rattle.vm_sweep.proofs.RoundLemmas.{under-way_first}
use Rattle.vm_sweep.proofs.rounds.prepare.Goals as goal

pub returns-clause-under_way : goal.returns-clause-under_way
returns-clause-under_way c =
    under-way_first c.args.detail c.args.config c.args.lists.now c.in_ok-list.list.items c.in_ok-like.like _ _ c.in_ok-list.ensures
    (subst (λ (list : List Variant). IfSome (slice_get list 0) (λ first. c.in_ok-like.like ≡ first.changes)) c.deref.ensures.value c.in_ok-like.ensures)
    c.in_ok-jobs.ensures c.in_ok-places.ensures.ready
