use Rattle.std.proofs.Common.{◌∙◌, ap, subst, sym}
use Rattle.vm_guest.specs.Boundary.{serviced}
use Rattle.vm_guest.specs.Good.{HasNothingPosted}
use Rattle.vm_pool.specs.Changes.{all_changed, with_spares_back}
use Rattle.vm_pool.specs.Pool.{EachGuest}
use Rattle.vm_pool.proofs.EachLemmas.{served-serve_all, served-spares_back_all}
use Rattle.guest_tests.proofs.tests.pool.runs.Goals as goal

pub epoch-requires-clause-served : goal.epoch-requires-clause-served
epoch-requires-clause-served g c κs within =
    subst (EachGuest HasNothingPosted) (sym (c.spares_back_all.ensures ∙ ap with_spares_back c.serve_all.ensures)) (served-spares_back_all (all_changed serviced c.args.pool.now) (served-serve_all c.args.pool.now))
