use Rattle.std.proofs.Common.{◌≡◌, ◌∙◌, Bool, true, Option, Some, None, refl, sym}
use Rattle.std.specs.Option.{option_map}
use Rattle.std.proofs.lemmas.Option.{none-some, same_Some}
use Rattle.vm_guest.specs.declared.view.GuestView.{GuestView}
use Rattle.vm_guest.specs.Record.{GuestRecord}
use Rattle.vm_guest.specs.View.{view_of}
use Rattle.vm_pool.specs.Pool.{guest_at}
use Rattle.vm_reclaim.specs.Planning.{own_driver_in}
use Rattle.vm_reclaim.specs.Rebalance.{has_own_driver}
use Rattle.vm_reclaim.proofs.rebalance.has_own_driver_at.Goals as goal

-- what is told of the view is told of the guest
told : (guest : Option GuestRecord) (view : GuestView) (own : Bool) → option_map view_of guest ≡ Some view → ((g : GuestRecord) → view ≡ view_of g → own ≡ has_own_driver g) → own ≡ own_driver_in guest
told None view own is tells = absurd (none-some view is)
told (Some g) view own is tells = tells g (sym (same_Some (view_of g) view is))

nobody : (guest : Option GuestRecord) → option_map view_of guest ≡ None → true ≡ own_driver_in guest
nobody None is = refl
nobody (Some g) is = absurd (none-some (view_of g) (sym is))

pub returns-in-Some : goal.returns-in-Some
returns-in-Some c = told (guest_at c.args.pool.now c.args.position) c.in-Some.view c.has_own_driver.result (sym c.view.ensures.value ∙ c.in-Some.is) c.has_own_driver.ensures

pub returns-in-None : goal.returns-in-None
returns-in-None c = nobody (guest_at c.args.pool.now c.args.position) (sym c.view.ensures.value ∙ c.in-None.is)
