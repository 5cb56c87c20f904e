use Rattle.std.proofs.Common.{◌≡◌, ◌+◌, ◌<◌, ◌≤◌, IfSome, Option, Some, length, subst, rules}
use Rattle.std.specs.Option.{option_map}
use Rattle.vm_guest.specs.View.{view_of}
use Rattle.vm_guest.specs.declared.view.GuestView.{GuestView}
use Rattle.vm_pool.specs.Pool.{guest_at}
use Rattle.vm_pool.proofs.RevokeLemmas.{can-be-revoked}
use Rattle.guest_tests.proofs.ViewLemmas.{seen}
use Rattle.guest_tests.proofs.tests.pool.revoke.Goals as goal

pub revoke-requires : goal.revoke-requires
revoke-requires g c =
    let count = c.args.count in
    let pool = c.args.pool.now in
    let view = c.expect-view.result in
    let within : c.args.position < length pool.guests = search rules in
    let above : view.min + count ≤ view.target = search rules in
    let is : Some view ≡ option_map view_of (guest_at pool c.args.position) = search rules in
    can-be-revoked count pool c.args.position within
    (seen (λ v. v.min + count ≤ v.target) (guest_at pool c.args.position) (subst (λ (o : Option GuestView). IfSome o (λ v. v.min + count ≤ v.target)) is above))
