use Rattle.std.proofs.Common.{◌≡◌, ◌+◌, ◌<◌, ◌≤◌, IfSome, Option, Some, length, subst, rules}
use Rattle.std.specs.Option.{option_map}
use Rattle.vm_guest.specs.View.{view_of}
use Rattle.vm_guest.specs.declared.view.GuestView.{GuestView}
use Rattle.vm_pool.specs.Pool.{guest_at}
use Rattle.vm_pool.proofs.GrantLemmas.{can-be-granted}
use Rattle.guest_tests.proofs.ViewLemmas.{seen}
use Rattle.guest_tests.proofs.tests.pool.grant.Goals as goal

pub grant-requires : goal.grant-requires
grant-requires g c =
    let count = c.args.count in
    let pool = c.args.pool.now in
    let view = c.expect-view.result in
    let within : c.args.position < length pool.guests = search rules in
    let enough : count ≤ pool.free = search rules in
    let asked : count ≤ view.demand = search rules in
    let room : view.target + count ≤ view.cap = search rules in
    let is : Some view ≡ option_map view_of (guest_at pool c.args.position) = search rules in
    can-be-granted count pool c.args.position within
    (seen (λ v. count ≤ v.demand) (guest_at pool c.args.position) (subst (λ (o : Option GuestView). IfSome o (λ v. count ≤ v.demand)) is asked))
    (seen (λ v. v.target + count ≤ v.cap) (guest_at pool c.args.position) (subst (λ (o : Option GuestView). IfSome o (λ v. v.target + count ≤ v.cap)) is room))
    enough
