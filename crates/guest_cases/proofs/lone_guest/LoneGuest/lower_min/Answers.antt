use Rattle.std.proofs.Common.{◌-◌, ◌≤◌, arith, rules}
use Rattle.guest_cases.proofs.lone_guest.LoneGuest.lower_min.Goals as goal

pub grow_swap-requires : goal.grow_swap-requires
grow_swap-requires c =
    let few : c.self.inside.guest.capacity ≤ 262144 = c.self.invariant.room c.in_ok-allowed.ensures in
    let more : c.view-view.result.size - c.args.least - c.reserve-reserve.result ≤ 262144 = search rules in
    omega (arith, few, more)
