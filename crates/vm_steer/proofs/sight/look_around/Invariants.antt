use Rattle.std.proofs.Common.{◌≡◌, ◌+◌, ◌*◌, ◌++◌, ◌≤◌, ◌^◌, All, drop, length, map}
use Rattle.vm_plan.specs.PlanRow.{rows_of}
use Rattle.vm_steer.specs.Order.{names_of}
use Rattle.vm_steer.specs.Told.{rest_of, rows_in, sights_of}
use Rattle.vm_steer.specs.Sights.{sights_behind}
use Rattle.vm_steer.proofs.sight.look_around.Given as goal

-- the domains that are left complete what is seen
abbrev pub invariant-loop-domain : goal.invariant-loop-domain
invariant-loop-domain l =
    let all = map (λ d. d.now) l.ordered.domains.items in
    let left = map (λ d. d.now) (drop l.domain-index l.ordered.domains.items) in
    record {
      sights : l.sights.items ++ sights_behind l.policy (names_of all) l.last left ≡ sights_of l.policy l.last all;
      rows : rows_of l.rows.items ++ rows_in (sights_behind l.policy (names_of all) l.last left) ≡ rows_in (sights_of l.policy l.last all);
      rest : l.rest + rest_of l.policy.overhead (sights_behind l.policy (names_of all) l.last left) ≡ rest_of l.policy.overhead (sights_of l.policy l.last all);
      held : All (λ row. row.target ≤ row.held) l.rows.items;
      few : length l.rows.items ≤ l.domain-index;
      small : l.rest ≤ 2 ^ 55 * l.domain-index;
    }
