use Rattle.std.proofs.Common.{◌≡◌, ◌++◌, ◌≤◌, drop, length, map}
use Rattle.vm_steer.specs.Told.{entries_of}
use Rattle.vm_steer.proofs.orders.entries_of.Given as goal

-- the domains that are left, with the outcomes that are left, complete the entries
abbrev pub invariant-loop-position : goal.invariant-loop-position
invariant-loop-position l =
    let all = map (λ n. n.now) l.names in
    record {
      ends : l.position-end ≡ length l.names;
      done : l.entries.items ++ entries_of l.policy l.may_rise (drop l.position all) (drop l.position l.sights) (drop l.taken l.outcomes) ≡ entries_of l.policy l.may_rise all l.sights l.outcomes;
      few : l.taken ≤ l.position;
    }
