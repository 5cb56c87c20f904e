use Rattle.std.proofs.Common.{◌≡◌, drop, map}
use Rattle.vm_steer.specs.Names.{AreRising}
use Rattle.vm_steer_charts.specs.Values.{with_domains}
use Rattle.vm_steer_charts.proofs.values.add_domains.Given as goal

-- the domains that are left complete the names
abbrev pub invariant-loop-place : goal.invariant-loop-place
invariant-loop-place l = record {
  added : with_domains (map (λ n. n.items) l.drawn.items) (drop l.place l.row.names) (drop l.place l.row.numbers)
      ≡ with_domains (map (λ n. n.items) l.fn.drawn.items) l.row.names l.row.numbers;
  rising : AreRising (map (λ n. n.items) l.drawn.items);
}
