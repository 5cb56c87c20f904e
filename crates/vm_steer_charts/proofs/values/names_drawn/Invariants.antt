use Rattle.std.proofs.Common.{◌≡◌, drop, map}
use Rattle.vm_steer.specs.Names.{AreRising}
use Rattle.vm_steer_charts.specs.Values.{names_drawn, with_rows}
use Rattle.vm_steer_charts.proofs.values.names_drawn.Given as goal

-- the rows that are left complete the names
abbrev pub invariant-loop-row : goal.invariant-loop-row
invariant-loop-row l = record {
  added : with_rows (map (λ n. n.items) l.drawn.items) (drop l.row-index l.rows) ≡ names_drawn l.rows;
  rising : AreRising (map (λ n. n.items) l.drawn.items);
}
