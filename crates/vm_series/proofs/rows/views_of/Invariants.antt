use Rattle.std.proofs.Common.{◌≡◌, map}
use Rattle.std.specs.List.{range_with_len}
use Rattle.vm_series.specs.Rows.{view_at}
use Rattle.vm_series.proofs.rows.views_of.Given as goal

-- the views at the positions so far
abbrev pub invariant-loop-position : goal.invariant-loop-position
invariant-loop-position l = l.views.items ≡ map (view_at l.host) (range_with_len 0 l.position)
