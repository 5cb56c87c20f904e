use Rattle.std.proofs.Common.{◌≡◌, map, take, string_bytes}
use Rattle.vm_series.proofs.collect.names_of.Given as goal

-- the names at the positions so far
abbrev pub invariant-loop-position : goal.invariant-loop-position
invariant-loop-position l = map string_bytes l.names.items ≡ take l.position l.host.names
