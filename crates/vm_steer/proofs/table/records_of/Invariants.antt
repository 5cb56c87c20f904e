use Rattle.std.proofs.Common.{◌≡◌, ◌++◌, drop}
use Rattle.std.specs.List.{flat_map}
use Rattle.vm_steer.specs.Table.{record_of}
use Rattle.vm_steer.proofs.table.records_of.Given as goal

-- the domains that are left complete the records
abbrev pub invariant-loop-entry : goal.invariant-loop-entry
invariant-loop-entry l = l.text.items ++ flat_map (record_of l.number l.told) (drop l.entry-index l.told.domains) ≡ flat_map (record_of l.number l.told) l.told.domains
