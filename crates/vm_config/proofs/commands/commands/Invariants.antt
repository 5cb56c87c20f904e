use Rattle.std.proofs.Common.{◌≡◌, [], map, drop}
use Rattle.vm_json.specs.View.{view}
use Rattle.vm_config.specs.Located.{commands_at}
use Rattle.vm_config.proofs.commands.commands.Given as goal

-- the objects that are left go on from the commands so far to the same answer
abbrev pub invariant-loop-object : goal.invariant-loop-object
invariant-loop-object l = commands_at (map view (drop l.object-index l.objects)) l.commands ≡ commands_at (map view l.objects) []
