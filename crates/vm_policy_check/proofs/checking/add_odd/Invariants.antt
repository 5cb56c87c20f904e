use Rattle.std.proofs.Common.{◌≡◌, ◌++◌, map, drop}
use Rattle.vm_keys.specs.OddKeys.{odd_of}
use Rattle.vm_policy_check.specs.Findings.{found_of, odd}
use Rattle.vm_policy_check.proofs.checking.add_odd.Given as goal

abbrev pub invariant-loop-key : goal.invariant-loop-key
invariant-loop-key l =
    map found_of l.found.items ++ map (odd l.part) (map odd_of (drop l.key-index l.keys))
    ≡ map found_of l.initial.found.items ++ map (odd l.part) (map odd_of l.keys)
