use Rattle.std.proofs.Common.{◌≡◌, ◌++◌, map, take, drop}
use Rattle.vm_keys.specs.OddKeys.{odd_from, odd_keys, odd_of}
use Rattle.vm_keys.specs.Seen.{AreSeen}
use Rattle.vm_keys.proofs.odd.odd_members.Given as goal

abbrev pub invariant-loop-key : goal.invariant-loop-key
invariant-loop-key l =
    let known = map (λ k. k.now) l.known in
    let keys = map (λ m. m.0.now) l.members in
    record {
      seen : AreSeen known (take l.key-index keys) l.seen.flags.items;
      whole : map odd_of l.odd.items ++ odd_from known (take l.key-index keys) (drop l.key-index keys) ≡ odd_keys known keys;
    }
