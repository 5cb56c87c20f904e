use Rattle.std.proofs.Common.{◌≡◌, ◌++◌, drop, map, string_bytes}
use Rattle.vm_sweep.specs.CurveNames.{words_among}
use Rattle.vm_sweep.proofs.names.words_among.Given as goal

-- the parts that are left complete the words
abbrev pub invariant-loop-part : goal.invariant-loop-part
invariant-loop-part l =
    map string_bytes l.words.items ++ words_among l.lists (drop l.part-index l.parts) l.combinations l.variant
    ≡ words_among l.lists l.parts l.combinations l.variant
