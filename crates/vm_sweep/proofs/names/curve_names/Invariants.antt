use Rattle.std.proofs.Common.{◌≡◌, ◌++◌, drop, map, string_bytes}
use Rattle.vm_sweep.specs.CurveNames.{curve_name, curve_names}
use Rattle.vm_sweep.proofs.names.curve_names.Given as goal

-- the combinations that are left complete the names
abbrev pub invariant-loop-variant : goal.invariant-loop-variant
invariant-loop-variant l =
    map string_bytes l.names.items ++ map (curve_name l.lists l.combinations) (drop l.variant-index l.combinations)
    ≡ curve_names l.lists l.combinations
