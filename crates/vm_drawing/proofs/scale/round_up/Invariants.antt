use Rattle.std.proofs.Common.{◌≡◌, ◌+◌, ◌-◌, ◌*◌, ◌^◌, ◌≤◌}
use Rattle.vm_drawing.specs.Scale.{round_from, round_up}
use Rattle.vm_drawing.proofs.scale.round_up.Given as goal

-- the powers that are left decide
abbrev pub invariant-loop-decade : goal.invariant-loop-decade
invariant-loop-decade l = record {
  power : l.power ≡ 10 ^ l.decade;
  below : l.power ≤ 2 * l.least + 1;
  rest : round_from (19 - l.decade) l.power l.least ≡ round_up l.least;
}
