use Rattle.std.proofs.Common.{◌≡◌, ◌+◌, ◌-◌, ◌<◌, ◌≤◌, ◌^◌, length}
use Rattle.std.specs.Io.KnownBytes.{prepend_known}
use Rattle.std.specs.List.{after_first}
use Rattle.std.specs.Option.{option_map}
use Rattle.vm_import.specs.Logs.{is_line_end}
use Rattle.vm_import.specs.Reading.{Stays}
use Rattle.vm_import.specs.Waiting.{all_of}
use Rattle.vm_import.proofs.block.Block.pass_line.Given as goal

-- what is behind the line stays the same
abbrev pub invariant-loop-self : goal.invariant-loop-self
invariant-loop-self g l = record {
  behind : Stays (option_map (after_first is_line_end) (prepend_known l.fn.self.bytes (g.R.Source.remaining l.fn.source)))
      (option_map (after_first is_line_end) (prepend_known l.self.bytes (g.R.Source.remaining l.source)));
  all : Stays (all_of l.fn.self.taken (g.R.Source.remaining l.fn.source)) (all_of l.self.taken (g.R.Source.remaining l.source));
  some : 0 < length l.self.bytes;
  counted : l.fn.self.taken + length l.self.bytes ≤ l.self.taken + length l.fn.self.bytes;
  small : l.self.taken < 2 ^ 64;
  stays : g.R.Source.has_failed l.source ≡ g.R.Source.has_failed l.fn.source;
}

abbrev pub decreases-loop-self : goal.decreases-loop-self
decreases-loop-self g l = 2 ^ 64 - l.self.taken
