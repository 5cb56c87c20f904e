use Rattle.std.proofs.Common.{◌≡◌, ◌≤◌, ◌+◌, ◌-◌, drop, length, vec_len}
use Rattle.vm_samples.specs.Lines.{lines_of}
use Rattle.vm_samples.specs.SampleOf.{domains_from, sample_of}
use Rattle.vm_samples.proofs.reading.read_sample.Given as goal

-- what is left completes what was told to the whole
abbrev pub invariant-loop-len : goal.invariant-loop-len
invariant-loop-len l = record {
  within : l.start ≤ length l.lines;
  counted : l.number ≤ l.start + 1;
  few : vec_len l.domains ≤ 257;
  completes : domains_from l.number (lines_of (drop l.start l.lines)) l.domains.items ≡ sample_of l.lines;
}

abbrev pub decreases-loop-len : goal.decreases-loop-len
decreases-loop-len l = length l.lines - l.start
