use Rattle.std.proofs.Common.{◌≡◌, ◌++◌, drop, map, string_bytes, take}
use Rattle.vm_reclaim.specs.Policy.{policy_of}
use Rattle.vm_host.specs.Books.{books_of}
use Rattle.vm_host.specs.Commands.{after_lines, answers_to}
use Rattle.vm_host.specs.Parts.{world_of}
use Rattle.vm_host.specs.Sound.{IsSoundWorld}
use Rattle.vm_host.specs.World.{KeepsDomains}
use Rattle.vm_host.proofs.obey.obey_all.Given as goal

-- the lines so far are done, and those that are left complete them
abbrev pub invariant-loop-line : goal.invariant-loop-line
invariant-loop-line l = record {
  so_far : world_of l.parts ≡ after_lines (policy_of l.fn.parts.spec) (world_of l.fn.parts) (map string_bytes (take l.line-index l.lines));
  done : after_lines (policy_of l.fn.parts.spec) (world_of l.parts) (map string_bytes (drop l.line-index l.lines)) ≡ after_lines (policy_of l.fn.parts.spec) (world_of l.fn.parts) (map string_bytes l.lines);
  answers : l.answers.items ++ answers_to (policy_of l.fn.parts.spec) (world_of l.parts) (map string_bytes (drop l.line-index l.lines)) ≡ answers_to (policy_of l.fn.parts.spec) (world_of l.fn.parts) (map string_bytes l.lines);
  kept : KeepsDomains (world_of l.fn.parts) (world_of l.parts);
  sound : IsSoundWorld (world_of l.parts);
  booked : l.books ≡ books_of (world_of l.parts);
}
