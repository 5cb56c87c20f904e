use Rattle.std.specs.Io.KnownBytes.{Keeps}
use Rattle.vm_streams.proofs.stream.write_retrying.Given as goal

-- what was interrupted took nothing
abbrev pub invariant-loop : goal.invariant-loop
invariant-loop g l = Keeps (g.W.Write.contents l.fn.writer) (g.W.Write.contents l.writer)
