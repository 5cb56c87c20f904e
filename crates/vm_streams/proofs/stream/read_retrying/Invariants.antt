use Rattle.std.specs.Io.KnownBytes.{Keeps}
use Rattle.vm_streams.proofs.stream.read_retrying.Given as goal

-- what was interrupted took nothing
abbrev pub invariant-loop : goal.invariant-loop
invariant-loop g l = Keeps (g.R.Read.remaining l.fn.reader) (g.R.Read.remaining l.reader)
