use Rattle.std.proofs.Common.{arith}
use Rattle.std.proofs.lemmas.List.Sums.{prefix_len-le-length}
use Rattle.vm_samples.specs.SampleLines.{is_space}
use Rattle.vm_samples.proofs.line.spaces_in_front.Goals as goal

pub returns-clause-bound : goal.returns-clause-bound
returns-clause-bound c = omega (arith, c.spaces_in.ensures, prefix_len-le-length is_space c.args.line.now)
