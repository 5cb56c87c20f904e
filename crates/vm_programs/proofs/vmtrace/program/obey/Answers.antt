use Rattle.vm_programs.specs.vmtrace.CommandLine.{trace_line}
use Rattle.vm_programs.proofs.lemmas.vmtrace.Taken.{in-range}
use Rattle.vm_programs.proofs.vmtrace.program.obey.Goals as goal

pub read_request-requires : goal.read_request-requires
unfolding trace_line
read_request-requires g c = in-range c.in_ok-request.request c.in_ok-request.ensures.numbers
