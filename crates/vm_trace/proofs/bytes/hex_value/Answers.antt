use Rattle.std.proofs.Common.{arith}
use Rattle.vm_trace.proofs.Hex.{value_in_table}
use Rattle.vm_trace.proofs.bytes.hex_value.Goals as goal

pub returns : goal.returns
returns c = value_in_table c.args.digit (omega arith)
