use Rattle.vm_sim.proofs.ReadLineLemmas.{IsAscii-hex}
use Rattle.vm_sim.proofs.read_line.put_hex.Goals as goal

pub returns-clause-ascii : goal.returns-clause-ascii
returns-clause-ascii c = IsAscii-hex c.args.bytes.now c.type_inv.bytes
