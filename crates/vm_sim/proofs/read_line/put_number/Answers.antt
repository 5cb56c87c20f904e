use Rattle.std.proofs.Common.{arith}
use Rattle.std.proofs.lemmas.Fmt.{IsAscii-decimal, length-decimal-le}
use Rattle.vm_sim.proofs.read_line.put_number.Goals as goal

pub write_digits-requires : goal.write_digits-requires
write_digits-requires c =
    let short = length-decimal-le 10 c.args.number (omega arith) (omega arith) (omega arith) in
    (omega arith, omega arith)

pub returns-clause-short : goal.returns-clause-short
returns-clause-short c =
    let short = length-decimal-le 10 c.args.number (omega arith) (omega arith) (omega arith) in
    omega arith

pub returns-clause-ascii : goal.returns-clause-ascii
returns-clause-ascii c = IsAscii-decimal c.args.number (omega arith)
