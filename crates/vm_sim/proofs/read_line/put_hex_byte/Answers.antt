use Rattle.std.proofs.Common.{◌≡◌, ◌+◌, ◌%◌, set, arith, length-set}
use Rattle.std.proofs.lemmas.List.{set_comm, drop-set}
use Rattle.vm_sim.specs.Lines.{hex_digit}
use Rattle.vm_sim.proofs.ReadLineLemmas.{PAIRS_at}
use Rattle.vm_sim.proofs.read_line.put_hex_byte.Goals as goal

pub returns : goal.returns
returns c =
    let p = PAIRS_at c.args.byte (omega arith) in
    let at = c.args.at in
    let line = c.args.line.now in
    let low = hex_digit (c.args.byte % 16) in
    let e : at + 1 + 1 ≡ at + 2 = omega arith in
    rw (p.0, p.1, set_comm line at (at + 1) _ _ (λ x. omega arith), drop-set (set line (at + 1) low) at _ (omega (arith, length-set line (at + 1) low)), drop-set line (at + 1) _ (omega arith), e)
