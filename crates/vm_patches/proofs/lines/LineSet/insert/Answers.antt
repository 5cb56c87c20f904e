use Rattle.std.proofs.Common.{eqb, w64, ap}
use Rattle.std.proofs.lemmas.Nat.Bits.{bit_at_set_same, bit_at_set_other}
use Rattle.vm_patches.proofs.lines.LineSet.insert.Goals as goal

pub returns-clause-marked : goal.returns-clause-marked
returns-clause-marked c = ap (λ bit. eqb bit 1) (bit_at_set_same w64 c.args.self.now.bits c.args.line c.requires)

pub returns-clause-others : goal.returns-clause-others
returns-clause-others c = λ other apart. ap (λ bit. eqb bit 1) (bit_at_set_other w64 c.args.self.now.bits c.args.line c.requires other apart)
