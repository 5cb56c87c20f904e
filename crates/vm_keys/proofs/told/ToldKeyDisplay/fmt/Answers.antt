use Rattle.std.proofs.Common.{sym, subst}
use Rattle.std.specs.Fmt.{HasWritten}
use Rattle.vm_keys.specs.declared.odd.OddKey.{OddKey}
use Rattle.vm_keys.specs.OddKeys.{odd_of}
use Rattle.vm_keys.specs.Told.{told}
use Rattle.vm_keys.proofs.told.ToldKeyDisplay.fmt.Goals as goal

pub returns-in-Unknown-clause-writes : goal.returns-in-Unknown-clause-writes
returns-in-Unknown-clause-writes g c = λ plain ok.
    let whose = c.args.self.now.whose.now in
    subst (λ (odd : OddKey). HasWritten {W = g.row.W.Denot} g.W.Write.write_str_gives c.args.f.now (told whose (odd_of odd)) c.write.new.self)
    (sym c.in-Unknown.is) (c.write.ensures.writes plain ok)
