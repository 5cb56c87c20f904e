use Rattle.std.proofs.Common.{◌∙◌, ap, arith, sym}
use Rattle.vm_tally.specs.GuestTally.{each_with_more, only_at}
use Rattle.vm_tally.proofs.ColumnLemmas.{added-outside, added-there}
use Rattle.vm_tally.proofs.guest_column.Column.add.Goals as goal

pub returns-then-place-len : goal.returns-then-place-len
returns-then-place-len c =
    added-there c.args.position c.args.amount c.index.result.now c.with_more.result c.self.inside.counts.items c.args.self.now c.self.view_is (omega arith)
    c.index.ensures c.with_more.ensures

pub returns-else-place-len : goal.returns-else-place-len
returns-else-place-len c =
    sym c.self.view_is ∙ added-outside c.args.position c.args.amount c.self.inside.counts.items (omega arith)
    ∙ ap (each_with_more (only_at c.args.position c.args.amount)) c.self.view_is
