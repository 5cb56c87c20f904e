use Rattle.std.proofs.Common.{codes}
use Rattle.vm_recorded.specs.Parts.{labelled}
use Rattle.vm_recorded.specs.Pieces.{percents_of}
use Rattle.vm_recorded.proofs.ChainLemmas.{ends_by, percents_made}
use Rattle.vm_recorded.proofs.text.push_percents.Goals as goal

pub returns : goal.returns
returns c =
    let old = c.args.text.now.items in
    let before = c.push_labelled-3.new.text.items in
    ends_by c.push_labelled-4.result c.push_labelled-4.new.text.items before (labelled (codes ",") c.from-4.result) old (percents_of c.args.percents)
    c.push_labelled-4.ensures
    (percents_made c.args.percents old c.push_labelled.new.text.items c.push_labelled-2.new.text.items before c.from.result c.from-2.result
    c.from-3.result c.from-4.result c.from.ensures c.from-2.ensures c.from-3.ensures c.from-4.ensures c.in_ok-push_labelled.ensures
    c.in_ok-push_labelled-2.ensures c.in_ok-push_labelled-3.ensures)
