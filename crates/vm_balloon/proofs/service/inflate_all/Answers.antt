use Rattle.std.proofs.lemmas.Bool.{OnTrue_from}
use Rattle.vm_balloon.proofs.InflateLemmas.{inflated_by-all}
use Rattle.vm_balloon.proofs.service.inflate_all.Goals as goal

pub returns-then-in_range-clause-inflated : goal.returns-then-in_range-clause-inflated
returns-then-in_range-clause-inflated c =
    OnTrue_from c.insert_all_if_new.result _
    (λ new. inflated_by-all c.args.balloon.now c.args.numbers.now (c.requires c.if-in_range.true) (c.insert_all_if_new.ensures.all_new.0 new))
