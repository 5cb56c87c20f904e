use Rattle.std.proofs.Common.{length, ap, ◌∙◌}
use Rattle.vm_json.specs.View.{items_seen}
use Rattle.vm_samples.specs.Keys.{objects_among}
use Rattle.vm_samples.proofs.ValueLemmas.{texts_no_objects}
use Rattle.vm_samples.proofs.keys.objects_among.Goals as goal

pub returns-then-len-ne0-clause-objects : goal.returns-then-len-ne0-clause-objects
returns-then-len-ne0-clause-objects c =
    let texts = c.in_default.field-0.now in
    let is = c.in_default.is in
    ap (λ found. objects_among 256 (items_seen found)) is
    ∙ texts_no_objects texts 256 (λ none. c.if-len-ne0.true (c.len.ensures ∙ ap (λ found. length (items_seen found)) is ∙ none))
