use Rattle.std.proofs.Common.{slice_get, option_and_then, sym, ap, ◌∙◌}
use Rattle.serde_json.specs.Find.{as_str}
use Rattle.vm_json.specs.View.{items_seen}
use Rattle.vm_json.proofs.ViewLemmas.{text_at_place}
use Rattle.vm_json.proofs.find.Elements.text.Goals as goal

pub returns-in-Texts : goal.returns-in-Texts
returns-in-Texts c =
    c.text_at.ensures ∙ text_at_place c.in-Texts.texts.now c.args.place
    ∙ sym (ap (λ found. option_and_then as_str (slice_get (items_seen found) c.args.place)) c.in-Texts.is)
