use Rattle.std.proofs.Common.{◌∙◌, ap, map}
use Rattle.vm_series.proofs.RecordLemmas.{text_is}
use Rattle.vm_series.specs.Records.{name_text}
use Rattle.vm_series.proofs.csv_lines.csv_text.Goals as goal

pub returns : goal.returns
returns c =
    let pieces = ap (map (λ piece. piece.items)) c.as_slice.ensures.value ∙ c.in_ok-pieces.ensures ∙ ap (map name_text) c.names.ensures in
    c.in_ok-push_rows.ensures ∙ text_is c.args.series.now _ _ _ c.in_ok-text.ensures pieces c.rows.ensures
