use Rattle.std.proofs.Common.{map}
use Rattle.vm_series.proofs.RecordLemmas.{position_more}
use Rattle.vm_series.specs.Records.{record_at, view_record}
use Rattle.vm_series.proofs.csv_lines.push_guests.Goals as goal

pub loop-position-preserved : goal.loop-position-preserved
loop-position-preserved c =
    position_more (record_at (map (λ piece. piece.items) c.args.pieces.now) c.args.row.now) c.loop-position.position _ _ _ _ c.loop-position.invariant
    c.in_ok-push_view.ensures (λ i. view_record (c.requires i) (c.piece_at-name.ensures i) (c.view.ensures i))
