use Rattle.std.proofs.Common.{sym}
use Rattle.vm_steer_charts.proofs.TextLemmas.{name_utf8}
use Rattle.vm_steer_charts.proofs.charts.name_text.Goals as goal

pub unreachable-requires : goal.unreachable-requires
unreachable-requires c = c.in-Err.ensures.cases.0 (name_utf8 c.args.name.now (sym c.if-not-is_name.ensures))
