use Rattle.std.proofs.Common.{◌∙◌}
use Rattle.vm_balloon.specs.Virtio.{stat_entry}
use Rattle.vm_balloon.specs.StatsOf.{with_entry}
use Rattle.vm_balloon.proofs.StatisticsLemmas.{stats_more}
use Rattle.vm_balloon.proofs.stats.Stats.in_buffer.Goals as goal

pub loop-i-preserved : goal.loop-i-preserved
loop-i-preserved c =
    let entry = stat_entry c.args.bytes.now in
    c.set.ensures
    ∙ (λ j. with_entry (c.loop-i.invariant j) (c.stat_entry-tag.ensures j))
    ∙ stats_more entry c.loop-i.i
