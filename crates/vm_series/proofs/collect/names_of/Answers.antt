use Rattle.std.proofs.Common.{◌∙◌, rules, string_bytes}
use Rattle.vm_series.proofs.RowLemmas.{names_more}
use Rattle.vm_series.proofs.collect.names_of.Goals as goal

pub loop-position-preserved : goal.loop-position-preserved
loop-position-preserved c =
    names_more string_bytes c.args.host.now.names c.loop-position.position _ _ c.in_ok-name.name (search rules) c.loop-position.invariant
    c.in_ok-push.ensures.items (c.in_ok-name.ensures.ok ∙ c.name_at.ensures)
