use Rattle.std.proofs.Common.{◌<◌, ◌∙◌, length, arith}
use Rattle.std.specs.Prelude.{option_map}
use Rattle.json.specs.Value.{value_view}
use Rattle.vm_config.specs.declared.place.Part.TheVariants.{Guest}
use Rattle.vm_check.specs.Check.{part_lines}
use Rattle.vm_check.proofs.ReportLemmas.{next_lines}
use Rattle.vm_check.proofs.checking.push_guests.Goals as goal

pub loop-number-preserved : goal.loop-number-preserved
loop-number-preserved c =
    let there : c.loop-number.number < length c.args.checked.now.configs = omega arith in
    next_lines (λ number. part_lines (option_map (λ v. value_view v.now) c.args.tree) c.args.checked.now (Guest number)) c.loop-number.report
    c.push_part.new.report c.loop-number.number (length c.args.checked.now.configs) there c.in_ok-push_part.ensures
    ∙ c.loop-number.invariant
