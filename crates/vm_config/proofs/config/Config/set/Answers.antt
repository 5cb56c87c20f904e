use Rattle.std.proofs.Common.{sym, ap, ◌∙◌}
use Rattle.vm_config.specs.declared.config.Config.{Config}
use Rattle.vm_config.specs.declared.settings.Setting.{Setting}
use Rattle.vm_config.specs.declared.settings.Setting.TheVariants.{PageRate}
use Rattle.vm_config.specs.Settings.{with_setting}
use Rattle.vm_config.proofs.config.Config.set.Goals as goal

pub returns-in-PageRate-clause-ok : goal.returns-in-PageRate-clause-ok
returns-in-PageRate-clause-ok c =
    let with = λ (s : Setting). with_setting s c.args.value c.args.self.now in
    ap (λ (old : Config). with_setting PageRate c.args.value old) c.self.view_is ∙ sym (ap with c.in-PageRate.is)
