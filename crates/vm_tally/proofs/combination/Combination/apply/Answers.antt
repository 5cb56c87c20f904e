use Rattle.std.proofs.Common.{◌∙◌, ap}
use Rattle.vm_config.specs.declared.config.Config.{Config}
use Rattle.vm_config.specs.declared.settings.Setting.TheVariants.{Swap, Tax, PageRate, Rebalance}
use Rattle.vm_config.specs.Settings.{with_setting}
use Rattle.vm_tally.specs.Combinations.{Values, configured}
use Rattle.vm_tally.proofs.combination.Combination.apply.Goals as goal

-- src/combination.rt:75:5
pub returns : goal.returns
returns c =
    let own = c.self.inside in
    let swap = c.put-2.ensures ∙ ap (λ (d : Config). with_setting Swap own.swap d) c.put.ensures in
    let tax = c.put-3.ensures ∙ ap (λ (d : Config). with_setting Tax own.tax d) swap in
    let page_rate = c.put-4.ensures ∙ ap (λ (d : Config). with_setting PageRate own.page_rate d) tax in
    c.put-5.ensures ∙ ap (λ (d : Config). with_setting Rebalance own.rebalance d) page_rate
    ∙ ap (λ (v : Values). configured v c.args.config.now) c.self.view_is
