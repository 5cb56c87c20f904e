use Rattle.std.proofs.Common.{◌∙◌, sym, ap, subst}
use Rattle.vm_config.specs.declared.settings.Setting.{Setting}
use Rattle.vm_config.specs.Settings.{IsInRange}
use Rattle.vm_tally.specs.Combinations.{Values, with_value}
use Rattle.vm_tally.proofs.combination.Combination.with.Goals as goal

-- src/combination.rt:68:29
pub invariant_of-other-in-Tax : goal.invariant_of-other-in-Tax
invariant_of-other-in-Tax c =
    let is = c.other.invariant in
    record {
      frames = is.frames;
      swap = is.swap;
      tax = subst (λ (s : Setting). IsInRange s c.args.value) c.in-Tax.is c.requires;
      page_rate = is.page_rate;
      rebalance = is.rebalance;
    }

-- src/combination.rt:60:5
pub returns-in-Tax : goal.returns-in-Tax
returns-in-Tax c =
    let n = c.args.value in
    ap {B = Values} (λ (v : Values). record v { tax = n }) c.other.view_is
    ∙ ap (λ (s : Setting). with_value s n c.args.self.now) (sym c.in-Tax.is)
