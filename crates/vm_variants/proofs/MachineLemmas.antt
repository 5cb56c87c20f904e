-- The settings of a machine and the changes of its guests, in either order.
use Rattle.std.proofs.Common.{◌≡◌, ℕ, List, [], ◌∷◌, Option, None, Some, refl, ap, ◌∙◌}
use Rattle.vm_guest.specs.Config.{GuestConfig}
use Rattle.vm_config.specs.declared.config.Config.{Config}
use Rattle.vm_config.specs.declared.settings.Setting.{Setting}
use Rattle.vm_config.specs.declared.settings.Setting.TheVariants.{Frames, PageRate, Rebalance, Swap, Tax}
use Rattle.vm_config.specs.Settings.{with_setting}
use Rattle.vm_variants.specs.declared.guest_setting.GuestSetting.{GuestSetting}
use Rattle.vm_variants.specs.declared.guest_setting.GuestSetting.TheVariants.{Min, Shares}
use Rattle.vm_variants.specs.declared.guest_value.GuestValue.{GuestValue}
use Rattle.vm_variants.specs.Changes.{changed, with_percent, with_values, Variation}
use Rattle.vm_variants.specs.Variants.{with_each, with_guest_value, with_min_percent, with_seed_added, with_seeds_added}
use Rattle.vm_variants.proofs.RefusalLemmas.{RefuseAlike}

one-machine : (setting : GuestSetting) (place value : ℕ) (of_machine : Setting) (n : ℕ) (c : Config)
    → with_guest_value setting place value (with_setting of_machine n c) ≡ with_setting of_machine n (with_guest_value setting place value c)
one-machine setting place value Frames n c = refl
one-machine setting place value Swap n c = refl
one-machine setting place value Tax n c = refl
one-machine setting place value PageRate n c = refl
one-machine setting place value Rebalance n c = refl

each-machine : (change : GuestConfig → GuestConfig) (of_machine : Setting) (n : ℕ) (c : Config)
    → with_each change (with_setting of_machine n c) ≡ with_setting of_machine n (with_each change c)
each-machine change Frames n c = refl
each-machine change Swap n c = refl
each-machine change Tax n c = refl
each-machine change PageRate n c = refl
each-machine change Rebalance n c = refl

percent-machine : (percent : Option ℕ) (of_machine : Setting) (n : ℕ) (c : Config)
    → with_percent percent (with_setting of_machine n c) ≡ with_setting of_machine n (with_percent percent c)
percent-machine None of_machine n c = refl
percent-machine (Some percent) of_machine n c = each-machine (with_min_percent percent) of_machine n c

values-machine : (setting : GuestSetting) (values : List GuestValue) (of_machine : Setting) (n : ℕ) (c : Config)
    → with_values setting values (with_setting of_machine n c) ≡ with_setting of_machine n (with_values setting values c)
values-machine setting [] of_machine n c = refl
values-machine setting (v ∷ vs) of_machine n c =
    ap (with_values setting vs) (one-machine setting v.place v.value of_machine n c)
    ∙ values-machine setting vs of_machine n (with_guest_value setting v.place v.value c)

pub changed-machine : (v : Variation) (of_machine : Setting) (n : ℕ) (c : Config)
    → changed v (with_setting of_machine n c) ≡ with_setting of_machine n (changed v c)
changed-machine v of_machine n c =
    let first = with_percent v.percent c in
    let second = with_values Min v.minimums first in
    ap (λ (d : Config). with_seeds_added v.added (with_values Shares v.shares (with_values Min v.minimums d))) (percent-machine v.percent of_machine n c)
    ∙ ap (λ (d : Config). with_seeds_added v.added (with_values Shares v.shares d)) (values-machine Min v.minimums of_machine n first)
    ∙ ap (with_seeds_added v.added) (values-machine Shares v.shares of_machine n second)
    ∙ each-machine (with_seed_added v.added) of_machine n (with_values Shares v.shares second)

-- what is refused goes by the guests alone
pub machine-alike : (of_machine : Setting) (n : ℕ) (c : Config) → RefuseAlike c (with_setting of_machine n c)
machine-alike Frames n c = record { same = λ setting place value. refl }
machine-alike Swap n c = record { same = λ setting place value. refl }
machine-alike Tax n c = record { same = λ setting place value. refl }
machine-alike PageRate n c = record { same = λ setting place value. refl }
machine-alike Rebalance n c = record { same = λ setting place value. refl }
