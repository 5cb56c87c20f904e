use Rattle.std.proofs.Common.{◌≡◌, ℕ, List, All, IfOk, subst, sym}
use Rattle.vm_sweep.specs.Combinations.{Allows, looped_at, spread_over}
use Rattle.vm_sweep.specs.declared.variant.Looped.{Looped}
use Rattle.vm_variants.specs.declared.guest_setting.GuestSetting.{GuestSetting}
use Rattle.vm_variants.specs.declared.guest_setting.GuestSetting.TheVariants.{Min, Shares}
use Rattle.vm_sweep.proofs.lists.spread_guest.Goals as goal

any-value : (setting : GuestSetting) (place : ℕ) (values : List ℕ) → All (Allows (looped_at setting place)) values
any-value Min place values = λ k d less. tt
any-value Shares place values = λ k d less. tt

pub spread_over-requires : goal.spread_over-requires
spread_over-requires c =
    subst (λ (what : Looped). All (Allows what) c.args.values.now) (sym c.looped_at.ensures) (any-value c.args.setting c.args.place c.args.values.now)

pub returns : goal.returns
returns c =
    subst (λ (what : Looped). IfOk c.spread_over.result (λ list. list.items ≡ spread_over what c.args.values.now c.args.before.now)) c.looped_at.ensures
    c.spread_over.ensures
