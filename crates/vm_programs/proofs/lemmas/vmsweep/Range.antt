-- Values that lie in the limits of a list lie in the range of its setting.
use Rattle.std.proofs.Common.{◌≡◌, ◌≤◌, ℕ, List, Option, Some, None, IfSome, subst}
use Rattle.std.specs.List.{All}
use Rattle.vm_config.specs.declared.settings.Setting.{Setting}
use Rattle.vm_config.specs.Settings.{IsInRange, greatest_of, least_of}
use Rattle.vm_lists.specs.declared.bounds.Limits.{Limits}
use Rattle.vm_lists.specs.Lists.{IsWithin}
use Rattle.vm_variants.specs.Changes.{IsPercent}

value-in-range : (setting : Setting) (limits : Limits) → limits.least ≡ least_of setting → limits.greatest ≡ greatest_of setting
    → (value : ℕ) → IsWithin limits value → IsInRange setting value
value-in-range setting limits least greatest value within = record {
  least = subst (λ (n : ℕ). n ≤ value) least within.least;
  greatest = subst (λ (n : ℕ). value ≤ n) greatest within.greatest;
}

pub in-range : (setting : Setting) (limits : Limits) → limits.least ≡ least_of setting → limits.greatest ≡ greatest_of setting
    → (list : Option (List ℕ)) → IfSome list (All (IsWithin limits)) → IfSome list (All (IsInRange setting))
in-range setting limits least greatest None within = tt
in-range setting limits least greatest (Some values) within = λ k d less.
    value-in-range setting limits least greatest _ (within k d less)

-- from 1 to 100
is-percent : (limits : Limits) → limits.least ≡ 1 → limits.greatest ≡ 100 → (value : ℕ) → IsWithin limits value → IsPercent value
is-percent limits least greatest value within = record {
  some = subst (λ (n : ℕ). n ≤ value) least within.least;
  within = subst (λ (n : ℕ). value ≤ n) greatest within.greatest;
}

pub are-percent : (limits : Limits) → limits.least ≡ 1 → limits.greatest ≡ 100 → (list : Option (List ℕ)) → IfSome list (All (IsWithin limits))
    → IfSome list (All IsPercent)
are-percent limits least greatest None within = tt
are-percent limits least greatest (Some values) within = λ k d less. is-percent limits least greatest _ (within k d less)
