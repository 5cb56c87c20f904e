-- A run that is wanted, and the configurations that serve for it.
use Rattle.std.specs.Prelude.{◌≡◌, ℕ, Bool, is_some, List, map}
use Rattle.vm_config.specs.declared.config.Config.{Config}
use Rattle.vm_sweep.specs.declared.outcome.Detail.{Detail}
use Rattle.vm_sweep.specs.declared.variant.Variant.{Variant}
use Rattle.vm_tally.specs.Combinations.{Values, configured}
use Rattle.vm_variants.specs.Changes.{Variation, changed}

-- which guests a run changes: the places of those with other minimums, and with other shares, and whether each gets a percentage
pub record Shape : Type 0 where
  pub percent : Bool
  pub minimums : List ℕ
  pub shares : List ℕ

abbrev pub shape_of : Variation → Shape
shape_of w = record { percent = is_some w.percent; minimums = map (λ m. m.place) w.minimums; shares = map (λ m. m.place) w.shares }

-- a configuration that differs from a first one in nothing but what all such runs change
abbrev pub IsVaried : Config → Shape → Config → Type 0
IsVaried base shape c = (v : Values) (w : Variation) → shape_of w ≡ shape → changed w (configured v c) ≡ changed w (configured v base)

-- a run that is wanted: what it has in the place of the configuration's own, and what is told of it
pub record Order : Type 0 where
  pub base : Config
  pub variant : Variant
  pub detail : Detail

-- that of a configuration
abbrev pub order_of : Detail → Config → Variant → Order
order_of detail config variant = record { base = config; variant = variant; detail = detail }
