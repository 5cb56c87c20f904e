-- What is drawn of a host log: of each good sample what is told of it, and of all of them the last.
use Rattle.std.specs.Prelude.{ℕ, ◌-◌, List, [], ◌∷◌, drop, length, map, Option, Some, None, Result, Ok, Err}
use Rattle.vm_plan.specs.declared.state.State.{State}
use Rattle.vm_samples.specs.declared.sample.BadSample.{BadSample}
use Rattle.vm_samples.specs.Samples.{DomainView}
use Rattle.vm_steer.specs.declared.fate.Fate.{Fate}
use Rattle.vm_steer.specs.declared.fate.Fate.TheVariants.{Left, Steered}
use Rattle.vm_steer.specs.Entries.{ToldView, names_in}
use Rattle.vm_steer.specs.Steering.{SteeringView, steered}
use Rattle.vm_steer_charts.specs.declared.rows.Numbers.{Numbers}

-- ---- one sample

pub record Row : Type 0 where
  pub state : State
  -- the units that were free
  pub free : ℕ
  -- the domains, in order, and the numbers of each that is steered
  pub names : List (List ℕ)
  pub numbers : List (Option Numbers)

-- a domain that is left alone has none
abbrev pub numbers_of : Fate → Option Numbers
numbers_of (Left left) = None
numbers_of (Steered domain) = Some (record { target = domain.remembered.target; held = domain.remembered.held; used = domain.used })

abbrev pub row_of : ToldView → Row
row_of told = record {
  state = told.state;
  free = told.free;
  names = names_in told.domains;
  numbers = map (λ e. numbers_of e.fate) told.domains;
}

-- ---- all samples

-- what is told of each good sample, in order
abbrev pub told_in : SteeringView → List (Result (List DomainView) BadSample) → List ToldView
told_in s [] = []
told_in s (Ok domains ∷ samples) = (steered s domains).last ∷ told_in (steered s domains) samples
told_in s (Err bad ∷ samples) = told_in s samples

-- the last so many of a list, or all where there are fewer
abbrev pub last_of : {A : Type 0} → (count : ℕ) → List A → List A
last_of count xs = drop (length xs - count) xs
