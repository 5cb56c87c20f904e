-- Minimums above what a `setmem` asks for, which is then refused.
use Rattle.std.specs.Prelude.{ℕ, ◌+◌, ◌==◌, ◌&&◌, ◌||◌, Bool, true, false, List, [], ◌∷◌, if◌then◌else◌, nat_le, nat_lt, Option, Some, None}
use Rattle.std.specs.Option.{option_map}
use Rattle.vm_check.specs.declared.minimum.Turn.{Turn}
use Rattle.vm_check.specs.declared.order.Ask.{Ask}
use Rattle.vm_check.specs.declared.order.Ask.TheVariants.{Start, Destroy, SetMemory, SetMinimum, Other}
use Rattle.vm_check.specs.declared.order.Asked.{Asked}
use Rattle.vm_check.specs.declared.order.Asked.TheVariants.{Of, Wrong}
use Rattle.vm_check.specs.declared.order.Order.{Order}
use Rattle.vm_check.specs.declared.what.What.{What}
use Rattle.vm_check.specs.declared.what.What.TheVariants.{AboveCommand}

-- ---- when commands run: by their epochs, and those of one epoch by their numbers

abbrev pub comes_before : Turn → Turn → Bool
comes_before a b = nat_lt a.at b.at || (a.at == b.at && nat_lt a.number b.number)

abbrev pub is_before : Option Turn → Turn → Bool
is_before None turn = false
is_before (Some first) turn = comes_before first turn

-- ---- another minimum

abbrev pub is_tune : Ask → Bool
is_tune Start = false
is_tune Destroy = false
is_tune (SetMemory pages) = false
is_tune SetMinimum = true
is_tune Other = false

-- the guest of a number is told another minimum
abbrev pub tunes : ℕ → Asked → Bool
tunes guest (Of other ask) = other == guest && is_tune ask
tunes guest (Wrong wrong) = false

-- .. by one of these commands, whose numbers begin here, before a turn
abbrev pub tuned_before : (guest : ℕ) → Turn → (number : ℕ) → List Order → Bool
tuned_before guest turn number [] = false
tuned_before guest turn number (order ∷ orders) =
    (tunes guest order.asked && comes_before (record { at = order.at; number = number }) turn) || tuned_before guest turn (number + 1) orders

-- ---- a `setmem` below the minimum

-- the pages that it asks for
abbrev pub cut_by : (guest min other : ℕ) → Ask → Option ℕ
cut_by guest min other Start = None
cut_by guest min other Destroy = None
cut_by guest min other (SetMemory pages) = if other == guest && nat_lt pages min then Some pages else None
cut_by guest min other SetMinimum = None
cut_by guest min other Other = None

abbrev pub cut_to : (guest min : ℕ) → Asked → Option ℕ
cut_to guest min (Of other ask) = cut_by guest min other ask
cut_to guest min (Wrong wrong) = None

-- the command of a number, if it runs, and while the minimum is the guest's own
abbrev pub cut_at : (epochs guest min : ℕ) → (is_tuned : Turn → Bool) → (number : ℕ) → Order → Option What
cut_at epochs guest min is_tuned number order =
    if nat_le epochs order.at || is_tuned (record { at = order.at; number = number }) then None
    else option_map (λ pages. AboveCommand min pages number) (cut_to guest min order.asked)

-- the first one of two
abbrev pub first_of_two : Option What → Option What → Option What
first_of_two None second = second
first_of_two (Some first) second = Some first

-- the first one of these commands, whose numbers begin here
abbrev pub first_cut : (epochs guest min : ℕ) → (is_tuned : Turn → Bool) → (number : ℕ) → List Order → Option What
first_cut epochs guest min is_tuned number [] = None
first_cut epochs guest min is_tuned number (order ∷ orders) =
    first_of_two (cut_at epochs guest min is_tuned number order) (first_cut epochs guest min is_tuned (number + 1) orders)

abbrev pub minimum_above : (epochs guest min : ℕ) → List Order → Option What
minimum_above epochs guest min orders = first_cut epochs guest min (λ turn. tuned_before guest turn 0 orders) 0 orders
