-- The limits of a host, by what its guests come to.
use Rattle.std.proofs.Common.{◌≡◌, ◌∙◌, ℕ, Bool, nat_lt, ◌||◌, List, [], ◌∷◌, length, max, Option, Some, None, if◌then◌else◌, refl, ap, arith}
use Rattle.std.proofs.lemmas.Bool.Decides.{nat_tests}
use Rattle.std.specs.List.{list_any}
use Rattle.vm_recorded.specs.declared.limit.Limit.{Limit}
use Rattle.vm_recorded.specs.declared.limit.Limit.TheVariants.{Epochs, Guests, Steps, EpochSteps}
use Rattle.vm_recorded.specs.Hosts.{GuestView, HostView}
use Rattle.vm_recorded.specs.Limits.{has_long_epoch, has_many_steps, limit_by, limit_of, longest_epoch, most_steps}
use Rattle.vm_recorded.specs.Traces.{longest_from, steps_from}

one_above : (least a b : ℕ) → (nat_lt least a || nat_lt least b) ≡ nat_lt least (max a b)
one_above least a b = grind (arith, nat_tests)

many_steps : (guests : List GuestView) → list_any has_many_steps guests ≡ nat_lt 1000000 (most_steps guests)
many_steps [] = refl
many_steps (g ∷ guests) =
    ap (λ (b : Bool). has_many_steps g || b) (many_steps guests) ∙ one_above 1000000 (steps_from 0 g.uses) (most_steps guests)

long_epoch : (guests : List GuestView) → list_any has_long_epoch guests ≡ nat_lt 65536 (longest_epoch guests)
long_epoch [] = refl
long_epoch (g ∷ guests) =
    ap (λ (b : Bool). has_long_epoch g || b) (long_epoch guests) ∙ one_above 65536 (longest_from 0 g.uses) (longest_epoch guests)

abbrev judged : (epochs guests steps longest : Bool) → Option Limit
judged epochs guests steps longest =
    if epochs then Some Epochs else (if guests then Some Guests else (if steps then Some Steps else (if longest then Some EpochSteps else None)))

-- by the greatest of the guests
pub limit_of_by : (host : HostView)
    → limit_of host ≡ limit_by host.epochs (length host.guests) (most_steps host.guests) (longest_epoch host.guests)
unfolding limit_of
limit_of_by host =
    ap (λ (b : Bool). judged (nat_lt 10000 host.epochs) (nat_lt 256 (length host.guests)) b (list_any has_long_epoch host.guests)) (many_steps host.guests)
    ∙ ap (judged (nat_lt 10000 host.epochs) (nat_lt 256 (length host.guests)) (nat_lt 1000000 (most_steps host.guests))) (long_epoch host.guests)
