-- A recording that is judged.
use Rattle.std.proofs.Common.{◌≡◌, ◌∙◌, ℕ, zero, suc, ◌*◌, ◌^◌, ◌<◌, ◌≤◌, Bool, true, false, nat_lt, List, [], ◌∷◌, Option, Some, None, get_or, length, refl, sym, ap, arith, if◌then◌else◌}
use Rattle.std.proofs.lemmas.Bool.Decides.{nat_tests}
use Rattle.vm_recorded.specs.declared.counts.Counts.{Counts}
use Rattle.vm_recorded.specs.declared.limit.Limit.{Limit}
use Rattle.vm_recorded.specs.declared.limit.Limit.TheVariants.{Epochs, Guests, Steps, EpochSteps}
use Rattle.vm_recorded.specs.Hosts.{GuestView, HostView}
use Rattle.vm_recorded.specs.Limits.{has_long_epoch, has_many_steps, is_long, limit_of, limit_with_bytes, or_bytes}
use Rattle.std.specs.List.{list_any}
use Rattle.vm_log.specs.Judging.{AreShort}
use Rattle.vm_log.specs.Told.{AreSmall}

-- where no limit is passed there are few guests
few : (many : ℕ) (epochs guests : Bool) (rest : Option Limit) → nat_lt 256 many ≡ guests → (if epochs then Some Epochs else (if guests then Some Guests else rest)) ≡ None → many ≤ 256
few many true guests rest is e = absurd (cc)
few many false true rest is e = absurd (cc)
few many false false rest is e = grind (arith, nat_tests)

pub few_guests : (host : HostView) → limit_of host ≡ None → length host.guests ≤ 256
unfolding limit_of
few_guests host e = few (length host.guests) (nat_lt 10000 host.epochs) (nat_lt 256 (length host.guests)) _ refl e

pub few_bytes : (epochs : ℕ) (counts : List Counts) → AreSmall epochs counts → epochs ≤ 10001 → (k : ℕ) (d : Counts) → k < length counts → (get_or counts k d).bytes ≤ 2 ^ 50
few_bytes epochs [] small some k d less = absurd (omega arith)
few_bytes epochs (c ∷ counts) small some zero d less = omega (arith, small.0.bytes)
few_bytes epochs (c ∷ counts) small some (suc k) d less = few_bytes epochs counts small.1 some k d (omega arith)

pub short_names : (guests : List GuestView) → AreShort guests → (k : ℕ) (d : GuestView) → k < length guests → length (get_or guests k d).name ≤ 2 ^ 32
short_names [] short k d less = absurd (omega arith)
short_names (g ∷ guests) short zero d less = omega (arith, short.0)
short_names (g ∷ guests) short (suc k) d less = short_names guests short.1 k d (omega arith)

early : (many : ℕ) (epochs : Bool) (rest : Option Limit) → nat_lt 10000 many ≡ epochs → (if epochs then Some Epochs else rest) ≡ None → many ≤ 10000
early many true rest is e = absurd (cc)
early many false rest is e = grind (arith, nat_tests)

pub few_epochs : (host : HostView) → limit_of host ≡ None → host.epochs ≤ 10000
unfolding limit_of
few_epochs host e = early host.epochs (nat_lt 10000 host.epochs) _ refl e

pub first_none : (host : HostView) → limit_with_bytes host ≡ None → limit_of host ≡ None
first_none host e = go (limit_of host) refl e
  where
    go : (o : Option Limit) → limit_of host ≡ o → or_bytes o (is_long host) ≡ None → limit_of host ≡ None
    go None is e = is
    go (Some l) is e = absurd (cc)
