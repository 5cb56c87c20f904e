-- How much epochs come to at most.
use Rattle.std.proofs.Common.{◌≡◌, ◌∙◌, ℕ, zero, suc, ◌+◌, ◌-◌, ◌*◌, ◌^◌, ◌<◌, ◌≤◌, Bool, true, false, List, [], ◌∷◌, ◌++◌, codes, length, max, nat_lt, Option, Some, None, refl, sym, ap, subst, arith, if◌then◌else◌}
use Rattle.std.proofs.lemmas.Fmt.{length-decimal-le}
use Rattle.std.proofs.lemmas.List.{length-append}
use Rattle.std.proofs.lemmas.Bool.Decides.{nat_tests}
use Rattle.std.specs.Fmt.{decimal}
use Rattle.vm_recorded.specs.declared.counts.Counts.{Counts}
use Rattle.vm_recorded.specs.Counts.{absent_for, bytes_in, counted, counts_for, counts_of}
use Rattle.vm_recorded.specs.Hosts.{GuestView}
use Rattle.vm_recorded.specs.Limits.{longest_epoch, most_steps}
use Rattle.vm_recorded.specs.Parts.{ended, ended_steps}
use Rattle.vm_recorded.specs.Texts.{quoted}
use Rattle.vm_recorded.specs.Traces.{freed, touched}
use Rattle.vm_recorded.proofs.CountLemmas.{absent_for_some, absent_none, bytes_in_some}
use Rattle.vm_log.specs.Judging.{longest_of, steps_of}
use Rattle.vm_log.specs.Told.{IsSmall}

pub absent_steps : (n : ℕ) (c : Counts) → (absent_for n c).steps ≡ c.steps + n
absent_steps zero c = ap (λ (x : Counts). x.steps) (sym (absent_none zero c refl)) ∙ (let e : c.steps ≡ c.steps + 0 = omega arith in e)
absent_steps (suc n) c = ap (λ (x : Counts). x.steps) (absent_for_some n c)

pub absent_bytes : (n : ℕ) (c : Counts) → (absent_for n c).bytes ≡ c.bytes + 4 * n
absent_bytes zero c = ap (λ (x : Counts). x.bytes) (sym (absent_none zero c refl)) ∙ (let e : c.bytes ≡ c.bytes + 4 * 0 = omega arith in e)
absent_bytes (suc n) c = ap (λ (x : Counts). x.bytes) (absent_for_some n c)

pub absent_last : (n : ℕ) (c : Counts) → (absent_for n c).last ≡ c.last
absent_last zero c = ap (λ (x : Counts). x.last) (sym (absent_none zero c refl))
absent_last (suc n) c = ap (λ (x : Counts). x.last) (absent_for_some n c)

few_digits : (n : ℕ) → n < 2 ^ 32 → length (decimal n) ≤ 20
few_digits n few = length-decimal-le 20 n (omega arith) (omega arith) (omega arith)

one_step : (step : List ℕ) → length (ended_steps (step ∷ [])) ≡ length step + 3
unfolding quoted
one_step step = simp (length-append) (omega arith)

freed_few : (last units : ℕ) → last < 2 ^ 32 → length (ended_steps (freed last units)) ≤ 50
freed_few last units few = go (nat_lt units last) refl
  where
    go : (t : Bool) → nat_lt units last ≡ t → length (ended_steps (if t then (codes "f " ++ (decimal units ++ (codes " " ++ decimal (last - units)))) ∷ [] else [])) ≤ 50
    go true e =
        let step = codes "f " ++ (decimal units ++ (codes " " ++ decimal (last - units))) in
        let less : units < last = grind (arith, nat_tests) in
        let whole : length step ≡ 2 + (length (decimal units) + (1 + length (decimal (last - units)))) = omega (arith, length-append (decimal units) (codes " " ++ decimal (last - units))) in
        let first = few_digits units (omega (arith, less, few)) in
        let second = few_digits (last - units) (omega (arith, few)) in
        subst (λ (n : ℕ). n ≤ 50) (sym (one_step step)) (omega (arith, whole, first, second))
    go false e = omega arith

touched_few : (units : ℕ) → units < 2 ^ 32 → length (ended_steps (touched units)) ≤ 30
touched_few units also = go (nat_lt 0 units)
  where
    go : (t : Bool) → length (ended_steps (if t then (codes "t 0 " ++ decimal units) ∷ [] else [])) ≤ 30
    go true =
        let step = codes "t 0 " ++ decimal units in
        let whole : length step ≡ 4 + length (decimal units) = omega arith in
        let first = few_digits units also in
        subst (λ (n : ℕ). n ≤ 30) (sym (one_step step)) (omega (arith, whole, first))
    go false = omega arith

pub bytes_few : (last units : ℕ) → last < 2 ^ 32 → units < 2 ^ 32 → bytes_in last (Some units) ≤ 100
bytes_few last units few also = omega (arith, bytes_in_some last units, freed_few last units few, touched_few units also)

pub counted_small : (epoch gap units : ℕ) (c : Counts) → epoch ≤ 10000 → gap ≤ epoch → c.last < 2 ^ 32 → units < 2 ^ 32 → IsSmall epoch c → IsSmall (epoch + 1) (counted (absent_for gap c) (Some units))
counted_small epoch gap units c few within last also small =
    let steps = absent_steps gap c in
    let bytes = absent_bytes gap c in
    let same = absent_last gap c in
    let more = bytes_few (absent_for gap c).last units (omega (arith, same, last)) also in
    record { steps = omega (arith, steps, same, small.steps, last, also, within, few); bytes = omega (arith, bytes, more, small.bytes, within, few) }

pub steps_for : (guests : List GuestView) → steps_of (counts_for guests) ≡ most_steps guests
unfolding counts_of
steps_for [] = refl
steps_for (g ∷ guests) = ap (λ (n : ℕ). max (counts_of g.uses).steps n) (steps_for guests)

pub longest_for : (guests : List GuestView) → longest_of (counts_for guests) ≡ longest_epoch guests
unfolding counts_of
longest_for [] = refl
longest_for (g ∷ guests) = ap (λ (n : ℕ). max (counts_of g.uses).longest n) (longest_for guests)
