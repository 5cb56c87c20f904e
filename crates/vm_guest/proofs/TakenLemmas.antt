-- Frames that come from a machine, to a list or to a guest.
use Rattle.std.proofs.Common.{◌≡◌, ℕ, zero, suc, ◌+◌, ◌≤◌, ◌<◌, Bool, true, false, not, ltb, ◌&&◌, List, [], ◌∷◌, ◌++◌, refl, sym, ap, ◌∙◌, IsTrue, arith, subst}
use Rattle.std.proofs.lemmas.Bool.{lt-ltb}
use Rattle.std.proofs.lemmas.List.{append-nil, append_assoc}
use Rattle.std.specs.Cmp.{nat_cmp_total}
use Rattle.std.specs.FinSet as sets
use Rattle.std.specs.FinSet.{same_set, nat_cmp-IsAntisymmetric, contains-difference, contains-is_subset, is_subset-contains}
use Rattle.vm_frames.specs.Frame.{FrameView}
use Rattle.vm_frames.specs.Machine.{MachineView}
use Rattle.vm_pagemap.specs.declared.page_map.Page.{Page}
use Rattle.vm_pagemap.specs.FramesUnder.{frames_under}
use Rattle.vm_guest.specs.Frames.{AddsFrames, GivesOut, GivesOutSome, Numbers, numbers_among, times_among, times_under}
use Rattle.vm_guest.proofs.HoldingLemmas.{contains-numbers, contains-numbers_among, numbers_among-push, once-push, times_among-append}
use Rattle.vm_guest.proofs.NumberLemmas.{gives_out-none, gives_out-more, gives_out-fresh}

-- ---- to a list, one after the other

pub adds-none : (frames : List FrameView) (m : MachineView) → AddsFrames frames frames m m
adds-none frames m = record { taken = []; behind = sym (append-nil frames); once = λ n. omega arith; out = gives_out-none m }

pub adds-more : (old now : List FrameView) (frame : FrameView) (before mid later : MachineView) → AddsFrames old now before mid → sets.contains mid.out frame.number ≡ false
    → later ≡ record mid { out = sets.insert mid.out frame.number } → AddsFrames old (now ++ frame ∷ []) before later
adds-more old now frame before mid later a free is = record {
  taken = a.taken ++ frame ∷ [];
  behind = ap (λ (l : List FrameView). l ++ frame ∷ []) a.behind ∙ append_assoc old a.taken (frame ∷ []);
  once = once-push a.taken frame a.once (gives_out-fresh before mid (numbers_among a.taken) frame.number a.out free);
  out = gives_out-more before mid later (numbers_among a.taken) (numbers_among (a.taken ++ frame ∷ [])) frame.number a.out free is (numbers_among-push a.taken frame);
}

-- ---- to a list that had none

module _ (old new : List FrameView) (before after : MachineView) (none : old ≡ []) (a : AddsFrames old new before after) where
  only-taken : a.taken ≡ new
  only-taken = sym (a.behind ∙ ap (λ (l : List FrameView). l ++ a.taken) none)

  pub first-out : GivesOut before after (numbers_among new)
  first-out = subst (λ (l : List FrameView). GivesOut before after (numbers_among l)) only-taken a.out

  pub first-once : (n : ℕ) → times_among n new ≤ 1
  first-once = subst (λ (l : List FrameView). (n : ℕ) → times_among n l ≤ 1) only-taken a.once

-- ---- to a guest

-- a number that is held is out, and one that is taken was not
nothing-held : (held taken : ℕ) (out : Bool) → (ltb 0 held ≡ true → out ≡ true) → (ltb 0 taken ≡ true → out ≡ false) → 0 < taken → held ≡ 0
nothing-held zero taken out there free some = refl
nothing-held (suc held) taken out there free some =
    let no : false ≡ true = sym (free (lt-ltb 0 taken some)) ∙ there (lt-ltb 0 (suc held) (omega arith)) in
    absurd (cc)

both-once : (under spare taken later : ℕ) → later ≡ spare + taken → under + spare ≤ 1 → taken ≤ 1 → (0 < taken → under + spare ≡ 0) → under + later ≤ 1
both-once under spare zero later is few one none = omega (arith, is, few)
both-once under spare (suc taken) later is few one none = let nothing = none (omega arith) in omega (arith, is, nothing, one)

still-some : (a b : ℕ) → a ≤ b → ltb 0 a ≡ true → ltb 0 b ≡ true
still-some zero b few some = let no : false ≡ true = some in absurd (cc)
still-some (suc a) b few some = lt-ltb 0 b (omega (arith, few))

not-itself : (b : Bool) → false ≡ (b && not b)
not-itself true = refl
not-itself false = refl

came : (held taken all : ℕ) → all ≡ held + taken → (0 < taken → held ≡ 0) → ltb 0 taken ≡ (ltb 0 all && not (ltb 0 held))
came held zero all is none =
    let same : held ≡ all = omega (arith, is) in
    subst (λ (k : ℕ). false ≡ (ltb 0 k && not (ltb 0 held))) same (not-itself (ltb 0 held))
came held (suc taken) all is none =
    let nothing : held ≡ 0 = none (omega arith) in
    let now : ltb 0 all ≡ true = lt-ltb 0 all (omega (arith, is)) in
    let before : ltb 0 held ≡ false = ap (λ (k : ℕ). ltb 0 k) nothing in
    lt-ltb 0 (suc taken) (omega arith) ∙ sym (λ i. now i && not (before i))

module _ (pages : List Page) (spares later : List FrameView) (before after : MachineView) (a : AddsFrames spares later before after)
    (once : (n : ℕ) → times_under n pages + times_among n spares ≤ 1)
    (there : IsTrue (sets.is_subset (sets.union (frames_under pages) (numbers_among spares)) before.out)) where
  abbrev mine : Numbers
  mine = sets.union (frames_under pages) (numbers_among spares)

  abbrev mine-later : Numbers
  mine-later = sets.union (frames_under pages) (numbers_among later)

  times-later : (n : ℕ) → times_among n later ≡ times_among n spares + times_among n a.taken
  times-later n = ap (times_among n) a.behind ∙ times_among-append spares a.taken n

  none-mine : (n : ℕ) → 0 < times_among n a.taken → times_under n pages + times_among n spares ≡ 0
  none-mine n =
      nothing-held (times_under n pages + times_among n spares) (times_among n a.taken) (sets.contains before.out n)
      (λ some. is_subset-contains nat_cmp_total mine before.out there n (contains-numbers pages spares n ∙ some))
      (λ some. a.out.apart n (contains-numbers_among a.taken n ∙ some))

  pub once-later : (n : ℕ) → times_under n pages + times_among n later ≤ 1
  once-later n =
      both-once (times_under n pages) (times_among n spares) (times_among n a.taken) (times_among n later) (times-later n) (once n) (a.once n) (none-mine n)

  same-taken : numbers_among a.taken ≡ sets.difference mine-later mine
  same-taken = same_set nat_cmp_total nat_cmp-IsAntisymmetric _ _ (λ n.
      let all : times_under n pages + times_among n later ≡ times_under n pages + times_among n spares + times_among n a.taken = omega (arith, times-later n) in
      contains-numbers_among a.taken n
      ∙ came (times_under n pages + times_among n spares) (times_among n a.taken) (times_under n pages + times_among n later) all (none-mine n)
      ∙ sym (contains-difference nat_cmp_total mine-later mine n ∙ (λ i. contains-numbers pages later n i && not (contains-numbers pages spares n i))))

  pub out-later : GivesOutSome before after (sets.union (frames_under pages) (numbers_among spares)) (sets.union (frames_under pages) (numbers_among later))
  out-later = record {
    part = contains-is_subset nat_cmp_total mine mine-later (λ n in_mine.
        contains-numbers pages later n
        ∙ still-some (times_under n pages + times_among n spares) (times_under n pages + times_among n later) (omega (arith, times-later n)) (sym (contains-numbers pages spares n) ∙ in_mine));
    out = subst (λ (numbers : Numbers). GivesOut before after numbers) same-taken a.out;
  }
