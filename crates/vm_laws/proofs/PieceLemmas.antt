-- Pages in swap, from piece to piece of an epoch.
use Rattle.std.proofs.Common.{◌≡◌, ℕ, zero, suc, ◌+◌, ◌-◌, ◌<◌, ◌≤◌, Bool, true, false, List, [], ◌∷◌, ◌++◌, Option, Some, None, is_some, length, map, nat_le, nat_lt, if◌then◌else◌, get_or, refl, sym, ap, ◌∙◌, subst, inl, inr, arith}
use Rattle.std.proofs.lemmas.Bool.{cases_lt, ltb-true}
use Rattle.vm_balloon.specs.Device.{with_early_use}
use Rattle.vm_guest.specs.Config.{must_tell}
use Rattle.vm_guest.specs.Epoch.{closed}
use Rattle.vm_guest.specs.Good.{HasNothingPosted, IsGood, IsMemory, IsSound}
use Rattle.vm_guest.specs.Memory.{Memory, has_spare, is_out_place, is_resident, resident, swapped, with_place, without_victim}
use Rattle.vm_guest.specs.Pieces.{after_pieces, piece, pieces}
use Rattle.vm_guest.specs.Record.{GuestRecord, is_ballooned}
use Rattle.vm_guest.specs.Steps.{after_step, current_step, effect, executed, has_stalled, most_raw_posts, next_step, one_step, sampled, stall_of}
use Rattle.vm_guest.specs.Touch.{evicted, framed, with_demand, marked_used, placed_in, taken_early, touched}
use Rattle.vm_guest.proofs.MemoryLemmas.{all_resident, resident-placed, resident-without_victim, resident_below, swapped-placed, victim, victim_resident, without_victim-memory}
use Rattle.vm_guest.proofs.PieceLemmas.{pieces-epoch}
use Rattle.vm_guest.proofs.PlaceLemmas.{count-moved, one_if, place_of_other}
use Rattle.vm_guest.proofs.StepLemmas.{current_step-within}
use Rattle.vm_guest.proofs.WordLemmas.{word_below}
use Rattle.vm_pagemap.specs.declared.page_map.Place.{Place}
use Rattle.vm_pagemap.specs.declared.page_map.Place.TheVariants.{Absent, In, Out}
use Rattle.vm_pagemap.specs.PageMap.{is_in_place}
use Rattle.vm_pages.specs.Pages.{count}
use Rattle.vm_sampling.specs.Words.{word}
use Rattle.vm_trace.specs.declared.step.Action.{Action}
use Rattle.vm_trace.specs.declared.step.Action.TheVariants.{Read, Write, Touch, Free, Idle, Yield, Post, Actual}
use Rattle.vm_trace.specs.Limits.{IsWithin}
use Rattle.vm_tally.specs.Counts.{swapped_of}
use Rattle.vm_laws.specs.Swapped.{IsMostAtAnEnd, swapped_after}

-- no page goes out for room before all frames are under pages, and then none that is out comes back without another one
pub record Goes (old new : GuestRecord) : Type 0 where
  pub held : new.memory.held ≡ old.memory.held
  pub more_in : resident old.memory ≤ resident new.memory
  pub with_spare : resident old.memory < old.memory.held → swapped_of new ≤ swapped_of old
  pub without : old.memory.held ≤ resident old.memory → swapped_of old ≤ swapped_of new

goes-either : {g x y : GuestRecord} (b : Bool) → Goes g x → Goes g y → Goes g (if b then x else y)
goes-either true k l = k
goes-either false k l = l

-- from pages in the same places, and as many frames
goes-from : {a b c : GuestRecord} → a.memory.places ≡ b.memory.places → a.memory.held ≡ b.memory.held → Goes b c → Goes a c
goes-from {a} {b} {c} places held k =
    let same : resident a.memory ≡ resident b.memory = ap (λ (l : List Place). count (map is_in_place l)) places in
    let out : swapped_of a ≡ swapped_of b = ap (λ (l : List Place). count (map is_out_place l)) places in
    let kept = k.held in
    let more = k.more_in in
    record {
      held = omega (arith, held, kept);
      more_in = omega (arith, same, more);
      with_spare = λ spare. (let room : resident b.memory < b.memory.held = omega (arith, spare, same, held) in omega (arith, k.with_spare room, out));
      without = λ full. (let all : b.memory.held ≤ resident b.memory = omega (arith, full, same, held) in omega (arith, k.without all, out));
    }

-- where no page changes its place
goes-kept : (g : GuestRecord) → Goes g g
goes-kept g = record { held = refl; more_in = omega arith; with_spare = λ _. omega arith; without = λ _. omega arith }

kept : {g x : GuestRecord} → x.memory.places ≡ g.memory.places → x.memory.held ≡ g.memory.held → Goes g x
kept {g} {x} places held = goes-from (sym places) (sym held) (goes-kept x)

-- ---- a touch

placed-goes : (size : ℕ) (g : GuestRecord) (page : ℕ) → page < size → is_resident g.memory page ≡ false → has_spare g.memory ≡ true → IsMemory size g.memory
    → Goes g (placed_in g page)
placed-goes size g page below not_in spare good =
    let m = g.memory in
    let places_size = good.places_size in
    let room = ltb-true (resident m) m.held spare in
    let placed = resident-placed m page (omega arith) not_in in
    let less = swapped-placed m page in
    record { held = refl; more_in = omega (arith, placed); with_spare = λ _. less; without = λ full. absurd (omega (arith, full, room)) }

in-is_not_out : (place : Place) → is_in_place place ≡ true → is_out_place place ≡ false
in-is_not_out Absent there = refl
in-is_not_out In there = refl
in-is_not_out Out there = absurd (cc)

one_if_few : (b : Bool) → one_if b ≤ 1
one_if_few true = omega arith
one_if_few false = omega arith

replaced-goes : (size : ℕ) (g : GuestRecord) (page : ℕ) → page < size → is_resident g.memory page ≡ false → has_spare g.memory ≡ false → IsMemory size g.memory
    → Goes g (placed_in (with_demand (evicted g)) page)
replaced-goes size g page below not_in none good =
    let m = g.memory in
    let w = word g.generator in
    let few = word_below g.generator in
    let places_size = good.places_size in
    let some_held = good.some_held in
    let full = all_resident size m none good in
    let one_less = resident-without_victim size m w few none good in
    let gone = without_victim-memory size m w good in
    let gone_size = gone.places_size in
    let there = victim_resident m w few (omega arith) in
    let there_below = resident_below size m (victim m w) there good in
    let differs : page ≡ victim m w → ⊥ = λ same. (let no : false ≡ true = sym not_in ∙ (ap (is_resident m) same ∙ there) in absurd (cc)) in
    let still_not_in : is_resident (without_victim m w) page ≡ false =
    ap is_in_place (place_of_other m.places (victim m w) page Out differs) ∙ not_in in
    let back = resident-placed (without_victim m w) page (omega arith) still_not_in in
    let was_in : one_if (is_out_place (get_or m.places (victim m w) Absent)) ≡ 0 = ap one_if (in-is_not_out (get_or m.places (victim m w) Absent) there) in
    let out : swapped (without_victim m w) ≡ swapped m + 1 = omega (arith, count-moved is_out_place m.places (victim m w) Out (omega arith), was_in) in
    let came = count-moved is_out_place (without_victim m w).places page In (omega arith) in
    let one = one_if_few (is_out_place (get_or (without_victim m w).places page Absent)) in
    let more : swapped m ≤ swapped (with_place (without_victim m w) page In) = omega (arith, out, came, one) in
    record { held = refl; more_in = omega (arith, back, one_less, full); with_spare = λ spare. absurd (omega (arith, spare, full)); without = λ _. more }

framed-goes : (g : GuestRecord) (size page : ℕ) → page < size → IsMemory size g.memory → Goes g (framed g page)
framed-goes g size page below good = go (is_resident g.memory page) (has_spare g.memory) refl refl
  where
    go : (there spare : Bool) → is_resident g.memory page ≡ there → has_spare g.memory ≡ spare
        → Goes g (if there then g else (if spare then placed_in g page else placed_in (with_demand (evicted g)) page))
    go true spare is_in is_spare = goes-kept g
    go false true not_in is_spare = placed-goes size g page below not_in is_spare good
    go false false not_in none = replaced-goes size g page below not_in none good

early-memory : (g : GuestRecord) (page : ℕ) → (taken_early g page).memory ≡ g.memory
early-memory g page = go (is_ballooned g page)
  where
    go : (b : Bool) → (if b then record g { device = with_early_use g.device page; used_early = g.used_early ++ page ∷ [] } else g).memory ≡ g.memory
    go true = refl
    go false = refl

touched-goes : (g : GuestRecord) (size page : ℕ) → page < size → IsMemory size g.memory → Goes g (touched g page)
touched-goes g size page below good =
    let used = marked_used (taken_early g page) page in
    let same : used.memory ≡ g.memory = early-memory g page in
    goes-from (ap (λ (m : Memory). m.places) (sym same)) (ap (λ (m : Memory). m.held) (sym same))
    (framed-goes used size page below (subst (IsMemory size) (sym same) good))

-- ---- a step

effect-goes : (g : GuestRecord) (action : Action) → IsWithin g.config.size action → IsSound g → Goes g (effect g action)
effect-goes g (Read page offset len) below sound =
    let k = touched-goes g g.config.size page below sound.memory in
    record { held = k.held; more_in = k.more_in; with_spare = k.with_spare; without = k.without }
effect-goes g (Write page offset bytes) below sound =
    let k = touched-goes g g.config.size page below sound.memory in
    record { held = k.held; more_in = k.more_in; with_spare = k.with_spare; without = k.without }
effect-goes g (Touch page) below sound = touched-goes g g.config.size page below sound.memory
effect-goes g (Free page) below sound = kept refl refl
effect-goes g Idle below sound = goes-kept g
effect-goes g Yield below sound = goes-kept g
effect-goes g (Actual pages) below sound = kept refl refl
effect-goes g (Post queue bytes) below sound = goes-either (nat_lt g.counts.raw_posts most_raw_posts) (kept refl refl) (kept refl refl)

executed-goes : (g : GuestRecord) (action : Action) → Goes g (effect g action) → Goes g (executed g action)
executed-goes g action k =
    goes-either (is_some (next_step (sampled (effect g action))))
    (record { held = k.held; more_in = k.more_in; with_spare = k.with_spare; without = k.without })
    (record { held = k.held; more_in = k.more_in; with_spare = k.with_spare; without = k.without })

after_step-goes : (g : GuestRecord) (stall : Option ℕ) → IsSound g → Goes g (after_step g (current_step g) stall)
after_step-goes g None sound = executed-goes g (current_step g) (effect-goes g (current_step g) (current_step-within g sound) sound)
after_step-goes g (Some page) sound = kept refl refl

one_step-goes : (g : GuestRecord) → IsSound g → Goes g (one_step g)
one_step-goes g sound = goes-either (has_stalled g) (goes-kept g) (after_step-goes g (stall_of g (current_step g)) sound)

-- ---- a piece

closed-goes : (g : GuestRecord) → Goes g (closed g)
closed-goes g = goes-either (must_tell g.config) (goes-kept g) (kept refl refl)

piece-goes : (k : ℕ) (g : GuestRecord) → IsSound g → Goes g (piece k g)
piece-goes zero g sound = goes-either g.progress.blocked (goes-kept g) (goes-either g.config.own_driver (kept refl refl) (kept refl refl))
piece-goes (suc k) g sound =
    goes-either g.progress.blocked (goes-kept g)
    (goes-either (nat_le (suc k) g.config.quantum) (one_step-goes g sound) (closed-goes g))

-- ---- all pieces

module _ (g : GuestRecord) (sound : (n : ℕ) → n ≤ pieces g → IsSound (after_pieces n g)) where
  abbrev memory_after : ℕ → Memory
  memory_after n = (after_pieces n g).memory

  next-goes : (n : ℕ) → n ≤ pieces g → Goes (after_pieces n g) (after_pieces (suc n) g)
  next-goes n within = piece-goes n (after_pieces n g) (sound n within)

  -- as long as there is a spare, no more are in swap than at the beginning
  since-start : (n : ℕ) → n ≤ pieces g → resident (memory_after n) < (memory_after n).held → swapped_after n g ≤ swapped_of g
  since-start zero within spare = omega arith
  since-start (suc n) within spare =
      let k = next-goes n (omega arith) in
      let held = k.held in
      let more_in = k.more_in in
      let room : resident (memory_after n) < (memory_after n).held = omega arith in
      let less = k.with_spare room in
      let before = since-start n (omega arith) room in
      omega (arith, less, before)

  -- without one it stays so, and no fewer are in swap from then on
  record IsLeastFrom (n later : ℕ) : Type 0 where
    full : (memory_after later).held ≤ resident (memory_after later)
    least : swapped_after n g ≤ swapped_after later g

  to-end : (n more : ℕ) → n + more ≤ pieces g → (memory_after n).held ≤ resident (memory_after n) → IsLeastFrom n (n + more)
  to-end n zero within full =
      let here : n ≡ n + 0 = omega arith in
      subst (IsLeastFrom n) here (record { full = full; least = omega arith })
  to-end n (suc more) within full =
      let next : suc (n + more) ≡ n + suc more = omega arith in
      let so_far = to-end n more (omega arith) full in
      let k = next-goes (n + more) (omega arith) in
      let held = k.held in
      let more_in = k.more_in in
      let still = so_far.full in
      let least = so_far.least in
      let up = k.without still in
      subst (IsLeastFrom n) next (record { full = omega (arith, held, more_in, still); least = omega (arith, least, up) })

  at-an-end : IsMostAtAnEnd g
  at-an-end n within =
      elim (cases_lt (resident (memory_after n)) (memory_after n).held) [
        | inl spare ↦ omega (arith, since-start n within spare)
        | inr full ↦
            let rest : n + (pieces g - n) ≡ pieces g = omega arith in
            let end = subst (IsLeastFrom n) rest (to-end n (pieces g - n) (omega arith) full) in
            omega (arith, end.least, ap swapped_of (pieces-epoch g))
      ]

pub most-at-an-end : (g : GuestRecord) → ((k : ℕ) (g : GuestRecord) → k ≤ pieces g → HasNothingPosted g → IsGood g → IsGood (after_pieces k g))
    → IsGood g → HasNothingPosted g → IsMostAtAnEnd g
most-at-an-end g stays good posted = at-an-end g (λ n within. (let now = stays n g within posted good in now.sound))
