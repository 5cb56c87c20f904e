-- For callers: frames add up after each call, by its definition alone.
use Rattle.std.proofs.Common.{◌≡◌, ℕ, zero, suc, true, false, ◌+◌, ◌*◌, ◌<◌, ◌≤◌, List, [], ◌∷◌, length, map, refl, ap, ◌∙◌, arith}
use Rattle.std.specs.Prelude.{IsSome, Option, Some, None, slice_get, slice_set}
use Rattle.std.specs.Option.{option_map}
use Rattle.vm_guest.specs.Boundary.{granted, released, without_spares}
use Rattle.vm_guest.specs.Config.{GuestConfig}
use Rattle.vm_guest.specs.Record.{GuestRecord}
use Rattle.vm_guest.specs.Start.{started}
use Rattle.vm_pool.specs.Changes.{all_changed, changed, with_free, frames_to_grant, frames_to_start, granted_at, lacking, released_at, spent, started_at, stopped_at, surplus_of, total_spares, with_min_at, with_min_held, with_released, with_spares_back, with_started, AreReleasable}
use Rattle.vm_pool.specs.Guests.{Guests, each_released, running, sum_of}
use Rattle.vm_pool.specs.Pool.{PoolView, first_pool, guest_at, held_by, one_if_runs, running_count, total_held, Conserves}
use Rattle.vm_pool.proofs.MoveLemmas.{held-granted, held-min, held-released, held-spares}
use Rattle.vm_pool.proofs.PoolLemmas.{products, runs-one, times-one, times-zero}

-- one guest changes, where there is one
held-set : (guests : List (Option GuestRecord)) (i : ℕ) (new : Option GuestRecord) → i < length guests
    → total_held (slice_set guests i new) + held_by (running (slice_get guests i)) ≡ total_held guests + held_by new
held-set [] i new there = absurd (omega (arith, there))
held-set (guest ∷ guests) zero new there = omega arith
held-set (guest ∷ guests) (suc i) new there = let rest = held-set guests i new (omega (arith, there)) in omega (arith, rest)

runs-set : (guests : List (Option GuestRecord)) (i : ℕ) (new : Option GuestRecord) → i < length guests
    → running_count (slice_set guests i new) + one_if_runs (running (slice_get guests i)) ≡ running_count guests + one_if_runs new
runs-set [] i new there = absurd (omega (arith, there))
runs-set (guest ∷ guests) zero new there = omega arith
runs-set (guest ∷ guests) (suc i) new there = let rest = runs-set guests i new (omega (arith, there)) in omega (arith, rest)

-- the guest at a position changes, or there is none
held-changed : (change : GuestRecord → GuestRecord) (guests : List (Option GuestRecord)) (i : ℕ)
    → total_held (slice_set guests i (option_map change (running (slice_get guests i)))) + held_by (running (slice_get guests i)) ≡ total_held guests + held_by (option_map change (running (slice_get guests i)))
held-changed change [] i = refl
held-changed change (guest ∷ guests) zero = omega arith
held-changed change (guest ∷ guests) (suc i) = let rest = held-changed change guests i in omega (arith, rest)

runs-same : (change : GuestRecord → GuestRecord) (guest : Option GuestRecord) → one_if_runs (option_map change guest) ≡ one_if_runs guest
runs-same change None = refl
runs-same change (Some g) = refl

runs-changed : (change : GuestRecord → GuestRecord) (guests : List (Option GuestRecord)) (i : ℕ) → running_count (slice_set guests i (option_map change (running (slice_get guests i)))) ≡ running_count guests
runs-changed change [] i = refl
runs-changed change (guest ∷ guests) zero = ap (λ n. n + running_count guests) (runs-same change guest)
runs-changed change (guest ∷ guests) (suc i) = ap (λ n. one_if_runs guest + n) (runs-changed change guests i)

pub conserves-with_free : (change : GuestRecord → GuestRecord) (count : ℕ) (p : PoolView) (i : ℕ) → held_by (option_map change (guest_at p i)) + count ≡ held_by (guest_at p i) → Conserves p → Conserves (with_free change count p i)
conserves-with_free change count p i fewer all =
    let held = held-changed change p.guests i in
    let aside = ap (λ n. p.overhead * n) (runs-changed change p.guests i) in
    omega (arith, held, aside, fewer, all)

pub conserves-spent : (change : GuestRecord → GuestRecord) (count : ℕ) (p : PoolView) (i : ℕ) → held_by (option_map change (guest_at p i)) ≡ held_by (guest_at p i) + count → count ≤ p.free → Conserves p
    → Conserves (spent change count p i)
conserves-spent change count p i more enough all =
    let held = held-changed change p.guests i in
    let aside = ap (λ n. p.overhead * n) (runs-changed change p.guests i) in
    omega (arith, held, aside, more, enough, all)

-- a call that leaves who holds what
same-held : (change : GuestRecord → GuestRecord) (guest : Option GuestRecord) → ((g : GuestRecord) → (change g).memory.held ≡ g.memory.held) → held_by (option_map change guest) ≡ held_by guest
same-held change None same = refl
same-held change (Some g) same = same g

pub conserves-changed : (change : GuestRecord → GuestRecord) (p : PoolView) (i : ℕ) → ((g : GuestRecord) → (change g).memory.held ≡ g.memory.held) → Conserves p → Conserves (changed change p i)
conserves-changed change p i same all =
    let held = held-changed change p.guests i in
    let aside = ap (λ n. p.overhead * n) (runs-changed change p.guests i) in
    let kept = same-held change (guest_at p i) same in
    omega (arith, held, aside, kept, all)

held-all : (change : GuestRecord → GuestRecord) (guests : List (Option GuestRecord)) → ((g : GuestRecord) → (change g).memory.held ≡ g.memory.held) → total_held (map (option_map change) guests) ≡ total_held guests
held-all change [] same = refl
held-all change (guest ∷ guests) same = λ i. same-held change guest same i + held-all change guests same i

runs-all : (change : GuestRecord → GuestRecord) (guests : List (Option GuestRecord)) → running_count (map (option_map change) guests) ≡ running_count guests
runs-all change [] = refl
runs-all change (guest ∷ guests) = λ i. runs-same change guest i + runs-all change guests i

pub conserves-all_changed : (change : GuestRecord → GuestRecord) (p : PoolView) → ((g : GuestRecord) → (change g).memory.held ≡ g.memory.held) → Conserves p → Conserves (all_changed change p)
conserves-all_changed change p same all =
    let held = held-all change p.guests same in
    let aside = ap (λ n. p.overhead * n) (runs-all change p.guests) in
    omega (arith, held, aside, all)

spares-all : (guests : List (Option GuestRecord)) → total_held (map (option_map without_spares) guests) + total_spares guests ≡ total_held guests
spares-all [] = omega arith
spares-all (guest ∷ guests) = let first = held-spares guest in let rest = spares-all guests in omega (arith, first, rest)

pub conserves-spares : (p : PoolView) → Conserves p → Conserves (with_spares_back p)
conserves-spares p all =
    let held = spares-all p.guests in
    let aside = ap (λ n. p.overhead * n) (runs-all without_spares p.guests) in
    omega (arith, held, aside, all)

pub conserves-released : (count : ℕ) (p : PoolView) (i : ℕ) → count ≤ surplus_of (guest_at p i) → Conserves p → Conserves (released_at count p i)
conserves-released count p i few all = conserves-with_free (released count) count p i (held-released count (guest_at p i) few) all

-- each guest gives up frames
held-each_released : (counts : List ℕ) (guests : Guests) → length counts ≡ length guests → AreReleasable counts guests
    → total_held (each_released counts guests) + sum_of counts ≡ total_held guests
held-each_released [] guests same few = omega arith
held-each_released (count ∷ counts) [] same few = absurd (omega (arith, same))
held-each_released (count ∷ counts) (guest ∷ guests) same few =
    let first = held-released count guest (few 0 (omega arith)) in
    let rest = held-each_released counts guests (omega (arith, same)) (λ i there. few (suc i) (omega (arith, there))) in
    omega (arith, first, rest)

runs-each_released : (counts : List ℕ) (guests : Guests) → length counts ≡ length guests → running_count (each_released counts guests) ≡ running_count guests
runs-each_released [] guests same = refl
runs-each_released (count ∷ counts) [] same = absurd (omega (arith, same))
runs-each_released (count ∷ counts) (guest ∷ guests) same =
    let first = runs-same (released count) guest in
    let rest = runs-each_released counts guests (omega (arith, same)) in
    omega (arith, first, rest)

pub conserves-released_all : (counts : List ℕ) (p : PoolView) → length counts ≡ length p.guests → AreReleasable counts p.guests → Conserves p
    → Conserves (with_released counts p)
conserves-released_all counts p same few all =
    let held = held-each_released counts p.guests same few in
    let aside = ap (λ n. p.overhead * n) (runs-each_released counts p.guests same) in
    omega (arith, held, aside, all)

pub conserves-granted : (p : PoolView) (i : ℕ) → frames_to_grant (guest_at p i) ≤ p.free → Conserves p → Conserves (granted_at p i)
conserves-granted p i enough all = conserves-spent granted (frames_to_grant (guest_at p i)) p i (held-granted (guest_at p i)) enough all

pub conserves-with_min : (least : ℕ) (p : PoolView) (i : ℕ) → lacking least (guest_at p i) ≤ p.free → Conserves p → Conserves (with_min_at least p i)
conserves-with_min least p i enough all = conserves-spent (with_min_held least) (lacking least (guest_at p i)) p i (held-min least (guest_at p i)) enough all

pub conserves-started : (p : PoolView) (i : ℕ) → i < length p.guests → guest_at p i ≡ None → frames_to_start p.overhead (slice_get p.configs i) ≤ p.free → Conserves p → Conserves (started_at p i)
conserves-started p i there none enough all = go (slice_get p.configs i) enough
  where
    go : (config : Option GuestConfig) → frames_to_start p.overhead config ≤ p.free → Conserves (with_started p i config)
    go None free = all
    go (Some config) free =
        let held = held-set p.guests i (Some (started config)) there in
        let runs = runs-set p.guests i (Some (started config)) there in
        let no_frames = ap held_by none in
        let no_guest = ap one_if_runs none in
        let counted = products p.overhead (running_count (slice_set p.guests i (Some (started config)))) 0 (running_count p.guests) 1 (omega (arith, runs, no_guest)) in
        let one = times-one p.overhead in
        let zero_times = times-zero p.overhead in
        omega (arith, held, no_frames, counted, one, zero_times, free, all)

runs-there : (guests : List (Option GuestRecord)) (i : ℕ) → IsSome (running (slice_get guests i)) → i < length guests
runs-there [] i runs = let no : false ≡ true = runs in absurd (cc)
runs-there (guest ∷ guests) zero runs = omega arith
runs-there (guest ∷ guests) (suc i) runs = let rest = runs-there guests i runs in omega (arith, rest)

pub conserves-stopped : (p : PoolView) (i : ℕ) → IsSome (guest_at p i) → Conserves p → Conserves (stopped_at p i)
conserves-stopped p i runs all =
    let there = runs-there p.guests i runs in
    let is_one = runs-one (guest_at p i) runs in
    let held = held-set p.guests i None there in
    let count = runs-set p.guests i None there in
    let counted = products p.overhead (running_count (slice_set p.guests i None)) 1 (running_count p.guests) 0 (omega (arith, count, is_one)) in
    let one = times-one p.overhead in
    let zero_times = times-zero p.overhead in
    omega (arith, held, counted, one, zero_times, all)

-- at first
none-held : (configs : List GuestConfig) → total_held (map (λ _. None) configs) ≡ 0
none-held [] = refl
none-held (config ∷ configs) = let rest = none-held configs in omega (arith, rest)

none-run : (configs : List GuestConfig) → running_count (map (λ _. None) configs) ≡ 0
none-run [] = refl
none-run (config ∷ configs) = let rest = none-run configs in omega (arith, rest)

pub conserves-first : (frames overhead : ℕ) (configs : List GuestConfig) → Conserves (first_pool frames overhead configs)
conserves-first frames overhead configs =
    let held = none-held configs in
    let aside = ap (λ n. overhead * n) (none-run configs) ∙ times-zero overhead in
    omega (arith, held, aside)
