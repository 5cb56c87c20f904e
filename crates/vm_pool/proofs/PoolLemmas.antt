-- A pool whose slots, machine or frames set aside change.
use Rattle.std.proofs.Common.{◌≡◌, ℕ, zero, suc, ◌+◌, ◌-◌, ◌*◌, ◌^◌, ◌<◌, ◌≤◌, true, false, cond, List, [], ◌∷◌, length, map, set, get_or, refl, sym, ap, ◌∙◌, arith, subst}
use Rattle.std.specs.Prelude.{All, Err, IfOk, IfSome, IsSome, Ok, OnErr, Option, Result, Some, None, slice_get, slice_set}
use Rattle.std.proofs.lemmas.Nat.{mul-le}
use Rattle.std.proofs.lemmas.Option.{slice_get-get_or}
use Rattle.vm_guest.specs.Boundary.{without_spares}
use Rattle.vm_guest.specs.Good.{IsGood}
use Rattle.vm_guest.specs.State.{GuestState, IsBacked}
use Rattle.vm_pool.proofs.FirstLemmas.{first_mapped, first_total, step-first_mapped, end-first_mapped, next-first_mapped, length-first_mapped, step-first_total}
use Rattle.std.specs.Option.{option_map}
use Rattle.std.specs.Global.{Vec}
use Rattle.std.specs.Vec.{with_item, with_items, vec_len, vec_capacity}
use Rattle.std.proofs.lemmas.List.{length-map, length-set, map-set, get_or_default, with_items_is}
use Rattle.std.proofs.lemmas.List.Elements.{All-head, All-map, All-set, All-tail}
use Rattle.std.proofs.lemmas.List.Sums.{sum_by-set}
use Rattle.std.proofs.Math.Seq.{map-set_same}
use Rattle.std.specs.Ordering.{nat_cmp}
use Rattle.std.specs.FinSet as sets
use Rattle.std.specs.FinSet.{len-empty, contains-empty}
use Rattle.vm_frames.specs.Frame.{FrameView}
use Rattle.vm_frames.specs.Machine.{MachineView}
use Rattle.vm_guest.specs.Config.{GuestConfig}
use Rattle.vm_guest.specs.Frames.{times_among}
use Rattle.vm_guest.specs.Record.{GuestRecord}
use Rattle.vm_guest.specs.Room.{RoomView, room_for}
use Rattle.vm_guest.specs.Start.{started}
use Rattle.vm_pool.specs.declared.pool.Pool.TheInside.{Inside}
use Rattle.vm_pool.specs.declared.slot.Slot.{Slot}
use Rattle.vm_pool.specs.declared.slot.Slot.TheVariants.{Stopped, Running, Away}
use Rattle.vm_pool.specs.Changes.{after_epoch, all_changed, frames_to_start, changed, with_free, spares_of, spent, started_at, stopped_at, total_spares, with_spares_back, with_started}
use Rattle.vm_pool.specs.Moves.{once_if, Moves, MovesAside}
use Rattle.vm_pool.specs.Guests.{running}
use Rattle.vm_pool.specs.Pool.{PoolView, first_pool, guest_at, held_by, most_aside, one_if_runs, running_count, total_held, Conserves, HasTarget, IsRoomAt}
use Rattle.vm_pool.specs.PoolFields.{pool_of, IsPool}
use Rattle.vm_pool.specs.Slots.{config_in, guest_in, holds, holders, slot_changed, slot_run, unprepared, IsSettled, IsStopped}
use Rattle.vm_pool.proofs.MoveLemmas.{aside-none}
use Rattle.vm_pool.proofs.SlotLemmas.{total_held-set, running_count-set, guest-slot, config-slot, holds-one, out_if, runs-kept, guests-run, guests-unprepared, same-run, same-unprepared, length-same, changed-moves, KeepsHold, SameHold}

-- free, held and set aside
pub conserves : (p : Inside) → IsPool p → Conserves (pool_of p)
conserves p good =
    let within = good.within in
    let held = good.held in
    let aside = good.aside in
    omega (arith, within, held, aside)

pub times-zero : (o : ℕ) → o * 0 ≡ 0
times-zero o = omega arith

pub times-one : (o : ℕ) → o * 1 ≡ o
times-one o = omega arith

pub runs-one : (guest : Option GuestRecord) → IsSome guest → one_if_runs guest ≡ 1
runs-one None some = let no : false ≡ true = some in absurd (cc)
runs-one (Some g) some = refl

runs-once : (guest : Option GuestRecord) → one_if_runs guest ≤ 1
runs-once None = omega arith
runs-once (Some g) = omega arith

-- no more guests run than there are
runs-few : (slots : List Slot) → running_count (map guest_in slots) ≤ length slots
runs-few [] = omega arith
runs-few (slot ∷ slots) =
    let rest = runs-few slots in
    let one = runs-once (guest_in slot) in
    omega (arith, rest, one)

some_run : (slots : List Slot) (i : ℕ) (d : Slot) → i < length slots → one_if_runs (guest_in (get_or slots i d)) ≡ 1 → 1 ≤ running_count (map guest_in slots)
some_run [] i d there one = absurd (omega (arith, there))
some_run (slot ∷ slots) zero d there one = omega (arith, one)
some_run (slot ∷ slots) (suc i) d there one = let rest = some_run slots i d (omega (arith, there)) one in omega (arith, rest)

all-first_total : (guests : List (Option GuestRecord)) → first_total spares_of (length guests) guests ≡ total_spares guests
all-first_total [] = refl
all-first_total (guest ∷ guests) = ap (λ n. spares_of guest + n) (all-first_total guests)

-- the next guest, as its entry shows it
next-first : (f : Option GuestRecord → Option GuestRecord) (guests : List (Option GuestRecord)) (n : ℕ) → n < length guests → running (slice_get (first_mapped f n guests) n) ≡ get_or guests n None
next-first f guests n there =
    let long = length-first_mapped f n guests in
    let within : n < length (first_mapped f n guests) = omega (arith, long, there) in
    ap running (slice_get-get_or (first_mapped f n guests) n None within) ∙ next-first_mapped f n guests None

step-first : (change : GuestRecord → GuestRecord) (guests : List (Option GuestRecord)) (n : ℕ) → n < length guests
    → slice_set (first_mapped (option_map change) n guests) n (option_map change (running (slice_get (first_mapped (option_map change) n guests) n))) ≡ first_mapped (option_map change) (n + 1) guests
step-first change guests n there =
    step-first_mapped (option_map change) (first_mapped (option_map change) n guests) guests n _ None refl there
    (ap (option_map change) (next-first (option_map change) guests n there ∙ sym (next-first_mapped (option_map change) n guests None)))

-- ---- one slot changes

-- what a pool is once the guest of a slot changed, with what moved
abbrev pub moved : Inside → ℕ → Slot → MachineView → Vec FrameView → Inside
moved p i slot machine aside = record p { slots = with_item p.slots i slot; machine = machine; aside = aside }

-- what is known of it
pub record MovesAt (p : Inside) (i : ℕ) (was slot : Slot) (middle after : MachineView) (aside : List FrameView) (wanted : Option GuestRecord) : Type 0 where
  pub there : i < length p.slots.items
  pub is : was ≡ get_or p.slots.items i was
  pub slot_moves : Moves wanted was slot p.machine middle
  pub aside_moves : MovesAside p.aside.items aside middle after
  pub runs : length aside + p.overhead * one_if_runs (guest_in was) ≡ length p.aside.items + p.overhead * one_if_runs wanted
  pub within : sets.len after.out ≤ p.machine.total

split : (o a b : ℕ) → o * (a + b) ≡ o * a + o * b
split o a b = grind arith

pub products : (o a b c d : ℕ) → a + b ≡ c + d → o * a + o * b ≡ o * c + o * d
products o a b c d same = sym (split o a b) ∙ ap (λ n. o * n) same ∙ split o c d

pub pool-moved : (p : Inside) (i : ℕ) (was slot : Slot) (middle after : MachineView) (aside : Vec FrameView) (wanted : Option GuestRecord) → IsPool p
    → MovesAt p i was slot middle after aside.items wanted → vec_capacity aside ≡ vec_capacity p.aside → IsPool (moved p i slot after aside)
pool-moved p i was slot middle after aside wanted good m same_room =
    let slots = p.slots.items in
    let there = m.there in
    let few = good.few in
    let fits = good.fits in
    let within = m.within in
    let here : get_or slots i Away ≡ was = sym (get_or_default slots i was Away there) ∙ sym m.is in
    let total = m.slot_moves.total in
    let total_aside = m.aside_moves.total in
    let sum = total_held-set slots i slot Away there in
    let was_held = ap (λ s. held_by (guest_in s)) here in
    let held = good.held in
    let moves = m.slot_moves.count in
    let moves_aside = m.aside_moves.count in
    let sum_runs = running_count-set slots i slot Away there in
    let was_runs = ap (λ s. one_if_runs (guest_in s)) here in
    let new_runs = ap one_if_runs m.slot_moves.guest in
    let aside_is = good.aside in
    let runs = m.runs in
    let counted = products p.overhead (running_count (map guest_in (set slots i slot))) (one_if_runs (guest_in was)) (running_count (map guest_in slots)) (one_if_runs wanted) (omega (arith, sum_runs, was_runs, new_runs)) in
    let long = length-set slots i slot in
    let room = good.room in
    let most = ap (λ n. p.overhead * n) long in
    record {
      few = omega (arith, long, few);
      fits = omega (arith, fits, total, total_aside);
      within = omega (arith, within, total, total_aside);
      settled = All-set IsSettled slots i slot m.slot_moves.settled good.settled;
      owners = λ n.
          let changed = sum_by-set (λ t. cond (holds n t) 1 0) slots i slot Away there in
          let own = good.owners n in
          let one = m.slot_moves.owners n in
          let other = m.aside_moves.owners n in
          let was_holds = ap (λ s. once_if (holds n s)) here in
          omega (arith, changed, own, one, other, was_holds);
      held = omega (arith, sum, was_held, held, moves, moves_aside);
      aside = omega (arith, aside_is, runs, counted);
      room = omega (arith, room, most, total, total_aside, same_room);
      no_specs = good.no_specs;
      home = let home = good.home in omega (arith, home, long);
    }

-- a shelf may have any rooms
pub pool-shelved : (p : Inside) (shelf : List RoomView) → IsPool p → IsPool (record p { shelf = shelf })
pool-shelved p shelf good = record {
  few = good.few;
  fits = good.fits;
  within = good.within;
  settled = good.settled;
  owners = good.owners;
  held = good.held;
  aside = good.aside;
  room = good.room;
  no_specs = good.no_specs;
  home = good.home;
}

-- what it shows
pub view-moved : (p : Inside) (i : ℕ) (was slot : Slot) (middle after : MachineView) (aside : Vec FrameView) (wanted : Option GuestRecord) (free : ℕ)
    → MovesAt p i was slot middle after aside.items wanted → p.machine.total - sets.len after.out ≡ free
    → pool_of (moved p i slot after aside) ≡ record (pool_of p) { guests = slice_set (pool_of p).guests i wanted; free = free }
view-moved p i was slot middle after aside wanted free m is =
    let slots = p.slots.items in
    let same = m.is in
    let total : after.total ≡ p.machine.total = m.aside_moves.total ∙ m.slot_moves.total in
    let config : config_in slot ≡ config_in (get_or slots i was) = m.slot_moves.config ∙ ap config_in same in
    λ j. record {
      frames = total j;
      overhead = p.overhead;
      configs = map-set_same config_in slots i slot was config j;
      guests = (map-set guest_in slots i slot ∙ ap (set (map guest_in slots) i) m.slot_moves.guest) j;
      free = (ap (λ (t : ℕ). t - sets.len after.out) total ∙ is) j;
    }

-- ---- no frame is set aside or put back

pub at-slot : (p : Inside) (i : ℕ) (was slot : Slot) (after : MachineView) (wanted : Option GuestRecord) → i < length p.slots.items → was ≡ get_or p.slots.items i was
    → Moves wanted was slot p.machine after → one_if_runs wanted ≡ one_if_runs (guest_in was) → sets.len after.out ≤ p.machine.total
    → MovesAt p i was slot after after p.aside.items wanted
at-slot p i was slot after wanted there is moves runs within = record {
  there = there;
  is = is;
  slot_moves = moves;
  aside_moves = aside-none p.aside.items after;
  runs = ap (λ r. length p.aside.items + p.overhead * r) (sym runs);
  within = within;
}

pub guest_at-slot : (p : Inside) (i : ℕ) (was : Slot) → i < length p.slots.items → was ≡ get_or p.slots.items i was → guest_at (pool_of p) i ≡ guest_in was
guest_at-slot p i was there is = guest-slot p.slots.items i was there is

-- what the guest of a slot holds is out
pub holds-out : (p : Inside) (i : ℕ) (was : Slot) → IsPool p → i < length p.slots.items → was ≡ get_or p.slots.items i was → (n : ℕ) → holds n was ≡ true → sets.contains p.machine.out n ≡ true
holds-out p i was good there is n held =
    let one = holds-one n p.slots.items i was there in
    let own = good.owners n in
    let same = ap (λ s. once_if (holds n s)) is in
    out_if (holds n was) (sets.contains p.machine.out n) (omega (arith, one, own, same)) held

pub settled-at : (p : Inside) (i : ℕ) (was : Slot) → IsPool p → i < length p.slots.items → was ≡ get_or p.slots.items i was → IsSettled was
settled-at p i was good there is = subst IsSettled (sym is) (good.settled i was there)

-- a call that leaves who holds what
pub pool-changed : (p : Inside) (i : ℕ) (was slot : Slot) (change : GuestRecord → GuestRecord) → KeepsHold change → IsPool p → i < length p.slots.items → was ≡ get_or p.slots.items i was
    → slot ≡ slot_changed change was → MovesAt p i was slot p.machine p.machine p.aside.items (option_map change (guest_in was))
pool-changed p i was slot change kept good there is changes =
    at-slot p i was slot p.machine (option_map change (guest_in was)) there is
    (subst (λ s. Moves (option_map change (guest_in was)) was s p.machine p.machine) (sym changes) (changed-moves change was p.machine kept (settled-at p i was good there is)))
    (runs-kept change (guest_in was)) good.within

pub view-changed : (p : Inside) (i : ℕ) (was slot : Slot) (change : GuestRecord → GuestRecord) → MovesAt p i was slot p.machine p.machine p.aside.items (option_map change (guest_in was))
    → pool_of (moved p i slot p.machine p.aside) ≡ changed change (pool_of p) i
view-changed p i was slot change m =
    view-moved p i was slot p.machine p.machine p.aside (option_map change (guest_in was)) (pool_of p).free m refl
    ∙ ap (λ g. record (pool_of p) { guests = slice_set (pool_of p).guests i (option_map change g) }) (sym (guest_at-slot p i was m.there m.is))

-- a call that frees frames
pub view-with_free : (p : Inside) (i : ℕ) (was slot : Slot) (after : MachineView) (change : GuestRecord → GuestRecord) (count : ℕ) → IsPool p
    → MovesAt p i was slot after after p.aside.items (option_map change (guest_in was))
    → held_by (option_map change (guest_in was)) + count ≡ held_by (guest_in was)
    → pool_of (moved p i slot after p.aside) ≡ with_free change count (pool_of p) i
view-with_free p i was slot after change count good m fewer =
    let moves = m.slot_moves.count in
    let held = ap held_by m.slot_moves.guest in
    let within = good.within in
    view-moved p i was slot after after p.aside (option_map change (guest_in was)) ((pool_of p).free + count) m (omega (arith, moves, held, fewer, within))
    ∙ ap (λ g. record (pool_of p) { guests = slice_set (pool_of p).guests i (option_map change g); free = (pool_of p).free + count }) (sym (guest_at-slot p i was m.there m.is))

-- a call that takes free frames
pub view-spent : (p : Inside) (i : ℕ) (was slot : Slot) (after : MachineView) (change : GuestRecord → GuestRecord) (count : ℕ)
    → MovesAt p i was slot after after p.aside.items (option_map change (guest_in was))
    → held_by (option_map change (guest_in was)) ≡ held_by (guest_in was) + count
    → pool_of (moved p i slot after p.aside) ≡ spent change count (pool_of p) i
view-spent p i was slot after change count m more =
    let moves = m.slot_moves.count in
    let held = ap held_by m.slot_moves.guest in
    view-moved p i was slot after after p.aside (option_map change (guest_in was)) ((pool_of p).free - count) m (omega (arith, moves, held, more))
    ∙ ap (λ g. record (pool_of p) { guests = slice_set (pool_of p).guests i (option_map change g); free = (pool_of p).free - count }) (sym (guest_at-slot p i was m.there m.is))

-- ---- all slots change

abbrev pub with_slots : Inside → List Slot → Inside
with_slots p slots = record p { slots = with_items p.slots slots }

pub pool-kept : (p : Inside) (slots : List Slot) → IsPool p → (with_slots p slots).slots.items ≡ slots → SameHold p.slots.items slots → IsPool (with_slots p slots)
pool-kept p slots good is same =
    let new = with_slots p slots in
    let held = good.held in
    let same_held = ap (λ xs. total_held (map guest_in xs)) is ∙ same.held in
    let long = ap length is ∙ same.long in
    record {
      few = let few = good.few in omega (arith, few, long);
      fits = good.fits;
      within = good.within;
      settled = subst (All IsSettled) (sym is) same.settled;
      owners = λ n. ap (λ h. h + times_among n p.aside.items) (ap (holders n) is ∙ same.owners n) ∙ good.owners n;
      held = omega (arith, held, same_held);
      aside = good.aside ∙ ap (λ r. p.overhead * r) (sym (ap (λ xs. running_count (map guest_in xs)) is ∙ same.runs));
      room = let room = good.room in let most = ap (λ n. p.overhead * n) long in omega (arith, room, most);
      no_specs = good.no_specs;
      home = let home = good.home in omega (arith, home, long);
    }

-- ---- no guest runs

none_held : (configs : List GuestConfig) → total_held (map guest_in (map Stopped configs)) ≡ 0
none_held [] = refl
none_held (config ∷ configs) = let rest = none_held configs in omega (arith, rest)

none_run : (configs : List GuestConfig) → running_count (map guest_in (map Stopped configs)) ≡ 0
none_run [] = refl
none_run (config ∷ configs) = let rest = none_run configs in omega (arith, rest)

none_holds : (n : ℕ) (configs : List GuestConfig) → holders n (map Stopped configs) ≡ 0
none_holds n [] = refl
none_holds n (config ∷ configs) = none_holds n configs

no_guests : (configs : List GuestConfig) → map guest_in (map Stopped configs) ≡ map (λ _. None) configs
no_guests [] = refl
no_guests (config ∷ configs) = ap (λ (rest : List (Option GuestRecord)). None ∷ rest) (no_guests configs)

configs_stopped : (configs : List GuestConfig) → map config_in (map Stopped configs) ≡ configs
configs_stopped [] = refl
configs_stopped (config ∷ configs) = ap (λ rest. config ∷ rest) (configs_stopped configs)

pub first-is_pool : (p : Inside) (frames : ℕ) (configs : List GuestConfig) → frames < 2 ^ 32 → length configs ≤ 256 → p.slots.items ≡ map Stopped configs
    → p.aside.items ≡ [] → most_aside p.overhead (length configs) frames ≤ vec_capacity p.aside → p.machine ≡ record { total = frames; out = sets.empty }
    → p.specs.items ≡ [] → length configs ≤ vec_capacity p.specs → IsPool p
first-is_pool p frames configs fits few slots aside room machine no_specs home =
    let long = ap length slots ∙ length-map configs Stopped in
    let out = ap (λ (m : MachineView). sets.len m.out) machine ∙ len-empty nat_cmp in
    let total = ap (λ (m : MachineView). m.total) machine in
    let held = ap (λ xs. total_held (map guest_in xs)) slots ∙ none_held configs in
    let none = ap length aside in
    let runs = ap (λ xs. running_count (map guest_in xs)) slots ∙ none_run configs in
    let zero_times : p.overhead * 0 ≡ 0 = omega arith in
    record {
      few = omega (arith, long, few);
      fits = omega (arith, total, fits);
      within = omega (arith, out);
      settled = subst (All IsSettled) (sym slots) (All-map IsSettled Stopped configs (λ i d there. tt));
      owners = λ n. (λ j. (ap (holders n) slots ∙ none_holds n configs) j + times_among n (aside j)) ∙ ap once_if (sym (ap (λ (m : MachineView). sets.contains m.out n) machine ∙ contains-empty nat_cmp n));
      held = omega (arith, out, held, none);
      aside = none ∙ sym (ap (λ r. p.overhead * r) runs ∙ zero_times);
      room = let most = ap (λ n. p.overhead * n) long in omega (arith, room, most, total);
      no_specs = no_specs;
      home = omega (arith, long, home);
    }

pub first-view : (p : Inside) (frames : ℕ) (configs : List GuestConfig) → p.slots.items ≡ map Stopped configs → p.machine ≡ record { total = frames; out = sets.empty }
    → pool_of p ≡ first_pool frames p.overhead configs
first-view p frames configs slots machine =
    let out = ap (λ (m : MachineView). sets.len m.out) machine ∙ len-empty nat_cmp in
    let total = ap (λ (m : MachineView). m.total) machine in
    let free : p.machine.total - sets.len p.machine.out ≡ frames = omega (arith, out, total) in
    λ i. record {
      frames = total i;
      overhead = p.overhead;
      configs = (ap (map config_in) slots ∙ configs_stopped configs) i;
      guests = (ap (map guest_in) slots ∙ no_guests configs) i;
      free = free i;
    }

-- a position of the guests is one of the slots
pub within-slots : (p : Inside) (v : PoolView) (i : ℕ) → pool_of p ≡ v → i < length v.guests → i < length p.slots.items
within-slots p v i is there =
    let all = ap (λ (w : PoolView). length w.guests) is in
    let long = length-map p.slots.items guest_in in
    omega (arith, there, all, long)

-- the guest at a position, once its slot is known
pub guest-here : (p : Inside) (v : PoolView) (i : ℕ) (was : Slot) → pool_of p ≡ v → i < length p.slots.items → was ≡ get_or p.slots.items i was → guest_at v i ≡ guest_in was
guest-here p v i was is there here = ap (λ (w : PoolView). guest_at w i) (sym is) ∙ guest_at-slot p i was there here

-- a guest gives frames back
pub pool-with_free : (p : Inside) (i : ℕ) (was slot : Slot) (after : MachineView) (change : GuestRecord → GuestRecord) (count : ℕ) → IsPool p → i < length p.slots.items → was ≡ get_or p.slots.items i was
    → Moves (option_map change (guest_in was)) was slot p.machine after → held_by (option_map change (guest_in was)) + count ≡ held_by (guest_in was)
    → MovesAt p i was slot after after p.aside.items (option_map change (guest_in was))
pool-with_free p i was slot after change count good there is moves fewer =
    let within = good.within in
    let moved_count = moves.count in
    let held = ap held_by moves.guest in
    at-slot p i was slot after (option_map change (guest_in was)) there is moves (runs-kept change (guest_in was)) (omega (arith, within, moved_count, held, fewer))

-- a guest takes free frames
pub pool-spent : (p : Inside) (i : ℕ) (was slot : Slot) (after : MachineView) (change : GuestRecord → GuestRecord) (count : ℕ) → IsPool p → i < length p.slots.items → was ≡ get_or p.slots.items i was
    → Moves (option_map change (guest_in was)) was slot p.machine after → held_by (option_map change (guest_in was)) ≡ held_by (guest_in was) + count → count ≤ (pool_of p).free
    → MovesAt p i was slot after after p.aside.items (option_map change (guest_in was))
pool-spent p i was slot after change count good there is moves more enough =
    let within = good.within in
    let moved_count = moves.count in
    let held = ap held_by moves.guest in
    at-slot p i was slot after (option_map change (guest_in was)) there is moves (runs-kept change (guest_in was)) (omega (arith, within, moved_count, held, more, enough))

-- ---- a guest starts

pub starts-at : (p : Inside) (i : ℕ) (was slot : Slot) (middle after : MachineView) (aside : List FrameView) → IsPool p → i < length p.slots.items → was ≡ get_or p.slots.items i was
    → guest_in was ≡ None → Moves (Some (started (config_in was))) was slot p.machine middle → MovesAside p.aside.items aside middle after → length aside ≡ length p.aside.items + p.overhead
    → (config_in was).min + p.overhead ≤ (pool_of p).free
    → MovesAt p i was slot middle after aside (Some (started (config_in was)))
starts-at p i was slot middle after aside good there is none moves moves_aside more enough =
    let stopped = ap one_if_runs none in
    let nothing = ap held_by none in
    let no_product : p.overhead * one_if_runs (guest_in was) ≡ 0 = ap (λ n. p.overhead * n) stopped ∙ times-zero p.overhead in
    let one_product : p.overhead * 1 ≡ p.overhead = times-one p.overhead in
    let within = good.within in
    let moved_count = moves.count in
    let held = ap held_by moves.guest in
    let aside_count = moves_aside.count in
    record {
      there = there;
      is = is;
      slot_moves = moves;
      aside_moves = moves_aside;
      runs = omega (arith, more, no_product, one_product);
      within = omega (arith, within, moved_count, held, nothing, aside_count, more, enough);
    }

-- beside a stopped guest no more run than the others
still_stopped : (slots : List Slot) (i : ℕ) (d : Slot) → i < length slots → guest_in (get_or slots i d) ≡ None → running_count (map guest_in slots) + 1 ≤ length slots
still_stopped [] i d there none = absurd (omega (arith, there))
still_stopped (slot ∷ slots) zero d there none =
    let stopped = ap one_if_runs none in
    let rest = runs-few slots in
    omega (arith, stopped, rest)
still_stopped (slot ∷ slots) (suc i) d there none =
    let rest = still_stopped slots i d (omega (arith, there)) none in
    let one = runs-once (guest_in slot) in
    omega (arith, rest, one)

-- there is room for the overhead of a guest that starts
pub room-there : (p : Inside) (i : ℕ) (was : Slot) → IsPool p → i < length p.slots.items → was ≡ get_or p.slots.items i was → guest_in was ≡ None
    → (config_in was).min + p.overhead ≤ (pool_of p).free → length p.aside.items + p.overhead ≤ vec_capacity p.aside
room-there p i was good there is none enough =
    let runs = still_stopped p.slots.items i was there (ap guest_in (sym is) ∙ none) in
    let most : p.overhead * (running_count (map guest_in p.slots.items) + 1) ≤ p.overhead * length p.slots.items = mul-le p.overhead (running_count (map guest_in p.slots.items) + 1) p.overhead (length p.slots.items) (omega arith) runs in
    let sum = split p.overhead (running_count (map guest_in p.slots.items)) 1 in
    let one_product = times-one p.overhead in
    let aside = good.aside in
    let held = good.held in
    let within = good.within in
    let room = good.room in
    omega (arith, most, sum, one_product, aside, held, within, room, enough)

pub view-started : (p : Inside) (i : ℕ) (was slot : Slot) (middle after : MachineView) (aside : Vec FrameView) → guest_in was ≡ None
    → MovesAt p i was slot middle after aside.items (Some (started (config_in was))) → length aside.items ≡ length p.aside.items + p.overhead
    → pool_of (moved p i slot after aside) ≡ started_at (pool_of p) i
view-started p i was slot middle after aside none m more =
    let nothing = ap held_by none in
    let moved_count = m.slot_moves.count in
    let held = ap held_by m.slot_moves.guest in
    let aside_count = m.aside_moves.count in
    view-moved p i was slot middle after aside (Some (started (config_in was))) ((pool_of p).free - ((config_in was).min + p.overhead)) m (omega (arith, nothing, moved_count, held, aside_count, more))
    ∙ sym (ap (with_started (pool_of p) i) (config-slot p.slots.items i was m.there m.is))

-- ---- a guest stops

pub stops-at : (p : Inside) (i : ℕ) (was slot : Slot) (middle after : MachineView) (aside : List FrameView) → IsPool p → i < length p.slots.items → was ≡ get_or p.slots.items i was
    → IsSome (guest_in was) → Moves None was slot p.machine middle → MovesAside p.aside.items aside middle after → length aside + p.overhead ≡ length p.aside.items
    → MovesAt p i was slot middle after aside None
stops-at p i was slot middle after aside good there is runs moves moves_aside fewer =
    let one = runs-one (guest_in was) runs in
    let one_product : p.overhead * one_if_runs (guest_in was) ≡ p.overhead = ap (λ n. p.overhead * n) one ∙ times-one p.overhead in
    let no_product : p.overhead * 0 ≡ 0 = times-zero p.overhead in
    let within = good.within in
    let moved_count = moves.count in
    let held = ap held_by moves.guest in
    let aside_count = moves_aside.count in
    record {
      there = there;
      is = is;
      slot_moves = moves;
      aside_moves = moves_aside;
      runs = omega (arith, fewer, one_product, no_product);
      within = omega (arith, within, moved_count, held, aside_count, fewer);
    }

pub view-stopped : (p : Inside) (i : ℕ) (was slot : Slot) (middle after : MachineView) (aside : Vec FrameView) → IsPool p
    → MovesAt p i was slot middle after aside.items None → length aside.items + p.overhead ≡ length p.aside.items
    → pool_of (moved p i slot after aside) ≡ stopped_at (pool_of p) i
view-stopped p i was slot middle after aside good m fewer =
    let within = good.within in
    let moved_count = m.slot_moves.count in
    let held = ap held_by m.slot_moves.guest in
    let aside_count = m.aside_moves.count in
    view-moved p i was slot middle after aside None ((pool_of p).free + (held_by (guest_in was) + p.overhead)) m (omega (arith, within, moved_count, held, aside_count, fewer))
    ∙ ap (λ g. record (pool_of p) { guests = slice_set (pool_of p).guests i None; free = (pool_of p).free + (held_by g + p.overhead) }) (sym (guest_at-slot p i was m.there m.is))

-- the overhead of a guest that runs is set aside
pub overhead-there : (p : Inside) (i : ℕ) (was : Slot) → IsPool p → i < length p.slots.items → was ≡ get_or p.slots.items i was → IsSome (guest_in was) → p.overhead ≤ length p.aside.items
overhead-there p i was good there is runs =
    let one = ap (λ s. one_if_runs (guest_in s)) (sym is) ∙ runs-one (guest_in was) runs in
    let counted = some_run p.slots.items i was there one in
    let aside = good.aside in
    let enough : p.overhead * 1 ≤ p.overhead * running_count (map guest_in p.slots.items) = mul-le p.overhead 1 p.overhead (running_count (map guest_in p.slots.items)) (omega arith) counted in
    let one_product = times-one p.overhead in
    omega (arith, enough, aside, one_product)

-- the frames set aside are out, whoever of the guests stops
pub aside-out : (p : Inside) (was slot : Slot) (i : ℕ) (after : MachineView) → IsPool p → i < length p.slots.items → was ≡ get_or p.slots.items i was → Moves None was slot p.machine after → guest_in slot ≡ None
    → (n : ℕ) → times_among n p.aside.items ≤ once_if (sets.contains after.out n)
aside-out p was slot i after good there is moves none n =
    let own = good.owners n in
    let one = holds-one n p.slots.items i was there in
    let same = ap (λ s. once_if (holds n s)) is in
    let moved_owners = moves.owners n in
    omega (arith, own, one, same, moved_owners)

-- ---- one guest after the other

pub step-changed : (change : GuestRecord → GuestRecord) (now new old : PoolView) (n : ℕ) → now ≡ record old { guests = first_mapped (option_map change) n old.guests } → n < length old.guests
    → new ≡ changed change now n → new ≡ record old { guests = first_mapped (option_map change) (n + 1) old.guests }
step-changed change now new old n is there changes =
    changes ∙ ap (λ v. changed change v n) is ∙ ap (λ gs. record old { guests = gs }) (step-first change old.guests n there)

pub step-with_free : (now new old : PoolView) (n : ℕ) → now ≡ record old { guests = first_mapped (option_map without_spares) n old.guests; free = old.free + first_total spares_of n old.guests } → n < length old.guests
    → new ≡ with_free without_spares (spares_of (guest_at now n)) now n
    → new ≡ record old { guests = first_mapped (option_map without_spares) (n + 1) old.guests; free = old.free + first_total spares_of (n + 1) old.guests }
step-with_free now new old n is there changes =
    let guests = old.guests in
    let mine : running (slice_get (first_mapped (option_map without_spares) n guests) n) ≡ get_or guests n None = next-first (option_map without_spares) guests n there in
    let more = step-first_total spares_of n guests None there in
    let spares = ap spares_of mine in
    let free : old.free + first_total spares_of n guests + spares_of (running (slice_get (first_mapped (option_map without_spares) n guests) n)) ≡ old.free + first_total spares_of (n + 1) guests = omega (arith, more, spares) in
    changes ∙ ap (λ v. with_free without_spares (spares_of (guest_at v n)) v n) is
    ∙ (λ i. record old { guests = step-first without_spares guests n there i; free = free i })

pub end-changed : (change : GuestRecord → GuestRecord) (now old : PoolView) (n : ℕ) → now ≡ record old { guests = first_mapped (option_map change) n old.guests } → n ≤ length old.guests → length old.guests ≤ n
    → now ≡ all_changed change old
end-changed change now old n is within past = is ∙ ap (λ gs. record old { guests = gs }) (end-first_mapped (option_map change) _ old.guests n refl within past)

pub end-with_free : (now old : PoolView) (n : ℕ) → now ≡ record old { guests = first_mapped (option_map without_spares) n old.guests; free = old.free + first_total spares_of n old.guests } → n ≤ length old.guests → length old.guests ≤ n
    → now ≡ with_spares_back old
end-with_free now old n is within past =
    let ends : n ≡ length old.guests = omega (arith, within, past) in
    is ∙ (λ i. record old {
      guests = end-first_mapped (option_map without_spares) _ old.guests n refl within past i;
      free = old.free + (ap (λ k. first_total spares_of k old.guests) ends ∙ all-first_total old.guests) i;
    })

-- ---- each guest has its target

pub target-in : (slots : List Slot) (i : ℕ) → All IsSettled slots → IfSome (running (slice_get (map guest_in slots) i)) HasTarget
target-in [] i settled = tt
target-in (Stopped config ∷ slots) zero settled = tt
target-in (Running s ∷ slots) zero settled = let stands = All-head IsSettled (Running s) slots settled in stands.target
target-in (Away ∷ slots) zero settled = tt
target-in (slot ∷ slots) (suc i) settled = target-in slots i (All-tail IsSettled slot slots settled)

pub is-good : (here : Option GuestRecord) (s : GuestState) → Some s.guest ≡ here → IfSome here HasTarget → IsBacked s → IfSome here IsGood
is-good here s is has backed = subst (λ h. IfSome h IsGood) is (record { sound = backed.sound; has_target = subst (λ h. IfSome h HasTarget) (sym is) has })

-- ---- what a call asks for, as the slots show it

pub enough-to-start : (p : Inside) (v : PoolView) (i : ℕ) (was : Slot) → pool_of p ≡ v → i < length p.slots.items → was ≡ get_or p.slots.items i was
    → frames_to_start v.overhead (slice_get v.configs i) ≤ v.free → (config_in was).min + p.overhead ≤ (pool_of p).free
enough-to-start p v i was is there here enough =
    subst (λ c. frames_to_start p.overhead c ≤ (pool_of p).free) (config-slot p.slots.items i was there here)
    (subst (λ (w : PoolView). frames_to_start w.overhead (slice_get w.configs i) ≤ w.free) (sym is) enough)

-- the room is for the guest that is stopped there
pub room-here : (p : Inside) (v : PoolView) (i : ℕ) (was : Slot) (room : RoomView) → pool_of p ≡ v → i < length p.slots.items → was ≡ get_or p.slots.items i was
    → IsRoomAt v i room → room ≡ room_for (config_in was)
room-here p v i was room is there here fits =
    subst (λ c. IfSome c (λ config. room ≡ room_for config)) (config-slot p.slots.items i was there here)
    (subst (λ (w : PoolView). IsRoomAt w i room) (sym is) fits)

-- the room that was taken is for that guest
pub room-of : {E : Type 0} (p : Inside) (v : PoolView) (i : ℕ) (was : Slot) (room : Result RoomView E) → pool_of p ≡ v → i < length p.slots.items → was ≡ get_or p.slots.items i was
    → IfOk room (λ r. r ≡ room_for (config_in was)) → IfOk room (IsRoomAt v i)
room-of p v i was (Ok room) is there here fits =
    subst (λ (w : PoolView). IsRoomAt w i room) is
    (subst (λ c. IfSome c (λ config. room ≡ room_for config)) (sym (config-slot p.slots.items i was there here)) fits)
room-of p v i was (Err e) is there here fits = tt

-- what is asked for is within what is free
pub fits-free : (p : Inside) (v : PoolView) (count : ℕ) → IsPool p → pool_of p ≡ v → count ≤ v.free → sets.len p.machine.out + count ≤ p.machine.total
fits-free p v count good is few =
    let free = ap (λ (w : PoolView). w.free) is in
    let within = good.within in
    omega (arith, few, free, within)

pub stopped-here : (was : Slot) → IsSettled was → guest_in was ≡ None → IsStopped was
stopped-here (Stopped config) settled none = tt
stopped-here (Running s) settled none = absurd cc
stopped-here Away settled none = absurd settled

runs-there : (guests : List (Option GuestRecord)) (i : ℕ) → IsSome (running (slice_get guests i)) → i < length guests
runs-there [] i runs = let no : false ≡ true = runs in absurd (cc)
runs-there (guest ∷ guests) zero runs = omega arith
runs-there (guest ∷ guests) (suc i) runs = let rest = runs-there guests i runs in omega (arith, rest)

pub runs-within : (p : Inside) (v : PoolView) (i : ℕ) → pool_of p ≡ v → IsSome (guest_at v i) → i < length p.slots.items
runs-within p v i is runs = within-slots p v i is (runs-there v.guests i runs)

-- ---- an epoch

pub on_err : {X E : Type 0} (r : Result X E) (P : Type 0) → P → OnErr r P
on_err (Ok x) P p = tt
on_err (Err e) P p = p

items-written : (p : Inside) (slots : List Slot) → length slots ≡ vec_len p.slots → (with_slots p slots).slots.items ≡ slots
items-written p slots long = with_items_is p.slots slots long

view-kept : (p : Inside) (slots : List Slot) (guests : List (Option GuestRecord)) → (with_slots p slots).slots.items ≡ slots → map config_in slots ≡ map config_in p.slots.items → map guest_in slots ≡ guests
    → pool_of (with_slots p slots) ≡ record (pool_of p) { guests = guests }
view-kept p slots guests is configs shown = λ i. record {
  frames = p.machine.total;
  overhead = p.overhead;
  configs = (ap (map config_in) is ∙ configs) i;
  guests = (ap (map guest_in) is ∙ shown) i;
  free = p.machine.total - sets.len p.machine.out;
}

-- each guest ran its epoch
hold-run : (p : Inside) (before after : List Slot) → IsPool p → before ≡ p.slots.items → after ≡ map slot_run before → SameHold p.slots.items after
hold-run p before after good is changed = subst (SameHold p.slots.items) (sym (changed ∙ ap (map slot_run) is)) (same-run p.slots.items good.settled)

long-run : (p : Inside) (before after : List Slot) → length before ≡ vec_len p.slots → after ≡ map slot_run before → length after ≡ vec_len p.slots
long-run p before after long changed = ap length changed ∙ length-map before slot_run ∙ long

pub pool-run : (p : Inside) (before after : List Slot) → IsPool p → before ≡ p.slots.items → length before ≡ vec_len p.slots → after ≡ map slot_run before → IsPool (with_slots p after)
pool-run p before after good is long changed = pool-kept p after good (items-written p after (long-run p before after long changed)) (hold-run p before after good is changed)

pub view-run : (p : Inside) (before after : List Slot) → IsPool p → before ≡ p.slots.items → length before ≡ vec_len p.slots → after ≡ map slot_run before → pool_of (with_slots p after) ≡ after_epoch (pool_of p)
view-run p before after good is long changed =
    let same = hold-run p before after good is changed in
    view-kept p after _ (items-written p after (long-run p before after long changed)) same.configs (ap (map guest_in) (changed ∙ ap (map slot_run) is) ∙ guests-run p.slots.items)

-- none did, but there may be room for the epochs of some
hold-same : (p : Inside) (before after : List Slot) → IsPool p → before ≡ p.slots.items → map unprepared after ≡ map unprepared before → SameHold p.slots.items after
hold-same p before after good is same = same-unprepared p.slots.items after (same ∙ ap (map unprepared) is) good.settled

pub pool-same : (p : Inside) (before after : List Slot) → IsPool p → before ≡ p.slots.items → length before ≡ vec_len p.slots → map unprepared after ≡ map unprepared before → IsPool (with_slots p after)
pool-same p before after good is long same = pool-kept p after good (items-written p after (length-same before after same ∙ long)) (hold-same p before after good is same)

pub view-same : (p : Inside) (before after : List Slot) → IsPool p → before ≡ p.slots.items → length before ≡ vec_len p.slots → map unprepared after ≡ map unprepared before → pool_of (with_slots p after) ≡ pool_of p
view-same p before after good is long same =
    let hold = hold-same p before after good is same in
    view-kept p after _ (items-written p after (length-same before after same ∙ long)) hold.configs (guests-unprepared p.slots.items after (same ∙ ap (map unprepared) is))
