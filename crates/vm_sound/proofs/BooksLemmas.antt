-- What the books hold after each call: only a start, a stop and another minimum change them.
use Rattle.std.proofs.Common.{◌≡◌, ◌∙◌, ℕ, ◌+◌, ◌-◌, ◌<◌, ◌≤◌, Bool, List, [], ◌∷◌, Option, Some, None, fold, length, refl, ap, arith}
use Rattle.std.specs.Prelude.{slice_get, slice_set}
use Rattle.std.specs.Option.{option_map}
use Rattle.vm_admission.specs.Accounts.{with_guest, with_minimum, without_guest}
use Rattle.vm_domains.specs.Machine.{MachineConfig}
use Rattle.vm_guest.specs.Boundary.{granted, ordered, released, revoked, serviced, with_cap, with_shares, without_spares}
use Rattle.vm_guest.specs.Config.{GuestConfig}
use Rattle.vm_guest.specs.Epoch.{epoch}
use Rattle.vm_guest.specs.Good.{IsGood}
use Rattle.vm_guest.specs.Record.{GuestRecord, reserve}
use Rattle.vm_guest.specs.Start.{started}
use Rattle.vm_pool.specs.Changes.{after_epoch, all_changed, changed, granted_at, released_at, started_at, stopped_at, taken_at, blocked_above, with_min_at, with_min_held, with_orders, with_released, with_spares_back, with_started}
use Rattle.vm_pool.specs.Guests.{Guests, each_released, total}
use Rattle.vm_pool.specs.Pool.{PoolView, guest_at}
use Rattle.vm_sound.specs.Books.{accounts_of, promised}
use Rattle.vm_sound.specs.Sound.{IsSoundPool}
use Rattle.vm_sound.proofs.BecomeLemmas.{EachBecomes, become-all, become-at, become-none, total-become}
use Rattle.vm_sound.proofs.PlaceLemmas.{each-in, guests-taken, if-any, within-here}
use Rattle.vm_sound.proofs.SoundPoolLemmas.{each-step}
use Rattle.vm_sound.proofs.StepLemmas.{StaysBooked, booked-epoch, booked-granted, booked-none, booked-ordered, booked-released, booked-revoked, booked-serviced, booked-spares, booked-taken, booked-with_cap, booked-with_shares}
use Rattle.vm_sound.proofs.TotalLemmas.{total-at, total-less, total-more, total-other}

-- ---- guests that were promised the same

pub books-become : (machine : MachineConfig) (old new : Guests) → EachBecomes StaysBooked old new → accounts_of machine new ≡ accounts_of machine old
books-become machine old new steps =
    let runs = total-become StaysBooked (λ _. 1) (λ old new step. refl) old new steps in
    let memory = total-become StaysBooked (promised machine) (λ old new step. ap (λ n. n + machine.overhead) step.min) old new steps in
    let reserved = total-become StaysBooked reserve (λ old new step. λ i. (step.config i).size - step.least_min i) old new steps in
    λ i. record { frames = machine.frames; swap = machine.swap; overhead = machine.overhead; guests = runs i; memory = memory i; reserved = reserved i }

-- each guest changes
pub books-all : (machine : MachineConfig) (change : GuestRecord → GuestRecord) (p : PoolView) → ((g : GuestRecord) → StaysBooked g (change g))
    → accounts_of machine (all_changed change p).guests ≡ accounts_of machine p.guests
books-all machine change p step =
    books-become machine p.guests (all_changed change p).guests (become-all StaysBooked change p.guests (each-step StaysBooked change p.guests step))

-- the guest at a position changes
pub books-at : (machine : MachineConfig) (change : GuestRecord → GuestRecord) (p : PoolView) (k : ℕ) → ((g : GuestRecord) → StaysBooked g (change g))
    → accounts_of machine (changed change p k).guests ≡ accounts_of machine p.guests
books-at machine change p k step =
    books-become machine p.guests (changed change p k).guests
    (become-at StaysBooked change p.guests k booked-none (if-any (λ g. StaysBooked g (change g)) (guest_at p k) step))

-- ---- each guest

pub books-serviced : (machine : MachineConfig) (p : PoolView) → accounts_of machine (all_changed serviced p).guests ≡ accounts_of machine p.guests
books-serviced machine p = books-all machine serviced p booked-serviced

pub books-spares : (machine : MachineConfig) (p : PoolView) → accounts_of machine (with_spares_back p).guests ≡ accounts_of machine p.guests
books-spares machine p = books-all machine without_spares p booked-spares

pub books-orders : (machine : MachineConfig) (blocks : Bool) (p : PoolView) → accounts_of machine (with_orders blocks p).guests ≡ accounts_of machine p.guests
books-orders machine blocks p = books-all machine (λ g. ordered g (blocked_above blocks g)) p (λ g. booked-ordered (blocked_above blocks g) g)

pub books-epoch : (machine : MachineConfig) (p : PoolView) → accounts_of machine (after_epoch p).guests ≡ accounts_of machine p.guests
books-epoch machine p = books-all machine epoch p booked-epoch

booked-each_released : (counts : List ℕ) (guests : Guests) → EachBecomes StaysBooked guests (each_released counts guests)
booked-each_released [] guests = become-none StaysBooked booked-none guests
booked-each_released (count ∷ counts) [] = tt
booked-each_released (count ∷ counts) (None ∷ guests) = (tt, booked-each_released counts guests)
booked-each_released (count ∷ counts) (Some g ∷ guests) = (booked-released count g, booked-each_released counts guests)

pub books-released : (machine : MachineConfig) (counts : List ℕ) (p : PoolView) → accounts_of machine (with_released counts p).guests ≡ accounts_of machine p.guests
books-released machine counts p = books-become machine p.guests (with_released counts p).guests (booked-each_released counts p.guests)

-- ---- the guest at a position

pub books-released_at : (machine : MachineConfig) (count : ℕ) (p : PoolView) (k : ℕ) → accounts_of machine (released_at count p k).guests ≡ accounts_of machine p.guests
books-released_at machine count p k = books-at machine (released count) p k (booked-released count)

pub books-revoked : (machine : MachineConfig) (p : PoolView) (k : ℕ) → accounts_of machine (changed revoked p k).guests ≡ accounts_of machine p.guests
books-revoked machine p k = books-at machine revoked p k booked-revoked

pub books-taken : (machine : MachineConfig) (p : PoolView) (k : ℕ) → accounts_of machine (taken_at p k).guests ≡ accounts_of machine p.guests
books-taken machine p k = ap (accounts_of machine) (guests-taken p k) ∙ books-at machine (λ g. released 1 (revoked g)) p k booked-taken

pub books-granted : (machine : MachineConfig) (p : PoolView) (k : ℕ) → accounts_of machine (granted_at p k).guests ≡ accounts_of machine p.guests
books-granted machine p k = books-at machine granted p k booked-granted

pub books-with_cap : (machine : MachineConfig) (cap : ℕ) (p : PoolView) (k : ℕ) → accounts_of machine (changed (λ g. with_cap g cap) p k).guests ≡ accounts_of machine p.guests
books-with_cap machine cap p k = books-at machine (λ g. with_cap g cap) p k (booked-with_cap cap)

pub books-with_shares : (machine : MachineConfig) (shares : ℕ) (p : PoolView) (k : ℕ)
    → accounts_of machine (changed (λ g. with_shares g shares) p k).guests ≡ accounts_of machine p.guests
books-with_shares machine shares p k = books-at machine (λ g. with_shares g shares) p k (booked-with_shares shares)

-- ---- lists of moves

pub books-all_revoked : (machine : MachineConfig) (moves : List ℕ) (p : PoolView) → accounts_of machine (fold (changed revoked) p moves).guests ≡ accounts_of machine p.guests
books-all_revoked machine [] p = refl
books-all_revoked machine (k ∷ moves) p = books-all_revoked machine moves (changed revoked p k) ∙ books-revoked machine p k

pub books-all_taken : (machine : MachineConfig) (moves : List ℕ) (p : PoolView) → accounts_of machine (fold taken_at p moves).guests ≡ accounts_of machine p.guests
books-all_taken machine [] p = refl
books-all_taken machine (k ∷ moves) p = books-all_taken machine moves (taken_at p k) ∙ books-taken machine p k

pub books-all_granted : (machine : MachineConfig) (moves : List ℕ) (p : PoolView) → accounts_of machine (fold granted_at p moves).guests ≡ accounts_of machine p.guests
books-all_granted machine [] p = refl
books-all_granted machine (k ∷ moves) p = books-all_granted machine moves (granted_at p k) ∙ books-granted machine p k

-- ---- a guest starts, stops, or has another minimum

pub books-started : (machine : MachineConfig) (p : PoolView) (k : ℕ) (config : GuestConfig) → k < length p.guests → guest_at p k ≡ None → slice_get p.configs k ≡ Some config
    → accounts_of machine (started_at p k).guests ≡ with_guest (accounts_of machine p.guests) config.min (config.size - config.min)
books-started machine p k config there none is =
    let runs = total-more (λ _. 1) p.guests k (started config) there none in
    let memory = total-more (promised machine) p.guests k (started config) there none in
    let reserved = total-more reserve p.guests k (started config) there none in
    ap (λ (c : Option GuestConfig). accounts_of machine (with_started p k c).guests) is
    ∙ (λ i. record { frames = machine.frames; swap = machine.swap; overhead = machine.overhead; guests = runs i; memory = memory i; reserved = reserved i })

pub books-stopped : (machine : MachineConfig) (p : PoolView) (k : ℕ) (g : GuestRecord) → guest_at p k ≡ Some g
    → accounts_of machine (stopped_at p k).guests ≡ without_guest (accounts_of machine p.guests) g.allotment.min (reserve g)
books-stopped machine p k g here =
    let there = within-here p.guests k g here in
    let runs = fewer (λ _. 1) there in
    let memory = fewer (promised machine) there in
    let reserved = fewer reserve there in
    λ i. record { frames = machine.frames; swap = machine.swap; overhead = machine.overhead; guests = runs i; memory = memory i; reserved = reserved i }
  where
    fewer : (number : GuestRecord → ℕ) → k < length p.guests → total number (slice_set p.guests k None) ≡ total number p.guests - number g
    fewer number there = let sum = total-less number p.guests k g there here in omega (arith, sum)

pub books-with_min : (machine : MachineConfig) (least : ℕ) (p : PoolView) (k : ℕ) (g : GuestRecord) → guest_at p k ≡ Some g → g.allotment.least_min ≤ g.config.size
    → accounts_of machine (with_min_at least p k).guests ≡ with_minimum (accounts_of machine p.guests) g.allotment.min least (g.allotment.least_min - least)
books-with_min machine least p k g here within =
    let there = within-here p.guests k g here in
    let new = ap (option_map (with_min_held least)) here in
    let runs : total (λ _. 1) (slice_set p.guests k (Some (with_min_held least g))) ≡ total (λ _. 1) p.guests =
    let sum = total-other (λ _. 1) p.guests k g (with_min_held least g) there here in omega (arith, sum) in
    let memory : total (promised machine) (slice_set p.guests k (Some (with_min_held least g))) ≡ total (promised machine) p.guests - g.allotment.min + least =
    let sum = total-other (promised machine) p.guests k g (with_min_held least g) there here in
    let room = total-at (promised machine) p.guests k g here in
    omega (arith, sum, room) in
    let reserved : total reserve (slice_set p.guests k (Some (with_min_held least g))) ≡ total reserve p.guests + (g.allotment.least_min - least) =
    let sum = total-other reserve p.guests k g (with_min_held least g) there here in
    let room = total-at reserve p.guests k g here in
    omega (arith, sum, room, within) in
    ap (λ (o : Option GuestRecord). accounts_of machine (slice_set p.guests k o)) new
    ∙ (λ i. record { frames = machine.frames; swap = machine.swap; overhead = machine.overhead; guests = runs i; memory = memory i; reserved = reserved i })

-- a guest of a sound pool has the least minimum within its size
pub least-within : (p : PoolView) (k : ℕ) (g : GuestRecord) → IsSoundPool p → guest_at p k ≡ Some g → g.allotment.least_min ≤ g.config.size
least-within p k g sound here =
    let good = each-in IsGood p.guests k g sound.good here in
    let a = good.sound.allotment in
    let least = a.least in
    let from = a.target_from in
    let to = a.target_to in
    let cap = a.cap in
    omega (arith, least, from, to, cap)
