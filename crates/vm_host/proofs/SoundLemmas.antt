-- A host stays sound, and its books tell what its guests were promised.
use Rattle.std.proofs.Common.{◌≡◌, ◌≢◌, ◌∙◌, ℕ, ◌+◌, ◌-◌, ◌^◌, ◌<◌, ◌≤◌, IfSome, IsSome, List, Option, Some, None, Ok, length, slice_get, refl, ap, subst, sym, arith}
use Rattle.std.proofs.lemmas.Option.{slice_get_within}
use Rattle.vm_admission.specs.Accounts.{Accounts, with_guest, with_minimum, without_guest}
use Rattle.vm_commands.specs.declared.command.Command.{Command}
use Rattle.vm_commands.specs.declared.command.Command.TheVariants.{Start, Destroy, SetMemory, SetMinimum, SetShares, ShowStatistics}
use Rattle.vm_domains.specs.Domains.{ArePaired}
use Rattle.vm_guest.specs.Boundary.{with_cap, with_shares}
use Rattle.vm_guest.specs.Config.{GuestConfig}
use Rattle.vm_guest.specs.Good.{HasNothingPosted, IsGood}
use Rattle.vm_guest.specs.Record.{GuestRecord, reserve}
use Rattle.vm_plan.specs.declared.state.State.{State}
use Rattle.vm_host.specs.declared.phase.Phase.{Phase}
use Rattle.vm_host.specs.declared.phase.Phase.TheVariants.{Waiting, Ready, Failed}
use Rattle.vm_host.specs.Boundary.{finished, opened_boundary}
use Rattle.vm_host.specs.Books.{books_of}
use Rattle.vm_host.specs.Commands.{obeyed_by}
use Rattle.vm_host.specs.Decisions.{IsBooked, booked_minimum, booked_start, decision_on}
use Rattle.vm_host.specs.Epoch.{after_epoch as world_after_epoch}
use Rattle.vm_host.specs.Obeying.{CanObey, IsInRange}
use Rattle.vm_host.specs.Sound.{IsSoundWorld}
use Rattle.vm_host.specs.World.{World, with_pool}
use Rattle.vm_host.proofs.DecisionLemmas.{IsCovered, caps-at, destroys-at, raises-at, shares-at, starts-at}
use Rattle.vm_host.proofs.PoolLemmas.{IsWhole, Keeps, keeps-finished, keeps-room, keeps-serviced, keeps-spares, keeps-then}
use Rattle.vm_plan.specs.State.{next_state_of}
use Rattle.vm_pool.specs.Changes.{after_epoch, all_changed, changed, frames_to_start, started_at, stopped_at, with_min_at, with_spares_back}
use Rattle.vm_pool.specs.Guests.{of_running, total}
use Rattle.vm_pool.specs.Pool.{PoolView, EachGuest, guest_at}
use Rattle.vm_guest.specs.Boundary.{serviced}
use Rattle.vm_reclaim.specs.declared.room.Raise.{Raise}
use Rattle.vm_reclaim.specs.Enough.{CoversMinimum, CoversStart, promised}
use Rattle.vm_reclaim.specs.Making.{CanRaise}
use Rattle.vm_reclaim.specs.Policy.{Policy}
use Rattle.vm_reclaim.specs.Room.{lacking_at, needed_to_start, room_made}
use Rattle.vm_reclaim.proofs.EnoughLemmas.{raised_room, room_to_raise, room_to_start}
use Rattle.vm_reclaim.proofs.RoomLemmas.{length_room, stopped_room}
use Rattle.vm_sound.specs.Books.{accounts_of}
use Rattle.vm_sound.specs.Sound.{HasSameSetup}
use Rattle.vm_sound.proofs.BooksLemmas.{books-epoch, books-started, books-stopped, books-with_cap, books-with_min, books-with_shares, least-within}
use Rattle.vm_sound.proofs.FramesLemmas.{conserves-epoch, conserves-started, conserves-stopped, conserves-with_cap, conserves-with_min, conserves-with_shares, setup-started}
use Rattle.vm_sound.proofs.PlaceLemmas.{each-in, here-if, if-here, within-here}
use Rattle.vm_sound.proofs.ServedLemmas.{served-serviced, served-started, served-stopped, served-with_cap, served-with_min, served-with_shares}
use Rattle.vm_sound.proofs.SoundPoolLemmas.{sound-epoch, sound-started, sound-stopped, sound-with_cap, sound-with_min, sound-with_shares}
use Rattle.vm_tax.specs.Ratio.{Tax}

-- ---- a host and its pool

pub whole-of : (w : World) → IsSoundWorld w → IsWhole w.pool
whole-of w sound = record { sound = sound.pool; adds_up = sound.conserves ∙ sym sound.frames_are }

pub paired-domains : (w : World) → IsSoundWorld w → ArePaired w.names w.pool.configs
paired-domains w sound = record { paired = sound.named; few = sound.pool.few; limits = sound.pool.limits }

-- a sound host with another pool, which is set up as before
pub world-of : (w : World) (pool : PoolView) (state : State) (phase : Phase) → IsSoundWorld w → HasSameSetup w.pool pool → IsWhole pool → IsCovered (accounts_of w.machine pool.guests)
    → (phase ≡ Ready → EachGuest HasNothingPosted pool) → IsSoundWorld (record w { pool = pool; state = state; phase = phase })
world-of w pool state phase sound setup whole covers served = record {
  machine = sound.machine;
  named = sound.named ∙ ap (λ (configs : List GuestConfig). length configs) (sym setup.configs);
  pool = whole.sound;
  frames_are = setup.frames ∙ sound.frames_are;
  overhead = setup.overhead ∙ sound.overhead;
  conserves = whole.adds_up ∙ (setup.frames ∙ sound.frames_are);
  frames = covers.frames;
  swap = covers.swap;
  served = served;
}

-- the books are the same
still-covered : (w : World) (pool : PoolView) → IsSoundWorld w → accounts_of w.machine pool.guests ≡ books_of w → IsCovered (accounts_of w.machine pool.guests)
still-covered w pool sound same = subst IsCovered (sym same) (record { frames = sound.frames; swap = sound.swap })

-- ---- before and after the lines

pub sound-opened_boundary : (w : World) → IsSoundWorld w → IsSoundWorld (opened_boundary w)
sound-opened_boundary w sound =
    let first = keeps-serviced w.machine w.pool (whole-of w sound) in
    let second = keeps-spares w.machine (all_changed serviced w.pool) first.whole in
    let both = keeps-then w.machine w.pool (all_changed serviced w.pool) (with_spares_back (all_changed serviced w.pool)) first second in
    world-of w (opened_boundary w).pool w.state Ready sound both.setup both.whole (still-covered w (opened_boundary w).pool sound both.booked)
    (λ _. second.served (served-serviced w.pool))

pub books-opened_boundary : (w : World) → IsSoundWorld w → books_of (opened_boundary w) ≡ books_of w
books-opened_boundary w sound =
    let first = keeps-serviced w.machine w.pool (whole-of w sound) in
    let second = keeps-spares w.machine (all_changed serviced w.pool) first.whole in
    second.booked ∙ first.booked

finished-keeps : (policy : Policy) (w : World) → IsSoundWorld w → Keeps w.machine w.pool (finished policy w).pool
finished-keeps policy w sound = keeps-finished w.machine policy (next_state_of w.state w.pool.free policy.thresholds) w.pool (whole-of w sound)

pub sound-finished : (policy : Policy) (w : World) → IsSoundWorld w → IsSoundWorld (finished policy w)
sound-finished policy w sound =
    let kept = finished-keeps policy w sound in
    world-of w (finished policy w).pool (finished policy w).state w.phase sound kept.setup kept.whole (still-covered w (finished policy w).pool sound kept.booked)
    (λ ready. kept.served (sound.served ready))

pub books-finished : (policy : Policy) (w : World) → IsSoundWorld w → books_of (finished policy w) ≡ books_of w
books-finished policy w sound = (finished-keeps policy w sound).booked

-- ---- an epoch

pub sound-after_epoch : (w : World) → IsSoundWorld w → w.phase ≡ Ready → IsSoundWorld (world_after_epoch w)
sound-after_epoch w sound ready =
    let pool = after_epoch w.pool in
    let new = world_after_epoch w in
    world-of w pool w.state new.phase sound (record { frames = refl; overhead = refl; configs = refl })
    (record { sound = sound-epoch w.pool (sound.served ready) sound.pool; adds_up = conserves-epoch w.pool (whole-of w sound).adds_up })
    (still-covered w pool sound (books-epoch w.machine w.pool))
    (λ no. absurd cc)

pub books-after_epoch : (w : World) → books_of (world_after_epoch w) ≡ books_of w
books-after_epoch w = books-epoch w.machine w.pool

-- a host that waits for no boundary and hasn't failed is ready
pub ready-else : (phase : Phase) → phase ≢ Waiting → phase ≢ Failed → phase ≡ Ready
ready-else Waiting waits fails = absurd (waits refl)
ready-else Ready waits fails = refl
ready-else Failed waits fails = absurd (fails refl)

pub sound-ran : (w : World) (pool : PoolView) → w.phase ≢ Waiting → w.phase ≢ Failed → pool ≡ after_epoch w.pool → IsSoundWorld w → IsSoundWorld (record w { pool = pool; phase = Waiting })
sound-ran w pool waits fails ran sound =
    subst (λ (p : PoolView). IsSoundWorld (record w { pool = p; phase = Waiting })) (sym ran) (sound-after_epoch w sound (ready-else w.phase waits fails))

pub books-ran : (w : World) (pool : PoolView) → pool ≡ after_epoch w.pool → books_of w ≡ accounts_of w.machine pool.guests
books-ran w pool ran = sym (ap (λ (p : PoolView). accounts_of w.machine p.guests) ran ∙ books-epoch w.machine w.pool)

-- ---- a command that was admitted

pub record IsObeyed (tax : Tax) (w : World) (position : ℕ) (command : Command) : Type 0 where
  -- it can be done
  pub can : CanObey tax w.pool position command
  -- what is left is sound
  pub sound : IsSoundWorld (with_pool w (obeyed_by tax w.pool position command))
  -- and the books after it tell of it
  pub booked : (books : Accounts) → IsBooked w.pool position (books_of w) books command → books ≡ books_of (with_pool w (obeyed_by tax w.pool position command))

-- the promises of the books are those of the pool
promised-are : (w : World) → IsSoundWorld w → (books_of w).memory ≡ promised w.pool
promised-are w sound = ap (λ (n : ℕ). total (λ (g : GuestRecord). g.allotment.min + n) w.pool.guests) (sym sound.overhead)

-- ---- start

obeys-start : (tax : Tax) (w : World) (domain : List ℕ) (position : ℕ) → IsSoundWorld w → decision_on w (Start domain) ≡ Ok position → IsObeyed tax w position (Start domain)
obeys-start tax w domain position sound is =
    let at = starts-at w domain position is in
    let pool = w.pool in
    let whole = whole-of w sound in
    let needed = needed_to_start pool position in
    let needs = ap (frames_to_start pool.overhead) at.here in
    let covers : CoversStart pool position =
    let promises = promised-are w sound in
    let frames_are = sound.frames_are in
    let overhead = sound.overhead in
    let fits = at.covers.frames in
    omega (arith, promises, frames_are, overhead, fits, needs) in
    let enough = room_to_start tax pool position sound.pool whole.adds_up covers in
    let made = room_made tax None needed pool in
    let kept = keeps-room w.machine tax None needed pool tt whole in
    let within =
    let there = slice_get_within pool.configs position at.config at.here in
    let paired = sound.pool.paired in
    let inside : position < length pool.guests = omega (arith, there, paired) in inside in
    let inside : position < length made.guests = let long = length_room tax None needed pool in omega (arith, long, within) in
    let stopped = stopped_room tax None needed pool position at.stopped in
    let here = ap (λ (configs : List GuestConfig). slice_get configs position) kept.setup.configs ∙ at.here in
    let free =
    let same : frames_to_start made.overhead (slice_get made.configs position) ≡ needed =
    λ i. frames_to_start (kept.setup.overhead i) (slice_get (kept.setup.configs i) position) in
    let fits : frames_to_start made.overhead (slice_get made.configs position) ≤ made.free = omega (arith, same, enough) in fits in
    let started = started_at made position in
    let setup = setup-started made position in
    let booked : accounts_of w.machine started.guests ≡ booked_start (books_of w) at.config =
    books-started w.machine made position at.config inside stopped here
    ∙ ap (λ (a : Accounts). with_guest a at.config.min (at.config.size - at.config.min)) kept.booked in
    record {
      can = (within, (at.stopped, enough));
      sound = world-of w started w.state w.phase sound
          (record { frames = setup.frames ∙ kept.setup.frames; overhead = setup.overhead ∙ kept.setup.overhead; configs = setup.configs ∙ kept.setup.configs })
          (record { sound = sound-started made position kept.whole.sound; adds_up = conserves-started made position inside stopped free kept.whole.adds_up })
          (subst IsCovered (sym booked) at.covers)
          (λ ready. served-started made position (kept.served (sound.served ready)));
      booked = λ books told. subst (λ (o : Option GuestConfig). IfSome o (λ config. books ≡ booked_start (books_of w) config)) at.here told ∙ sym booked;
    }

-- ---- memtune

-- the minimum is within the machine's greatest guest
small-minimum : (w : World) (position least : ℕ) (g : GuestRecord) → IsSoundWorld w → guest_at w.pool position ≡ Some g → least ≤ g.config.size → least < 2 ^ 32
small-minimum w position least g sound here to =
    let good = each-in IsGood w.pool.guests position g sound.pool.good here in
    let few = good.sound.limits.few_pages in
    omega (arith, to, few)

cap-within : (w : World) (position : ℕ) (g : GuestRecord) → IsSoundWorld w → guest_at w.pool position ≡ Some g → g.allotment.cap ≤ g.config.size
cap-within w position g sound here = (each-in IsGood w.pool.guests position g sound.pool.good here).sound.allotment.cap

obeys-minimum : (tax : Tax) (w : World) (domain : List ℕ) (least position : ℕ) → IsSoundWorld w → 1 ≤ least → decision_on w (SetMinimum domain least) ≡ Ok position
    → IsObeyed tax w position (SetMinimum domain least)
obeys-minimum tax w domain least position sound some is =
    let at = raises-at w domain least position is in
    let g = at.guest in
    let pool = w.pool in
    let whole = whole-of w sound in
    let raise : Raise = record { position = position; least = least } in
    let raises : CanRaise (Some raise) pool = record {
      within = within-here pool.guests position g at.here;
      from = some;
      runs = subst (λ (o : Option GuestRecord). IsSome o) (sym at.here) refl;
      to = if-here (λ (h : GuestRecord). least ≤ h.allotment.cap) (guest_at pool position) g at.here at.to;
    } in
    let needed = lacking_at pool position least in
    let covers : CoversMinimum pool position least =
    let promises = promised-are w sound in
    let frames_are = sound.frames_are in
    let fits = at.covers.frames in
    let min = ap (of_running (λ (h : GuestRecord). h.allotment.min)) at.here in
    omega (arith, promises, frames_are, fits, min) in
    let enough = room_to_raise tax pool position least sound.pool whole.adds_up covers in
    let made = room_made tax (Some raise) needed pool in
    let kept = keeps-room w.machine tax (Some raise) needed pool refl whole in
    let here : guest_at made position ≡ Some g = raised_room tax raise needed pool sound.pool.good refl ∙ at.here in
    let new = with_min_at least made position in
    let booked : accounts_of w.machine new.guests ≡ booked_minimum (books_of w) g least =
    books-with_min w.machine least made position g here (least-within pool position g sound.pool at.here)
    ∙ ap (λ (a : Accounts). with_minimum a g.allotment.min least (g.allotment.least_min - least)) kept.booked in
    let cap = cap-within w position g sound at.here in
    let to = at.to in
    record {
      can = (small-minimum w position least g sound at.here (omega (arith, cap, to)), (raises, enough));
      sound = world-of w new w.state w.phase sound
          (record { frames = kept.setup.frames; overhead = kept.setup.overhead; configs = kept.setup.configs })
          (record {
            sound = sound-with_min least made position some (if-here (λ (h : GuestRecord). least ≤ h.allotment.cap) (guest_at made position) g here at.to) kept.whole.sound;
            adds_up = conserves-with_min least made position enough kept.whole.adds_up;
          })
          (subst IsCovered (sym booked) at.covers)
          (λ ready. served-with_min least made position (kept.served (sound.served ready)));
      booked = λ books told. here-if (λ (h : GuestRecord). books ≡ booked_minimum (books_of w) h least) (guest_at pool position) g at.here told ∙ sym booked;
    }

-- ---- the others

obeys-destroy : (tax : Tax) (w : World) (domain : List ℕ) (position : ℕ) → IsSoundWorld w → decision_on w (Destroy domain) ≡ Ok position → IsObeyed tax w position (Destroy domain)
obeys-destroy tax w domain position sound is =
    let at = destroys-at w domain position is in
    let g = at.guest in
    let pool = w.pool in
    let whole = whole-of w sound in
    let runs = subst (λ (o : Option GuestRecord). IsSome o) (sym at.here) refl in
    let booked = books-stopped w.machine pool position g at.here in
    let fewer : IsCovered (without_guest (books_of w) g.allotment.min (reserve g)) =
    let frames = sound.frames in
    let swap = sound.swap in
    record { frames = omega (arith, frames); swap = omega (arith, swap) } in
    record {
      can = runs;
      sound = world-of w (stopped_at pool position) w.state w.phase sound
          (record { frames = refl; overhead = refl; configs = refl })
          (record { sound = sound-stopped pool position whole.sound; adds_up = conserves-stopped pool position runs whole.adds_up })
          (subst IsCovered (sym booked) fewer)
          (λ ready. served-stopped pool position (sound.served ready));
      booked = λ books told. here-if (λ (h : GuestRecord). books ≡ without_guest (books_of w) h.allotment.min (reserve h)) (guest_at pool position) g at.here told ∙ sym booked;
    }

obeys-cap : (tax : Tax) (w : World) (domain : List ℕ) (most position : ℕ) → IsSoundWorld w → decision_on w (SetMemory domain most) ≡ Ok position
    → IsObeyed tax w position (SetMemory domain most)
obeys-cap tax w domain most position sound is =
    let at = caps-at w domain most position is in
    let g = at.guest in
    let pool = w.pool in
    let whole = whole-of w sound in
    let from = if-here (λ (h : GuestRecord). h.allotment.min ≤ most) (guest_at pool position) g at.here at.from in
    let to = if-here (λ (h : GuestRecord). most ≤ h.config.size) (guest_at pool position) g at.here at.to in
    let new = changed (λ h. with_cap h most) pool position in
    let booked = books-with_cap w.machine most pool position in
    record {
      can = (within-here pool.guests position g at.here, (small-minimum w position most g sound at.here at.to, (from, to)));
      sound = world-of w new w.state w.phase sound
          (record { frames = refl; overhead = refl; configs = refl })
          (record { sound = sound-with_cap most pool position from to whole.sound; adds_up = conserves-with_cap most pool position whole.adds_up })
          (still-covered w new sound booked)
          (λ ready. served-with_cap most pool position (sound.served ready));
      booked = λ books told. told ∙ sym booked;
    }

obeys-shares : (tax : Tax) (w : World) (domain : List ℕ) (shares position : ℕ) → IsSoundWorld w → 1 ≤ shares → shares ≤ 1000000
    → decision_on w (SetShares domain shares) ≡ Ok position → IsObeyed tax w position (SetShares domain shares)
obeys-shares tax w domain shares position sound some few is =
    let at = shares-at w domain shares position is in
    let pool = w.pool in
    let whole = whole-of w sound in
    let new = changed (λ h. with_shares h shares) pool position in
    let booked = books-with_shares w.machine shares pool position in
    record {
      can = (within-here pool.guests position at.guest at.here, (some, few));
      sound = world-of w new w.state w.phase sound
          (record { frames = refl; overhead = refl; configs = refl })
          (record { sound = sound-with_shares shares pool position some few whole.sound; adds_up = conserves-with_shares shares pool position whole.adds_up })
          (still-covered w new sound booked)
          (λ ready. served-with_shares shares pool position (sound.served ready));
      booked = λ books told. told ∙ sym booked;
    }

pub obeys : (tax : Tax) (w : World) (command : Command) (position : ℕ) → IsSoundWorld w → IsInRange command → decision_on w command ≡ Ok position → IsObeyed tax w position command
obeys tax w (Start domain) position sound range is = obeys-start tax w domain position sound is
obeys tax w (Destroy domain) position sound range is = obeys-destroy tax w domain position sound is
obeys tax w (SetMemory domain most) position sound range is = obeys-cap tax w domain most position sound is
obeys tax w (SetMinimum domain least) position sound range is = obeys-minimum tax w domain least position sound range is
obeys tax w (SetShares domain shares) position sound range is = obeys-shares tax w domain shares position sound range.0 range.1 is
obeys tax w (ShowStatistics domain) position sound range is = record { can = tt; sound = sound; booked = λ books told. told }
