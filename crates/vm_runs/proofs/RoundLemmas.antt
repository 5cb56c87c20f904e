-- The law of runs, whatever the boundaries do: what they leave where one worker serves the guests in order holds at every moment of any
-- number of workers.
use Rattle.std.proofs.Common.{◌≡◌, ℕ, zero, suc, ◌+◌, ◌*◌, ◌<◌, ◌≤◌, true, ◌&&◌, List, [], ◌∷◌, ◌++◌, map, Some, None, nat_lt, slice_get, refl, sym, ap, ap₂, ◌∙◌, arith, subst}
use Rattle.std.specs.List.{All}
use Rattle.std.specs.Option.{option_map}
use Rattle.std.proofs.lemmas.Bool.{ltb-true}
use Rattle.vm_board.specs.Pieces.{after, finished}
use Rattle.vm_board.specs.Rounds.{Event, Place, waiting, with_worker, done, Entry, start, held_by, happens, after_events, StandsAt, IsDone, LeavesOthers, IsInterleaved}
use Rattle.vm_board.specs.Values.{values}
use Rattle.vm_board.proofs.Rounds.{Each, all_each, each_all, either, both_true, interleaved}
use Rattle.vm_guest.specs.Epoch.{epoch}
use Rattle.vm_guest.specs.Good.{IsGood, HasNothingPosted}
use Rattle.vm_guest.specs.Happenings.{Happening, reads_by, IsWrittenBy}
use Rattle.vm_guest.specs.Pieces.{piece, pieces, after_pieces, pieces_happenings}
use Rattle.vm_guest.specs.Record.{GuestRecord}
use Rattle.vm_guest.proofs.PieceLemmas.{pieces-epoch}
use Rattle.vm_host.specs.declared.phase.Phase.TheVariants.{Waiting}
use Rattle.vm_host.specs.Boundary.{past_boundary_by}
use Rattle.vm_host.specs.Epoch.{after_epoch}
use Rattle.vm_runs.specs.Rounds.{RunEvent, work, boundary, Core, first_core, numbered, numbers_of, host_found, is_done, all_done, next_round, goes_on, after_run_events, core_after, pieces_done, happenings_so_far, IsRightNow, IsRight}
use Rattle.vm_host.specs.World.{World, Conserves}
use Rattle.vm_pool.specs.Guests.{Guests}
use Rattle.vm_runs.specs.Course.{Run, guests_of, history_left, host_after, host_left, with_guests}
use Rattle.vm_runs.specs.Served.{IsHost, IsServed}
use Rattle.vm_sound.specs.Written.{happenings_at, IsOrdered}
use Rattle.vm_sound.proofs.BecomeLemmas.{EachBecomes, total-become}

-- what is known of the pieces of a guest's epoch
pub record PieceLaws : Type 0 where
  pub good : (k : ℕ) (g : GuestRecord) → k ≤ pieces g → HasNothingPosted g → IsGood g → IsGood (after_pieces k g)
  pub held : (k : ℕ) (g : GuestRecord) → k ≤ pieces g → (after_pieces k g).memory.held ≡ g.memory.held
  pub written : (k : ℕ) (g : GuestRecord) (before : List Happening) → k ≤ pieces g → IsGood g → HasNothingPosted g → IsWrittenBy before g
      → IsWrittenBy (before ++ pieces_happenings k g) (after_pieces k g)
      × ((after_pieces k g).reads ≡ g.reads ++ reads_by before (pieces_happenings k g))

-- ---- the pieces of a number

after-pieces : (k : ℕ) (g : GuestRecord) → after piece k g ≡ after_pieces k g
after-pieces zero g = refl
after-pieces (suc k) g = ap (piece k) (after-pieces k g)

finished-epoch : (gs : List GuestRecord) → map (finished pieces piece) gs ≡ map epoch gs
finished-epoch [] = refl
finished-epoch (g ∷ gs) = ap₂ (λ x xs. x ∷ xs) (after-pieces (pieces g) g ∙ pieces-epoch g) (finished-epoch gs)

-- where a number stands, said by the pieces that are done
record HasDone (e : Entry GuestRecord) : Type 0 where
  within : pieces_done e e.place ≤ pieces e.put
  record_is : e.job ≡ after_pieces (pieces_done e e.place) e.put

abbrev Stands : Entry GuestRecord → Type 0
Stands e = StandsAt pieces piece e e.place

stands-done : (e : Entry GuestRecord) → Stands e → HasDone e
stands-done e stands = let d = go e.place stands in record { within = d.0; record_is = d.1 }
  where
    go : (p : Place) → StandsAt pieces piece e p → (pieces_done e p ≤ pieces e.put) × (e.job ≡ after_pieces (pieces_done e p) e.put)
    go waiting is = (omega arith, is)
    go (with_worker w k) is = (is.0, is.1 ∙ after-pieces k e.put)
    go done is = (omega arith, is ∙ after-pieces (pieces e.put) e.put)

-- ---- numbers by position

module _ (sel : Entry GuestRecord → GuestRecord) (f : GuestRecord → GuestRecord) where
  numbered-map : (guests : Guests) (round : List (Entry GuestRecord)) → map sel round ≡ map f (values guests)
      → map (option_map sel) (numbered guests round) ≡ map (option_map f) guests
  numbered-map [] round is = refl
  numbered-map (None ∷ guests) round is = ap (λ more. None ∷ more) (numbered-map guests round is)
  numbered-map (Some g ∷ guests) [] is = cc
  numbered-map (Some g ∷ guests) (e ∷ round) is =
      let first : sel e ≡ f g = cc in
      let more : map sel round ≡ map f (values guests) = cc in
      ap₂ (λ x xs. Some x ∷ xs) first (numbered-map guests round more)

map-same : (gs : List GuestRecord) → map (λ g. g) gs ≡ gs
map-same [] = refl
map-same (g ∷ gs) = ap (λ more. g ∷ more) (map-same gs)

maps-same : (guests : Guests) → map (option_map (λ g. g)) guests ≡ guests
maps-same [] = refl
maps-same (None ∷ guests) = ap (λ more. None ∷ more) (maps-same guests)
maps-same (Some g ∷ guests) = ap (λ more. Some g ∷ more) (maps-same guests)

-- no guest is changed where none runs
maps-none : (f : GuestRecord → GuestRecord) (guests : Guests) → values guests ≡ [] → map (option_map f) guests ≡ guests
maps-none f [] none = refl
maps-none f (None ∷ guests) none = ap (λ more. None ∷ more) (maps-none f guests none)
maps-none f (Some g ∷ guests) none = cc

-- the number at a position is that of the guest there
numbered-at : (P : Entry GuestRecord → Type 0) (guests : Guests) (round : List (Entry GuestRecord)) (position : ℕ) (e : Entry GuestRecord)
    → map (λ x. x.put) round ≡ values guests → Each P round → slice_get (numbered guests round) position ≡ Some (Some e)
    → (slice_get guests position ≡ Some (Some e.put)) × P e
numbered-at P [] round position e puts each at = cc
numbered-at P (None ∷ guests) round zero e puts each at = cc
numbered-at P (None ∷ guests) round (suc position) e puts each at = numbered-at P guests round position e puts each at
numbered-at P (Some g ∷ guests) [] position e puts each at = cc
numbered-at P (Some g ∷ guests) (x ∷ round) zero e puts each at =
    let same : x ≡ e = cc in
    let first : x.put ≡ g = cc in
    let put : g ≡ e.put = sym first ∙ ap (λ y. y.put) same in
    (ap (λ y. Some (Some y)) put, subst P same each.0)
numbered-at P (Some g ∷ guests) (x ∷ round) (suc position) e puts each at =
    let more : map (λ y. y.put) round ≡ values guests = cc in
    numbered-at P guests round position e more each.1 at

-- ---- frames inside a round

-- what is true of the number's record, before its round and now, is true of each guest
become-numbered : (R : GuestRecord → GuestRecord → Type 0) (guests : Guests) (round : List (Entry GuestRecord)) → map (λ e. e.put) round ≡ values guests
    → Each (λ e. R e.put e.job) round → EachBecomes R guests (map (option_map (λ e. e.job)) (numbered guests round))
become-numbered R [] round puts each = tt
become-numbered R (None ∷ guests) round puts each = (tt, become-numbered R guests round puts each)
become-numbered R (Some g ∷ guests) [] puts each = cc
become-numbered R (Some g ∷ guests) (e ∷ round) puts each =
    let first : e.put ≡ g = cc in
    let more : map (λ x. x.put) round ≡ values guests = cc in
    (subst (λ x. R x e.job) first each.0, become-numbered R guests round more each.1)

-- a guest that holds as many frames
abbrev HoldsSame : GuestRecord → GuestRecord → Type 0
HoldsSame old new = new.memory.held ≡ old.memory.held

-- frames add up where each guest holds as many as before
conserves-kept : (w : World) (guests : Guests) → EachBecomes HoldsSame (guests_of w) guests → Conserves w → Conserves (with_guests w guests)
conserves-kept w guests same sum =
    let held = total-become HoldsSame (λ g. g.memory.held) (λ old new is. is) (guests_of w) guests same in
    let running = total-become HoldsSame (λ _. 1) (λ old new is. refl) (guests_of w) guests same in
    ap₂ (λ x y. w.pool.free + x + w.pool.overhead * y) held running ∙ sum

each-map : {X : Type 0} {P Q : X → Type 0} → ((x : X) → P x → Q x) → (xs : List X) → Each P xs → Each Q xs
each-map one [] each = tt
each-map one (x ∷ xs) each = (one x each.0, each-map one xs each.1)

all_done-each : (round : List (Entry GuestRecord)) → all_done round ≡ true → Each (IsDone pieces piece) round
all_done-each [] is = tt
all_done-each (e ∷ round) is = let both = both_true (is_done e.place) (all_done round) is in (go e.place both.0, all_done-each round both.1)
  where
    go : (p : Place) → is_done p ≡ true → p ≡ done
    go waiting is = cc
    go (with_worker w k) is = cc
    go done is = refl

-- ---- the events of a round

events-snoc : (es : List Event) (event : Event) (round : List (Entry GuestRecord))
    → after_events pieces piece (es ++ event ∷ []) round ≡ happens pieces piece event (after_events pieces piece es round)
events-snoc [] event round = refl
events-snoc (e ∷ es) event round = events-snoc es event (happens pieces piece e round)

module _ (laws : PieceLaws) (r : Run) (served : IsServed r) where
  -- how a core is reached: the last boundary left its host, and its round is that of some events
  record IsReached (core : Core) : Type 0 where
    few : core.boundaries ≤ r.epochs
    host : core.host ≡ host_left r core.boundaries
    events : List Event
    round : core.round ≡ after_events pieces piece events (start (values (guests_of core.host)))

  interleaves : (core : Core) → IsReached core → (events : List Event) × (core.round ≡ after_events pieces piece events (start (values (guests_of core.host))))
      × IsInterleaved pieces piece (values (guests_of core.host)) events
  interleaves core reached = (reached.events, reached.round, interleaved pieces piece (values (guests_of core.host)) reached.events)

  -- the guests where all numbers are done
  done-guests : (core : Core) → IsReached core → All (IsDone pieces piece) core.round
      → map (option_map (λ e. e.job)) (numbers_of core) ≡ map (option_map epoch) (guests_of core.host)
  done-guests core reached all =
      let i = interleaves core reached in
      let law = i.2 in
      let results : map (λ e. e.job) core.round ≡ map (finished pieces piece) (values (guests_of core.host)) =
      ap (map (λ e. e.job)) i.1 ∙ law.results (subst (All (IsDone pieces piece)) i.1 all) in
      numbered-map (λ e. e.job) epoch (guests_of core.host) core.round (results ∙ finished-epoch (values (guests_of core.host)))

  done-host : (core : Core) → IsReached core → All (IsDone pieces piece) core.round → host_found core ≡ host_after r core.boundaries
  done-host core reached all = go core.boundaries reached.host
    where
      guests : map (option_map (λ e. e.job)) (numbers_of core) ≡ map (option_map epoch) (guests_of core.host)
      guests = done-guests core reached all

      found : host_found core ≡ after_epoch core.host
      found = λ i. record (with_guests core.host (guests i)) { phase = Waiting }

      first_stays : after_epoch r.first ≡ r.first
      first_stays = λ i. record (with_guests r.first (maps-none epoch (guests_of r.first) served.none_runs i)) { phase = sym served.waits i }

      go : (b : ℕ) → core.host ≡ host_left r b → host_found core ≡ host_after r b
      go zero host = found ∙ ap after_epoch host ∙ first_stays
      go (suc k) host = found ∙ ap after_epoch host

  begins : IsReached (first_core r)
  begins = record {
    few = omega arith;
    host = refl;
    events = [];
    round = sym (ap (λ gs. start gs) served.none_runs);
  }

  reached-next : (core : Core) → IsReached core → all_done core.round ≡ true → core.boundaries < r.epochs → IsReached (next_round r core)
  reached-next core reached over more = record {
    few = omega arith;
    host = ap (λ w. past_boundary_by r.policy w (r.lines core.boundaries)) (done-host core reached (each_all (IsDone pieces piece) core.round (all_done-each core.round over)));
    events = [];
    round = refl;
  }

  reached-event : (event : RunEvent) (core : Core) → IsReached core → IsReached (goes_on all_done r event core)
  reached-event (work event) core reached = record {
    few = reached.few;
    host = reached.host;
    events = reached.events ++ event ∷ [];
    round = ap (happens pieces piece event) reached.round ∙ sym (events-snoc reached.events event (start (values (guests_of core.host))));
  }
  reached-event boundary core reached =
      either IsReached (all_done core.round && nat_lt core.boundaries r.epochs) _ _
      (λ hit. let both = both_true (all_done core.round) (nat_lt core.boundaries r.epochs) hit in reached-next core reached both.0 (ltb-true core.boundaries r.epochs both.1))
      (λ _. reached)

  reached-events : (events : List RunEvent) (core : Core) → IsReached core → IsReached (after_run_events all_done r events core)
  reached-events [] core reached = reached
  reached-events (event ∷ events) core reached = reached-events events (goes_on all_done r event core) (reached-event event core reached)

  -- ---- what holds of a core that is reached

  right-now : (happenings : List Happening) (e : Entry GuestRecord) → IsOrdered happenings e.put → HasDone e → IsRightNow happenings e
  right-now happenings e ordered now =
      let k = pieces_done e e.place in
      let kept = laws.written k e.put happenings now.within ordered.good ordered.nothing_posted ordered.written in
      record {
        good = subst IsGood (sym now.record_is) (laws.good k e.put now.within ordered.nothing_posted ordered.good);
        written = subst (IsWrittenBy (happenings ++ happenings_so_far e)) (sym now.record_is) kept.0;
        reads = ap (λ (g : GuestRecord). g.reads) now.record_is ∙ kept.1 ∙ ap (λ reads. reads ++ reads_by happenings (happenings_so_far e)) ordered.no_reads;
      }

  right : (core : Core) → IsReached core → IsRight r core
  right core reached =
      let i = interleaves core reached in
      let law = i.2 in
      let numbers : map (λ e. e.put) core.round ≡ values (guests_of core.host) = ap (map (λ e. e.put)) i.1 ∙ law.numbers in
      let stand : All Stands core.round = subst (All Stands) (sym i.1) law.stand in
      let each = all_each Stands core.round stand in
      let left : IsHost IsOrdered core.host (history_left r core.boundaries) =
      subst (λ (w : World). IsHost IsOrdered w (history_left r core.boundaries)) (sym reached.host) (served.left_right core.boundaries) in
      let frames = become-numbered HoldsSame (guests_of core.host) core.round numbers
      (each-map (λ e stands. let now = stands-done e stands in
      ap (λ (g : GuestRecord). g.memory.held) now.record_is ∙ laws.held (pieces_done e e.place) e.put now.within) core.round each) in
      record {
        few = reached.few;
        host = reached.host;
        numbers = numbers;
        given = numbered-map (λ e. e.put) (λ g. g) (guests_of core.host) core.round (numbers ∙ sym (map-same (values (guests_of core.host))))
            ∙ maps-same (guests_of core.host);
        alone = λ worker. subst (λ round. held_by worker round ≤ 1) (sym i.1) (law.alone worker);
        stand = stand;
        apart = subst (LeavesOthers pieces piece) (sym i.1) law.apart;
        conserves = conserves-kept core.host (map (option_map (λ e. e.job)) (numbers_of core)) frames left.conserves;
        guests = λ position e at.
            let there = numbered-at Stands (guests_of core.host) core.round position e numbers each at in
            right-now (happenings_at (history_left r core.boundaries) position) e (left.guests position e.put there.0) (stands-done e there.1);
        earlier = λ k position g before at. served.reads k position g at;
        over = done-host core reached;
      }

  pub rounds : (events : List RunEvent) → IsRight r (core_after all_done r events)
  rounds events = right (core_after all_done r events) (reached-events events (first_core r) begins)
