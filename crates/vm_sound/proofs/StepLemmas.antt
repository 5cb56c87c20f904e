-- What each call makes of one guest: it stays good, with the configuration that it had, and was promised the same.
use Rattle.std.proofs.Common.{◌≡◌, ◌∙◌, ℕ, ◌<◌, ◌≤◌, Bool, true, false, max, if◌then◌else◌, refl, ap, arith}
use Rattle.vm_guest.specs.declared.allotment.Allotment.{Allotment}
use Rattle.vm_guest.specs.Boundary.{granted, is_full, ordered, released, revoked, serviced, surplus, with_cap, with_grant, with_min, with_shares, with_spare, without_spares}
use Rattle.vm_guest.specs.Epoch.{epoch}
use Rattle.vm_guest.specs.Good.{HasNothingPosted, IsGood, IsSound}
use Rattle.vm_guest.specs.Memory.{with_held}
use Rattle.vm_guest.specs.Record.{GuestRecord}
use Rattle.vm_guest.proofs.BoundaryLemmas.{released-allotment, released-config, with_min-sound}
use Rattle.vm_guest.proofs.EpochLemmas.{epoch-config, epoch-least_min, epoch-min, granted-config}
use Rattle.vm_guest.proofs.GoodLemmas.{epoch-good, granted-good, ordered-good, released-good, revoked-good, serviced-good, with_cap-good, with_shares-good, without_spares-good}
use Rattle.vm_guest.proofs.MemoryLemmas.{with_held-memory}
use Rattle.vm_guest.proofs.PartLemmas.{new_memory-sound}
use Rattle.vm_pool.specs.Changes.{with_min_held}

-- it stays good, and is set up as it was
pub record StaysGood (old new : GuestRecord) : Type 0 where
  pub config : new.config ≡ old.config
  pub good : IsGood old → IsGood new

-- it was promised as much as before
pub record StaysBooked (old new : GuestRecord) : Type 0 where
  pub config : new.config ≡ old.config
  pub min : new.allotment.min ≡ old.allotment.min
  pub least_min : new.allotment.least_min ≡ old.allotment.least_min

pub good-none : (g : GuestRecord) → StaysGood g g
good-none g = record { config = refl; good = λ good. good }

pub good-then : (a b c : GuestRecord) → StaysGood a b → StaysGood b c → StaysGood a c
good-then a b c first second = record { config = second.config ∙ first.config; good = λ good. second.good (first.good good) }

pub booked-none : (g : GuestRecord) → StaysBooked g g
booked-none g = record { config = refl; min = refl; least_min = refl }

pub booked-then : (a b c : GuestRecord) → StaysBooked a b → StaysBooked b c → StaysBooked a c
booked-then a b c first second =
    record { config = second.config ∙ first.config; min = second.min ∙ first.min; least_min = second.least_min ∙ first.least_min }

-- ---- a raised minimum, with the frames that it needs

-- the guest holds another number of frames
frames-sound : (g : GuestRecord) (held : ℕ) → g.memory.held ≤ held → held ≤ g.config.size → IsSound g → IsSound (record g { memory = with_held g.memory held })
frames-sound g held more few sound =
    let enough = sound.memory.enough in
    let some = sound.memory.some_held in
    let least_held = sound.least_held in
    new_memory-sound g (with_held g.memory held)
    (with_held-memory g.config.size g.memory held (omega (arith, enough, more)) (omega (arith, some, more)) few sound.memory)
    (omega (arith, least_held, more)) sound.room (λ page. sound.apart.nowhere page) sound

pub with_min_held-good : (g : GuestRecord) (least : ℕ) → 1 ≤ least → least ≤ g.allotment.cap → IsGood g → IsGood (with_min_held least g)
with_min_held-good g least some few good =
    let has = good.has_target in
    let cap = good.sound.allotment.cap in
    let few_held = good.sound.memory.few_held in
    record {
      sound = frames-sound (with_min g least) (max g.memory.held least) (omega arith) (omega (arith, few, cap, few_held)) (with_min-sound g least some few good.sound);
      has_target = omega (arith, has);
    }

-- ---- a guest stays good

pub good-serviced : (g : GuestRecord) → StaysGood g (serviced g)
good-serviced g = record { config = refl; good = serviced-good g }

pub good-spares : (g : GuestRecord) → StaysGood g (without_spares g)
good-spares g = record { config = refl; good = without_spares-good g }

pub good-released : (count : ℕ) (g : GuestRecord) → count ≤ surplus g → StaysGood g (released count g)
good-released count g few = record { config = released-config count g; good = released-good count g few }

pub good-revoked : (g : GuestRecord) → g.allotment.min < g.allotment.target → StaysGood g (revoked g)
good-revoked g above = record { config = refl; good = revoked-good g above }

pub good-taken : (g : GuestRecord) → g.allotment.min < g.allotment.target → StaysGood g (released 1 (revoked g))
good-taken g above = record {
  config = released-config 1 (revoked g);
  good = λ good. let held = good.has_target in released-good 1 (revoked g) (omega (arith, held, above)) (revoked-good g above good);
}

pub good-granted : (g : GuestRecord) → 0 < g.allotment.demand → g.allotment.target < g.allotment.cap → StaysGood g (granted g)
good-granted g wants room = record { config = granted-config g; good = granted-good g wants room }

pub good-with_cap : (cap : ℕ) (g : GuestRecord) → g.allotment.min ≤ cap → cap ≤ g.config.size → StaysGood g (with_cap g cap)
good-with_cap cap g from to = record { config = refl; good = with_cap-good g cap from to }

pub good-with_shares : (shares : ℕ) (g : GuestRecord) → 1 ≤ shares → shares ≤ 1000000 → StaysGood g (with_shares g shares)
good-with_shares shares g some few = record { config = refl; good = with_shares-good g shares some few }

pub good-with_min : (least : ℕ) (g : GuestRecord) → 1 ≤ least → least ≤ g.allotment.cap → StaysGood g (with_min_held least g)
good-with_min least g some few = record { config = refl; good = with_min_held-good g least some few }

pub good-ordered : (blocked : Bool) (g : GuestRecord) → StaysGood g (ordered g blocked)
good-ordered blocked g = record { config = refl; good = ordered-good g blocked }

pub good-epoch : (g : GuestRecord) → HasNothingPosted g → StaysGood g (epoch g)
good-epoch g nothing = record { config = epoch-config g; good = epoch-good g nothing }

-- ---- a guest was promised the same

pub booked-serviced : (g : GuestRecord) → StaysBooked g (serviced g)
booked-serviced g = record { config = refl; min = refl; least_min = refl }

pub booked-spares : (g : GuestRecord) → StaysBooked g (without_spares g)
booked-spares g = record { config = refl; min = refl; least_min = refl }

pub booked-released : (count : ℕ) (g : GuestRecord) → StaysBooked g (released count g)
booked-released count g = record {
  config = released-config count g;
  min = ap (λ (a : Allotment). a.min) (released-allotment count g);
  least_min = ap (λ (a : Allotment). a.least_min) (released-allotment count g);
}

pub booked-revoked : (g : GuestRecord) → StaysBooked g (revoked g)
booked-revoked g = record { config = refl; min = refl; least_min = refl }

pub booked-taken : (g : GuestRecord) → StaysBooked g (released 1 (revoked g))
booked-taken g = booked-then g (revoked g) (released 1 (revoked g)) (booked-revoked g) (booked-released 1 (revoked g))

pub booked-granted : (g : GuestRecord) → StaysBooked g (granted g)
booked-granted g = go (is_full g)
  where
    go : (b : Bool) → StaysBooked g (if b then with_spare (with_grant g) else with_grant g)
    go true = record { config = refl; min = refl; least_min = refl }
    go false = record { config = refl; min = refl; least_min = refl }

pub booked-with_cap : (cap : ℕ) (g : GuestRecord) → StaysBooked g (with_cap g cap)
booked-with_cap cap g = record { config = refl; min = refl; least_min = refl }

pub booked-with_shares : (shares : ℕ) (g : GuestRecord) → StaysBooked g (with_shares g shares)
booked-with_shares shares g = record { config = refl; min = refl; least_min = refl }

pub booked-ordered : (blocked : Bool) (g : GuestRecord) → StaysBooked g (ordered g blocked)
booked-ordered blocked g = record { config = refl; min = refl; least_min = refl }

pub booked-epoch : (g : GuestRecord) → StaysBooked g (epoch g)
booked-epoch g = record { config = epoch-config g; min = epoch-min g; least_min = epoch-least_min g }
