-- A guest stays one where what is allotted to it changes, or the memory that it holds.
use Rattle.std.proofs.Common.{◌≡◌, ℕ, ◌+◌, ◌-◌, ◌≤◌, ap, arith}
use Rattle.std.specs.Prelude.{Err, Ok, OnErr, OnOk, Result}
use Rattle.vm_guest.specs.declared.allotment.Allotment.{Allotment}
use Rattle.vm_guest.specs.declared.guest.Guest.TheInside.{Inside}
use Rattle.vm_guest.specs.Boundary.{lowered, with_frames, with_target_raised}
use Rattle.vm_guest.specs.Good.{IsSound}
use Rattle.vm_guest.specs.GuestFields.{IsGuest}
use Rattle.vm_guest.specs.Holding.{Holding}
use Rattle.vm_guest.specs.Memory.{with_held}
use Rattle.vm_guest.specs.Parts.{record_of}
use Rattle.vm_guest.specs.Record.{GuestRecord}
use Rattle.vm_guest.proofs.MemoryLemmas.{with_held-memory}
use Rattle.vm_guest.proofs.PartLemmas.{new_allotment-sound, new_memory-sound}

pub allotted-guest : (i : Inside) (a : Allotment) → IsSound (record (record_of i.parts) { allotment = a }) → i.parts.spec.size - a.least_min ≤ i.parts.memory.capacity → IsGuest i
    → IsGuest (record i { parts = record i.parts { allotment = a } })
allotted-guest i a sound swap is =
    let tied = is.fit.tied in
    record {
      fit = record {
        sound = sound;
        tied = record { swap = swap; early_room = tied.early_room; pages_room = tied.pages_room };
      };
      room = λ prepared. let room = is.room prepared in record { reads = room.reads };
    }

pub holding-guest : (i : Inside) (h : Holding) → IsSound (record (record_of i.parts) { memory = h.memory }) → i.parts.memory.capacity ≤ h.capacity → IsGuest i
    → IsGuest (record i { parts = record i.parts { memory = h } })
holding-guest i h sound more is =
    let tied = is.fit.tied in
    record {
      fit = record {
        sound = sound;
        tied = record { swap = omega (arith, tied.swap, more); early_room = tied.early_room; pages_room = tied.pages_room };
      };
      room = λ prepared. let room = is.room prepared in record { reads = room.reads };
    }

-- another target
pub lowered-sound : (g : GuestRecord) (count : ℕ) → g.allotment.min + count ≤ g.allotment.target → IsSound g → IsSound (lowered count g)
lowered-sound g count few sound =
    let a = sound.allotment in
    new_allotment-sound g (record g.allotment { target = g.allotment.target - count })
    (record {
      some = a.some;
      least = a.least;
      target_from = omega (arith, few);
      target_to = omega (arith, a.target_to);
      cap = a.cap;
      demand = a.demand;
      some_shares = a.some_shares;
      few_shares = a.few_shares;
    }) (omega arith) sound

pub raised-sound : (g : GuestRecord) (count : ℕ) → g.allotment.target + count ≤ g.allotment.cap → IsSound g → IsSound (with_target_raised count g)
raised-sound g count few sound =
    let a = sound.allotment in
    new_allotment-sound g (record g.allotment { target = g.allotment.target + count; demand = g.allotment.demand - count })
    (record {
      some = a.some;
      least = a.least;
      target_from = omega (arith, a.target_from);
      target_to = few;
      cap = a.cap;
      demand = omega (arith, a.demand);
      some_shares = a.some_shares;
      few_shares = a.few_shares;
    }) (omega arith) sound

-- more spares
pub with_more-sound : (g : GuestRecord) (count : ℕ) → g.memory.held + count ≤ g.config.size → IsSound g → IsSound (with_frames g (g.memory.held + count))
with_more-sound g count few sound =
    let m = sound.memory in
    let enough = m.enough in
    let some_held = m.some_held in
    let least_held = sound.least_held in
    new_memory-sound g (with_held g.memory (g.memory.held + count))
    (with_held-memory g.config.size g.memory (g.memory.held + count) (omega arith) (omega arith) few m)
    (omega arith) sound.room (λ page. sound.apart.nowhere page) sound

-- a swap area that grew, or that memory was refused for, leaves the guest's memory as it was
pub grown-holding : {E : Type 0} (result : Result (Unit {0}) E) (old new : Holding) (more : ℕ) → OnOk result (new ≡ record old { capacity = old.capacity + more }) → OnErr result (new ≡ old)
    → (new.memory ≡ old.memory) × (old.capacity ≤ new.capacity)
grown-holding (Ok done) old new more grown same =
    let capacity = ap (λ (h : Holding). h.capacity) grown in
    (ap (λ (h : Holding). h.memory) grown, omega (arith, capacity))
grown-holding (Err refused) old new more grown same =
    let capacity = ap (λ (h : Holding). h.capacity) same in
    (ap (λ (h : Holding). h.memory) same, omega (arith, capacity))

pub on-ok : {E : Type 0} (result : Result (Unit {0}) E) (P Q : Type 0) → (P → Q) → OnOk result P → OnOk result Q
on-ok (Ok done) P Q more is = more is
on-ok (Err refused) P Q more is = is

pub on-err : {E : Type 0} (result : Result (Unit {0}) E) (P Q : Type 0) → (P → Q) → OnErr result P → OnErr result Q
on-err (Ok done) P Q more is = is
on-err (Err refused) P Q more is = more is
