use Rattle.std.proofs.Common.{◌≡◌, ◌+◌, ◌-◌, ◌≤◌, min, length, vec_capacity, true, subst, sym, ap, arith}
use Rattle.std.specs.Global.{Vec}
use Rattle.vm_guest.specs.declared.guest.Guest.TheInside.{Inside}
use Rattle.vm_guest.specs.declared.reads.PageRead.{PageRead}
use Rattle.vm_guest.specs.Good.{IsSound}
use Rattle.vm_guest.specs.GuestFields.{IsGuest}
use Rattle.vm_guest.specs.Parts.{record_of}
use Rattle.vm_guest.proofs.guest.Guest.prepare.Goals as goal

-- with room for its reads a guest is prepared
prepared-guest : (i : Inside) (reads : Vec PageRead) → reads.items ≡ i.parts.reads.items
    → length i.parts.reads.items + min i.parts.spec.quantum (length i.parts.spec.trace - i.parts.progress.position) ≤ vec_capacity reads → IsGuest i
    → IsGuest (record i { prepared = true; parts = record i.parts { reads = reads } })
prepared-guest i reads same room is =
    let tied = is.fit.tied in
    let len : length reads.items ≡ length i.parts.reads.items = ap length same in
    record {
      fit = record {
        sound = subst (λ read. IsSound (record (record_of i.parts) { reads = read })) (sym same) is.fit.sound;
        tied = record { swap = tied.swap; early_room = tied.early_room; pages_room = tied.pages_room };
      };
      room = λ prepared. record { reads = omega (arith, len, room) };
    }

pub invariant_of-self-2 : goal.invariant_of-self-2
invariant_of-self-2 c =
    let is = rw (← c.self-inside.view_is) at c.self.invariant in
    let ok = c.in_ok-reserve.ensures.ok in
    let items = c.in_ok-reserve.ensures.items in
    let room = c.min-room.ensures in
    let long = c.len.ensures in
    let len = ap length items in
    let whole = c.reserve.new.self.ok.0 in
    prepared-guest _ c.reserve.new.self items (omega (arith, ok, room, long, len, whole)) is
