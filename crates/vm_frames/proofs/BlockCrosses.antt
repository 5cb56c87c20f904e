-- What a block and its owners own and show names no thread.
use Rattle.std.proofs.Common.{ℕ, zero, suc, ◌+◌, List, Option, Some, None}
use base.Fml.{Lft}
use base.Shift.{Keyless}
use mir.Syntax.{Ty}
use prog.Memory.{size}
use denote.Builtin.{u8}
use denote.RawPtr.{Ptr, block_ptr, null_ptr, room_for, block_of, count_of}
use denote.Param.Send.{IsSend, IsSync, sendable, Frees, struct_send, struct_sync, owning_send}
use denote.RattleType.{RattleType}
use denote.Struct.Owning.{shape, to}
use denote.Struct.Declared as declared
use Rattle.std.specs.declared.alloc.Allocator.{Ghosts}
use Rattle.std_alloc.proofs.SendSync.{Vec-send, lies, seen}
use Rattle.vm_frames.specs.Ownership.{Extent, Page, lent, block_owns, room_owns, room_shares, page_type, pages_type}
use Rattle.vm_frames.specs.contracts.block.Block as Block
use Rattle.vm_frames.specs.contracts.block.Room as Room
use Rattle.vm_frames.specs.contracts.block.Shell as Shell
use Rattle.vm_frames.specs.contracts.block.Shell.TheInside as Inside

u8-send : IsSend u8
u8-send = search sendable

room-keyless : (τ : Ty) (p : Ptr) → Keyless (room_for τ p)
room-keyless τ (block_ptr b o) = tt
room-keyless τ null_ptr = tt

lent-keyless : (a : ℕ) (τ : Ty) (n b o : ℕ) → Keyless (lent a τ n b o)
lent-keyless a τ zero b o = tt
lent-keyless a τ (suc n) b o = (tt, lent-keyless a τ n b (o + size τ))

block_owns-keyless : (a : ℕ) (e : Extent) → Keyless (block_owns a e)
block_owns-keyless a e = (tt, lent-keyless a page_type e.count (block_of e.ptr) (count_of e.ptr))

pub shell-send : (A : RattleType) (g : Ghosts A.Denot) → IsSend A → Frees g g.dealloc_token → IsSend (Shell.the_row A g)
shell-send A g s f = record {
  owned = λ e vs. (
    (λ _. tt),
    λ v. (room-keyless (pages_type e.count) e.ptr, (struct_send (declared.shape (Inside.the_type A g)) (Vec-send u8 A g u8-send s f, tt)).owned (v.vec, tt) vs),
  );
  leaving = λ k x w. tt;
}

pub shell-sync : (A : RattleType) (g : Ghosts A.Denot) → IsSync (Shell.the_row A g)
shell-sync A g = record { shared = λ e b o κ. tt }

pub block-send : (A : RattleType) (g : Ghosts A.Denot) → IsSend A → Frees g g.dealloc_token → IsSend (Block.the_row A g)
block-send A g s f = owning_send (Block.the_type A g) (search sendable, (shell-send A g s f, tt)) (λ d. block_owns-keyless d.life d.shell) (λ k x w. (tt, (tt, tt)))

pub block-sync : (A : RattleType) (g : Ghosts A.Denot) → IsSync (Block.the_row A g)
block-sync A g = record { shared = λ d b o κ. ((struct_sync (shape (Block.the_type A g)) (search sendable, (shell-sync A g, tt))).shared (to (Block.the_type A g) d) b o κ, λ q. tt) }

room_owns-keyless : (p : Ptr) (page : Option (List ℕ)) → Keyless (room_owns p page)
room_owns-keyless p None = room-keyless page_type p
room_owns-keyless p (Some page) = lies Page (search sendable) p page

room_shares-keyless : (p : Ptr) (page : Option (List ℕ)) (κ : Lft) → Keyless (room_shares p page κ)
room_shares-keyless p None κ = tt
room_shares-keyless p (Some page) κ = seen Page (search sendable) p page κ

pub room-send : IsSend Room.the_row
room-send = owning_send Room.the_type tt (λ d. room_owns-keyless d.ptr d.page) (λ k x w. tt)

pub room-sync : IsSync Room.the_row
room-sync = record { shared = λ d b o κ. ((struct_sync (shape Room.the_type) tt).shared (to Room.the_type d) b o κ, room_shares-keyless d.ptr d.page κ) }
