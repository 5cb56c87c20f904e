use denote.RattleType.{RattleType}
use denote.Param.Send.{IsSend, IsSync, Frees, struct_sync}
use Rattle.std.specs.declared.alloc.Allocator.{Ghosts}
use denote.Struct.Declared as declared
use Rattle.std_alloc.proofs.SendSync.{Arc-sync}
use Rattle.vm_frames.specs.contracts.block.Block as Block
use Rattle.vm_frames.specs.contracts.block.Tether.TheInside as Inside
use Rattle.vm_frames.proofs.BlockCrosses.{block-send, block-sync}
use Rattle.vm_frames.specs.contracts.block.Tether as C

pub sync : (A : RattleType) (g : Ghosts A.Denot) → IsSend A → IsSync A → Frees g g.dealloc_token → IsSync (C.the_row A g)
sync A g s y f = record {
  shared = λ h b o κ x tied. (struct_sync (declared.shape (Inside.the_type A g)) (Arc-sync (Block.the_row A g) A g (block-send A g s f) (block-sync A g) f s y, tt)).shared (x, tt) b o κ;
}
