use mathlib.Core.List.{[]}
use denote.RattleType.{RattleType}
use denote.Param.Send.{IsSend, IsSync, Frees, struct_send}
use Rattle.std.specs.declared.alloc.Allocator.{Ghosts}
use denote.Struct.Declared as declared
use Rattle.std_alloc.proofs.SendSync.{Arc-send, Arc-sync}
use Rattle.vm_frames.specs.contracts.block.Block as Block
use Rattle.vm_frames.specs.contracts.block.Tether.TheInside as Inside
use Rattle.vm_frames.proofs.BlockCrosses.{block-send, block-sync}
use Rattle.vm_frames.specs.contracts.block.Tether as C

pub send : (A : RattleType) (g : Ghosts A.Denot) → IsSend A → IsSync A → Frees g g.dealloc_token → IsSend (C.the_row A g)
send A g s y f =
    let counted = Arc-send (Block.the_row A g) A g (block-send A g s f) (block-sync A g) f s y in
    let seen = Arc-sync (Block.the_row A g) A g (block-send A g s f) (block-sync A g) f s y in
    record {
      owned = λ h vs. (
        (λ _. tt),
        λ x tied w.
            let shown = (seen.shared x 0 0 []).1 in (
              ((λ us. (tt, ((λ ws. (tt, (tt, tt))), tt))), (shown.0, (tt, (shown.1 w.0).1))),
              ((tt, (struct_send (declared.shape (Inside.the_type A g)) (counted, tt)).owned (x, tt) vs), (tt, tt)),
            ),
      );
      leaving = λ k x w. tt;
    }
