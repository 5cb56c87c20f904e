use denote.Param.Send.{IsSync}
use Rattle.vm_frames.proofs.BlockCrosses.{room-sync}
use Rattle.vm_frames.specs.contracts.block.Room as C

pub sync : IsSync C.the_row
sync = room-sync
