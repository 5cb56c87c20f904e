use denote.Param.Send.{IsSend}
use Rattle.vm_frames.proofs.BlockCrosses.{room-send}
use Rattle.vm_frames.specs.contracts.block.Room as C

pub send : IsSend C.the_row
send = room-send
