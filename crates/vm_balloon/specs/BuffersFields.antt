-- Posted buffers in their places.
use Rattle.std.specs.Prelude.{◌≤◌, length, take}
use Rattle.std.specs.Vec.{vec_capacity}
use Rattle.vm_balloon.specs.declared.buffers.Buffers.TheInside.{Inside}
use Rattle.vm_balloon.specs.Posted.{PostedBuffers}

abbrev pub buffers_of : Inside → PostedBuffers
buffers_of b = record { room = vec_capacity b.places; list = take b.posted b.places.items }

pub record IsBuffers (b : Inside) : Type 0 where
  pub there : b.posted ≤ length b.places.items
