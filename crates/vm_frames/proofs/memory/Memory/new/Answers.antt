use Rattle.std.proofs.Common.{ℕ, ◌+◌, ◌*◌, ◌<◌, ◌≤◌, arith}
use Rattle.vm_frames.proofs.memory.Memory.new.Goals as goal

some_room : (n room : ℕ) → (n + 1) * 4096 ≤ room → 0 < room
some_room n room fits = omega arith

pages_room : (n room : ℕ) → (n + 1) * 4096 ≤ room → 4080 + n * 4096 ≤ room
pages_room n room fits = omega arith

pub lend-block-requires : goal.lend-block-requires
lend-block-requires c = let made = c.in_ok-room.ensures in
    rw c.as_mut_ptr.ensures.unchanged (record {
      empty = made.len;
      some = some_room c.args.frames _ made.capacity;
      room = pages_room c.args.frames _ made.capacity;
    })
