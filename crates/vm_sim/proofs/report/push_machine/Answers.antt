use Rattle.std.proofs.Common.{◌≡◌, ◌-◌, arith}
use Rattle.vm_pool.specs.Pool.{total_held}
use Rattle.vm_sim.specs.Report.{machine_line}
use Rattle.vm_sim.proofs.report.push_machine.Goals as goal

pub returns : goal.returns
unfolding machine_line
returns c =
    let w = c.args.host.now in
    let held : c.frames-frames.result - c.free-free.result - c.overhead_frames-overhead.result ≡ total_held w.pool.guests =
    omega (arith, c.frames-frames.ensures, c.free-free.ensures.free, c.free-free.ensures.conserves, c.overhead_frames-overhead.ensures) in
    rw (← held, ← c.frames-frames.ensures, ← c.free-free.ensures.free, ← c.overhead_frames-overhead.ensures) c.writeln.ensures.bytes
