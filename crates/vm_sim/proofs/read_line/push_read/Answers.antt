use Rattle.std.proofs.Common.{◌-◌, drop, arith, length-drop}
use Rattle.std.proofs.lemmas.List.{take_all}
use Rattle.std.proofs.lemmas.Str.{IsUtf8-from_ascii}
use Rattle.vm_sim.proofs.read_line.push_read.Goals as goal

pub from_utf8_unchecked-requires : goal.from_utf8_unchecked-requires
from_utf8_unchecked-requires c =
    let put = c.put_read-start in
    rw (take_all (160 - put.result) (drop put.result put.new.line) (omega (arith, length-drop put.result put.new.line)))
    (IsUtf8-from_ascii _ put.ensures.ascii)
