use Rattle.std.proofs.Common.{length, ap, arith}
use Rattle.vm_balloon.specs.Posted.{PostedPages}
use Rattle.vm_balloon.proofs.ReadBackLemmas.{length-bytes_of}
use Rattle.vm_balloon.proofs.page_queue.PageQueue.len.Goals as goal

pub returns : goal.returns
returns c =
    let posted = ap (λ (q : PostedPages). length q.buffers) c.self.view_is in
    omega (arith, c.len.ensures, length-bytes_of c.self.inside.numbers.items c.self.inside.ends.items, posted)
