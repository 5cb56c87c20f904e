use Rattle.std.proofs.Common.{length, ap, arith}
use Rattle.vm_balloon.specs.Posted.{PostedPages}
use Rattle.vm_balloon.proofs.ReadBackLemmas.{length-bytes_of}
use Rattle.vm_balloon.proofs.page_queue.PageQueue.numbers.Goals as goal

pub returns-clause-few : goal.returns-clause-few
returns-clause-few c =
    let posted = ap (λ (q : PostedPages). length q.buffers) c.self.view_is in
    omega (arith, ap length c.deref.ensures.value, c.self.invariant.few_numbers, length-bytes_of c.self.inside.numbers.items c.self.inside.ends.items, posted)
