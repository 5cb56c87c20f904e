use Rattle.std.proofs.Common.{◌≡◌, ◌∙◌, ◌+◌, ◌-◌, ◌≤◌, length, take, drop, ap, arith}
use Rattle.vm_import.specs.Waiting.{Waiting}
use Rattle.vm_import.proofs.WaitingLemmas.{Waiting-same, length_waiting, passed}
use Rattle.vm_import.proofs.block.Block.pass.Goals as goal

pub returns : goal.returns
returns c =
    let block = c.self.inside.bytes.items in
    let kept : take (c.self.inside.end - c.self.inside.start) (drop c.self.inside.start block) ≡ c.args.self.now.bytes = ap (λ (w : Waiting). w.bytes) c.self.view_is in
    let taken : c.self.inside.taken ≡ c.args.self.now.taken = ap (λ (w : Waiting). w.taken) c.self.view_is in
    let waiting = length_waiting block c.self.inside.start c.self.inside.end c.self.invariant.ordered c.self.invariant.within in
    let few : c.args.count ≤ length c.args.self.now.bytes = c.requires in
    let within : c.self.inside.start + c.args.count ≤ c.self.inside.end = omega (arith, c.self.invariant.ordered, waiting, ap length kept, few) in
    Waiting-same _ _ _ _ (passed block c.self.inside.start c.self.inside.end c.args.count within ∙ ap (drop c.args.count) kept) taken
