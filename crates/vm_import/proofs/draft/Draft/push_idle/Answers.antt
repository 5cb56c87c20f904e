use Rattle.std.proofs.Common.{◌≡◌, ◌+◌, ap, arith}
use Rattle.vm_import.specs.Drafts.{DraftView}
use Rattle.vm_import.proofs.DraftLemmas.{idle-done, idle-left}
use Rattle.vm_import.proofs.draft.Draft.push_idle.Goals as goal

pub loop-added-preserved : goal.loop-added-preserved
loop-added-preserved c =
    let one : c.push_idle_step.new.self.steps ≡ c.loop-added.self.steps + 1 =
    ap (λ (d : DraftView). d.steps) c.in_ok-push_idle_step.ensures in
    record {
      left = idle-left c.args.self.now c.loop-added.self c.push_idle_step.new.self c.loop-added.added c.args.count (omega arith)
          c.in_ok-push_idle_step.ensures c.loop-added.invariant.left;
      steps = omega arith;
    }

pub returns : goal.returns
returns c = idle-done c.args.self.now c.loop-added.self c.loop-added.added c.args.count (omega arith) c.loop-added.invariant.left
