use Rattle.std.proofs.Common.{◌≡◌, ◌++◌, ℕ, List, OnOk, subst, sym, arith}
use Rattle.vm_recorded.specs.Parts.{ended}
use Rattle.vm_recorded.proofs.PartLemmas.{start_at_some}
use Rattle.vm_recorded.proofs.commands.push_start.Goals as goal

pub returns : goal.returns
returns c =
    subst (λ (l : List (List ℕ)). OnOk c.push_starting.result (c.push_starting.new.text.items ≡ c.args.text.now.items ++ ended l))
    (sym (start_at_some c.args.at c.args.name.now (omega arith))) c.push_starting.ensures
