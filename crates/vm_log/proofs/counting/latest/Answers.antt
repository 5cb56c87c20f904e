use Rattle.std.proofs.Common.{◌≡◌, ◌∙◌, ◌<◌, Option, ℕ, ap, length, sym, unwrap_or, arith}
use Rattle.vm_log.proofs.LoopLemmas.{latest_is, some_left}
use Rattle.vm_log.proofs.counting.latest.Goals as goal

pub returns : goal.returns
returns c =
    c.unwrap_or.ensures
    ∙ (ap (λ (o : Option ℕ). unwrap_or o 0) c.get.ensures
    ∙ sym (latest_is c.args.uses.now c.index-uses-uses.result (some_left c.args.uses.now (sym c.if-is_empty.ensures)) c.index-uses-uses.is))
