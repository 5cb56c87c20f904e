use Rattle.std.proofs.Common.{◌≡◌, ℕ, ◌+◌, ◌-◌, ◌≤◌, arith}
use Rattle.std.proofs.lemmas.Result.{on_ok_weaker}
use Rattle.vm_swap.proofs.table.Table.reserve.Goals as goal

enough : (room len more was now room' : ℕ) → more ≡ room - len → len ≡ was → now ≡ was → now + more ≤ room' → room ≤ room'
enough room len more was now room' is len_is same fits = omega arith

pub returns-clause-room : goal.returns-clause-room
returns-clause-room g c =
    on_ok_weaker c.reserve_exact.result (enough c.args.room _ _ _ _ _ c.saturating_sub-more.ensures c.len.ensures c.reserve_exact.ensures.len) c.reserve_exact.ensures.ok
