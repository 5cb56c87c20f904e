use Rattle.std.proofs.Common.{◌≡◌, drop}
use Rattle.std.specs.List.{list_any}
use Rattle.vm_words.specs.Words.{flag_rule, is_beside}
use Rattle.vm_words.proofs.check.pair_given.Given as goal

-- the flags that are left decide
abbrev pub invariant-loop-flag : goal.invariant-loop-flag
invariant-loop-flag l =
    list_any (λ flag. is_beside l.request (flag_rule flag)) (drop l.flag-index l.flags)
    ≡ list_any (λ flag. is_beside l.request (flag_rule flag)) l.flags
