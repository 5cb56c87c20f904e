use Rattle.std.proofs.Common.{◌≡◌, ◌∙◌, ℕ, zero, suc, ◌<◌, ◌≤◌, List, [], ◌∷◌, ◌++◌, refl, ap, sym, arith}
use Rattle.vm_reclaim.specs.declared.lists.Paged.{Paged}
use Rattle.vm_reclaim.specs.Planning.{if_paged}
use Rattle.vm_reclaim.proofs.DropLemmas.{append-nil}
use Rattle.vm_reclaim.proofs.boundary.push_paged.Goals as goal

some_paged : (position count : ℕ) → 0 < count → (record { position = position; count = count } ∷ []) ≡ if_paged position count
some_paged position zero some = absurd (omega (arith, some))
some_paged position (suc count) some = refl

none_paged : (items : List Paged) (position count : ℕ) → count ≤ 0 → items ≡ items ++ if_paged position count
none_paged items position zero none = sym (append-nil items)
none_paged items position (suc count) none = absurd (omega (arith, none))

pub returns-in_ok-push : goal.returns-in_ok-push
returns-in_ok-push c =
    c.in_ok-push.ensures.items ∙ ap (λ (l : List Paged). c.args.paged.now.items ++ l) (some_paged c.args.position c.args.count c.if-count-gt0.true)

pub returns-else-count-gt0 : goal.returns-else-count-gt0
returns-else-count-gt0 c = none_paged c.args.paged.now.items c.args.position c.args.count c.if-count-gt0.false
