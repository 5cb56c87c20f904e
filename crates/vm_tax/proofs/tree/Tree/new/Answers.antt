use Rattle.std.proofs.Common.{◌≡◌, ◌≢◌, ℕ, ◌+◌, ◌*◌, ◌<◌, ◌++◌, List, Option, true, false, Result, Ok, Err, IfErr, length, sym, ap, subst, ◌∙◌, ⊎_elim, arith}
use Rattle.std.proofs.lemmas.Bool.{cases_eq, false≢true}
use Rattle.std.proofs.lemmas.List.{with_items_is}
use Rattle.std.proofs.lemmas.Result.{IfOk-from_err}
use Rattle.vm_tax.specs.declared.price.Price.{Price}
use Rattle.vm_tax.specs.declared.tree.Contender.{Contender}
use Rattle.vm_tax.specs.Tree.{node_at, IsTree, Ranking}
use Rattle.vm_tax.proofs.tree.Tree.new.Goals as goal

any_err : {T E : Type 0} (r : Result T E) (P : Type 0) → P → IfErr r (λ _. P)
any_err (Ok x) P h = tt
any_err (Err e) P h = h

-- room for nothing is always had, so some was wanted
some_wanted : (n : ℕ) → (n ≡ 0 → false ≡ true) → 0 < n
some_wanted n fails = ⊎_elim (λ (e : n ≡ 0). absurd (false≢true (fails e))) (λ (ne : n ≢ 0). omega (arith, ne)) (cases_eq n 0)

pub returns-in_err-nodes : goal.returns-in_err-nodes
returns-in_err-nodes c = record {
  tree = IfOk-from_err _ _ c.from_residual.ensures.0;
  memory = any_err _ _ c.in_err-nodes.ensures.memory;
}

pub decide_all-requires : goal.decide_all-requires
decide_all-requires c =
    let long : length c.deref_mut.result.now ≡ 2 * length c.args.prices.now = ap (λ (xs : List Contender). length xs) c.deref_mut.ensures.value ∙ c.in_ok-nodes.ensures.size in
    omega (arith, long)

pub returns-in_err-own : goal.returns-in_err-own
returns-in_err-own c = record {
  tree = IfOk-from_err _ _ c.from_residual-in_err-own.ensures.0;
  memory = any_err _ _ (some_wanted (length c.args.prices.now) c.in_err-own.ensures.succeeds);
}

pub returns-in_err-extend_from_slice : goal.returns-in_err-extend_from_slice
returns-in_err-extend_from_slice c =
    let some : 0 < length c.args.prices.now = omega (arith, c.in_err-extend_from_slice.ensures.full, c.in_ok-own.ensures.len) in
    record {
      tree = IfOk-from_err _ _ c.from_residual-in_err-extend_from_slice.ensures.0;
      memory = any_err _ _ some;
    }

pub returns-clause-tree : goal.returns-clause-tree
returns-clause-tree c =
    let ranking : List (Option Price) → Ranking = λ xs. record { order = c.args.order; prices = xs } in
    let copied = ap (λ (xs : List (Option Price)). xs ++ c.args.prices.now) c.in_ok-own.ensures.items in
    ap ranking (c.in_ok-extend_from_slice.ensures.items ∙ copied)

pub invariant_of-result : goal.invariant_of-result
invariant_of-result c =
    let prices = c.args.prices.now in
    let new = c.decide_all.new.nodes in
    let copied = c.in_ok-extend_from_slice.ensures.items ∙ ap (λ (xs : List (Option Price)). xs ++ prices) c.in_ok-own.ensures.items in
    let made : length c.deref_mut.result.now ≡ 2 * length prices = ap (λ (xs : List Contender). length xs) c.deref_mut.ensures.value ∙ c.in_ok-nodes.ensures.size in
    let long : length new ≡ 2 * length prices = c.decide_all.auto.nodes ∙ made in
    let whole = with_items_is c.in_ok-nodes.nodes new (omega (arith, c.decide_all.auto.nodes, c.deref_mut.ensures.len)) in
    let tree : IsTree c.args.order prices new = record {
      few = c.requires;
      size = long;
      leaves = λ k l.
          let kept = c.decide_all.ensures.leaves (length prices + k) (omega (arith, made)) in
          kept ∙ ap (λ (xs : List Contender). node_at xs (length prices + k)) c.deref_mut.ensures.value ∙ c.in_ok-nodes.ensures.leaves k l;
      decided = c.decide_all.ensures.decided;
    } in
    subst (λ (xs : List Contender). IsTree c.args.order c.extend_from_slice.new.self.items xs) (sym whole) (subst (λ (xs : List (Option Price)). IsTree c.args.order xs new) (sym copied) tree)
