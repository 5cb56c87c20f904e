use Rattle.std.proofs.Common.{◌≡◌, ◌≢◌, ℕ, ◌+◌, ◌-◌, ◌*◌, ◌<◌, ◌++◌, ◌∷◌, [], List, Option, None, true, false, Result, Ok, Err, IfErr, length, take, replicate, slice_index_or, sym, ap, subst, ◌∙◌, ⊎_elim, arith}
use Rattle.std.proofs.lemmas.Bool.{cases_eq, false≢true}
use Rattle.std.proofs.lemmas.List.{get_or_append_left, get_or_default, get_or_push, length-append, length-replicate, length-take, length_push}
use Rattle.std.proofs.lemmas.Result.{IfOk-from_err}
use Rattle.vm_tax.specs.declared.price.Price.{Price}
use Rattle.vm_tax.specs.declared.tree.Contender.{Contender}
use Rattle.vm_tax.specs.declared.tree.Order.{Order}
use Rattle.vm_tax.specs.Tree.{leaf_of, nobody, node_at}
use Rattle.vm_tax.proofs.tree.leaves.Goals as goal

any_err : {T E : Type 0} (r : Result T E) (P : Type 0) → P → IfErr r (λ _. P)
any_err (Ok x) P h = tt
any_err (Err e) P h = h

-- room for nothing is always had, so some was wanted
some_wanted : (n : ℕ) → (n ≡ 0 → false ≡ true) → 0 < n
some_wanted n fails = ⊎_elim (λ (e : n ≡ 0). absurd (false≢true (fails e))) (λ (ne : n ≢ 0). omega (arith, ne)) (cases_eq n 0)

blanks : (n m : ℕ) (x : Contender) (old : List Contender) → old ≡ [] → m ≡ 0 → length (take n old ++ replicate {A = Contender} (n - m) x) ≡ n
blanks n m x old e none =
    let empty : length old ≡ 0 = ap (λ (xs : List Contender). length xs) e in
    omega (arith, none, empty, length-take n old, length-replicate {A = Contender} (n - m) x, length-append (take n old) (replicate {A = Contender} (n - m) x))

leaf_more : (order : Order) (prices : List (Option Price)) (nodes : List Contender) (i : ℕ) (leaf : Contender) → length nodes ≡ length prices + i → leaf ≡ leaf_of order i (slice_index_or prices i None)
    → ((k : ℕ) → k < i → node_at nodes (length prices + k) ≡ leaf_of order k (slice_index_or prices k None)) → (k : ℕ) → k < i + 1 → node_at (nodes ++ leaf ∷ []) (length prices + k) ≡ leaf_of order k (slice_index_or prices k None)
leaf_more order prices nodes i leaf size is before k l =
    ⊎_elim
    (λ (same : k ≡ i). get_or_push nodes leaf nobody (length prices + k) (omega (arith, size, same)) ∙ subst (λ (j : ℕ). leaf ≡ leaf_of order j (slice_index_or prices j None)) (sym same) is)
    (λ (ne : k ≢ i). get_or_append_left nodes (leaf ∷ []) nobody (length prices + k) (omega (arith, size, l, ne)) ∙ before k (omega (arith, l, ne)))
    (cases_eq k i)

pub returns-in_err-nodes : goal.returns-in_err-nodes
returns-in_err-nodes c =
    let failed = c.from_residual.ensures.0 in
    let wanted = some_wanted (2 * length c.args.prices.now) c.in_err-nodes.ensures.succeeds in
    let some : 0 < length c.args.prices.now = omega (arith, wanted) in
    record {
      size = IfOk-from_err _ _ failed;
      leaves = IfOk-from_err _ _ failed;
      memory = any_err _ _ some;
    }

pub loop-position-init : goal.loop-position-init
loop-position-init c =
    let long = ap (λ (xs : List Contender). length xs) c.in_ok-resize.ensures.items ∙ blanks (length c.args.prices.now) _ _ c.in_ok-nodes.nodes.items c.in_ok-nodes.ensures.items c.in_ok-nodes.ensures.len in
    record {
      size = omega (arith, long);
      leaves = λ k l. absurd (omega (arith, l));
    }

pub returns-in_err-resize : goal.returns-in_err-resize
returns-in_err-resize c =
    let failed = c.from_residual-in_err-resize.ensures.0 in
    let some : 0 < length c.args.prices.now = omega (arith, c.in_err-resize.ensures.full) in
    record {
      size = IfOk-from_err _ _ failed;
      leaves = IfOk-from_err _ _ failed;
      memory = any_err _ _ some;
    }

pub leaf-requires : goal.leaf-requires
leaf-requires c = omega (arith, c.requires, c.loop-position-test.true)

pub loop-position-preserved : goal.loop-position-preserved
loop-position-preserved c =
    let order = c.args.order in
    let prices = c.args.prices.now in
    let nodes = c.loop-position.nodes.items in
    let i = c.loop-position.position in
    let leaf = c.leaf.result in
    let pushed : c.push.new.self.items ≡ nodes ++ leaf ∷ [] = c.in_ok-push.ensures.items in
    let price = get_or_default prices i c.index-prices-position.result None c.loop-position-test.true in
    let is : leaf ≡ leaf_of order i (slice_index_or prices i None) = c.leaf.ensures ∙ ap (leaf_of order i) (c.index-prices-position.is ∙ price) in
    let longer = length_push nodes leaf in
    record {
      size = ap (λ (xs : List Contender). length xs) pushed ∙ omega (arith, longer, c.loop-position.invariant.size);
      leaves = λ k l. ap (λ (xs : List Contender). node_at xs (length prices + k)) pushed ∙ leaf_more order prices nodes i leaf c.loop-position.invariant.size is c.loop-position.invariant.leaves k l;
    }

pub returns-in_err-push : goal.returns-in_err-push
returns-in_err-push c =
    let failed = c.from_residual-in_err-push.ensures.0 in
    let some : 0 < length c.args.prices.now = omega (arith, c.loop-position-test.true) in
    record {
      size = IfOk-from_err _ _ failed;
      leaves = IfOk-from_err _ _ failed;
      memory = any_err _ _ some;
    }

pub returns-clause-size : goal.returns-clause-size
returns-clause-size c = omega (arith, c.loop-position.invariant.size, c.loop-position-test.false, c.loop-position.auto.position-end)

pub returns-clause-leaves : goal.returns-clause-leaves
returns-clause-leaves c k l = c.loop-position.invariant.leaves k (omega (arith, l, c.loop-position-test.false))
