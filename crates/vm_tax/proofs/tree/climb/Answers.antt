use Rattle.std.proofs.Common.{◌≡◌, ◌≢◌, ℕ, ◌+◌, ◌*◌, ◌/◌, ◌<◌, ◌≤◌, List, length, refl, sym, subst, ◌∙◌, ⊎_elim, arith}
use Rattle.std.proofs.lemmas.Bool.{cases_eq}
use Rattle.std.proofs.lemmas.List.{get_or_default}
use Rattle.vm_tax.specs.declared.tree.Contender.{Contender}
use Rattle.vm_tax.specs.declared.tree.Order.{Order}
use Rattle.vm_tax.specs.Tree.{nobody, node_at, IsWinner, IsDecided, OthersDecided}
use Rattle.vm_tax.proofs.TreeLemmas.{winner_along}
use Rattle.vm_tax.proofs.tree.climb.Goals as goal

-- a node that is decided leaves only the one above it open
next_open : (order : Order) (old new : List Contender) (node : ℕ) → 1 ≤ node → length new ≡ length old → ((n : ℕ) → 1 ≤ n → 2 * n < length old → n ≢ node → IsDecided order old n)
    → IsWinner order (node_at old (2 * node)) (node_at old (2 * node + 1)) (node_at new node) → ((n : ℕ) → n ≢ node → node_at new n ≡ node_at old n) → OthersDecided order new node
next_open order old new node some long others decided kept n one lt ne =
    ⊎_elim
    (λ (same : n ≡ node).
    let here = winner_along order _ _ _ _ _ _ (sym (kept (2 * node) (λ e. omega (arith, e, some)))) (sym (kept (2 * node + 1) (λ e. omega (arith, e, some)))) refl decided in
    subst (λ (k : ℕ). IsDecided order new k) (sym same) here)
    (λ (other : n ≢ node).
    winner_along order _ _ _ _ _ _ (sym (kept (2 * n) (λ e. ne (omega (arith, e))))) (sym (kept (2 * n + 1) (λ e. ne (omega (arith, e))))) (sym (kept n other)) (others n one (omega (arith, lt, long)) other))
    (cases_eq n node)

pub loop-node-init : goal.loop-node-init
loop-node-init c = record {
  within = c.requires.within;
  others = c.requires.others;
  winner = get_or_default c.args.nodes.now c.args.from _ nobody c.requires.within;
  leaves = λ k l. refl;
}

pub decide_above-winner-requires : goal.decide_above-winner-requires
decide_above-winner-requires c = record {
  within = omega (arith, c.requires.even, c.loop-node.auto.nodes, c.loop-node.invariant.within);
  here = c.loop-node.invariant.winner;
}

pub loop-node-smaller : goal.loop-node-smaller
loop-node-smaller c = omega (arith, c.loop-node-test.true)

pub loop-node-preserved : goal.loop-node-preserved
loop-node-preserved c =
    let step = c.decide_above-winner in
    let up = c.loop-node.node / 2 in
    let some : 1 ≤ up = omega (arith, c.loop-node-test.true) in
    let long : length step.new.nodes ≡ length c.loop-node.nodes = omega (arith, step.auto.nodes) in
    record {
      within = omega (arith, long, c.loop-node.invariant.within);
      others = next_open c.args.order c.loop-node.nodes step.new.nodes up some long c.loop-node.invariant.others step.ensures.decided step.ensures.others;
      winner = step.ensures.winner;
      leaves = λ k l. step.ensures.others k (λ e. omega (arith, e, l, c.loop-node.auto.nodes, c.loop-node.invariant.within, c.loop-node-test.true)) ∙ c.loop-node.invariant.leaves k l;
    }

pub returns-clause-decided : goal.returns-clause-decided
returns-clause-decided c n one l = c.loop-node.invariant.others n one l (λ e. omega (arith, e, one, c.loop-node-test.false))

pub returns-clause-leaves : goal.returns-clause-leaves
returns-clause-leaves c = c.loop-node.invariant.leaves
