use Rattle.std.proofs.Common.{◌≡◌, ◌++◌, ℕ, List, codes, append_assoc}
use Rattle.std.specs.Fmt.{decimal}
use Rattle.std.specs.List.{flat_map}
use Rattle.vm_sim.specs.Lines.{state_line}
use Rattle.vm_sim.specs.Report.{answer_lines, block_line_at, boundary_text, move_lines, page_line}
use Rattle.vm_sim.proofs.report.boundary_text.Goals as goal

-- the pieces, one behind the other
pieces : (word number end answers state revoked paged granted rebalanced blocked : List ℕ)
    → (((((((word ++ (number ++ end)) ++ answers) ++ state) ++ revoked) ++ paged) ++ granted) ++ rebalanced) ++ blocked
    ≡ word ++ (number ++ (end ++ (answers ++ (state ++ (revoked ++ (paged ++ (granted ++ (rebalanced ++ blocked))))))))
pieces word number end answers state revoked paged granted rebalanced blocked = simp append_assoc

pub returns : goal.returns
unfolding boundary_text
returns c =
    let w = c.args.host.now in
    let b = c.args.boundary.now in
    rw (
      c.in_ok-push_blocked.ensures,
      c.in_ok-push_moves-3.ensures,
      c.in_ok-push_moves-2.ensures,
      c.in_ok-push_paged.ensures,
      c.in_ok-push_moves.ensures,
      c.in_ok-push_state.ensures,
      c.in_ok-push_answers.ensures,
      c.in_ok-text.ensures.ok,
      c.as_slice.ensures,
      c.as_slice-2.ensures,
      c.as_slice-3.ensures,
    ) (pieces (codes "epoch ") (decimal c.args.number) (codes "\n") (flat_map (answer_lines w) b.answers) (state_line b.state b.free) (move_lines (codes "revoke") w b.revoked) (flat_map (page_line w) b.paged) (move_lines (codes "grant") w b.granted) (move_lines (codes "rebalance") w b.rebalanced) (flat_map (block_line_at w) b.blocked))
