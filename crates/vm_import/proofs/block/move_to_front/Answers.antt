use Rattle.std.proofs.Common.{◌≡◌, ◌∙◌, ℕ, ◌+◌, ◌-◌, ◌≤◌, List, length, take, drop, ap, arith}
use Rattle.std.proofs.Math.Seq.{paste}
use Rattle.std.proofs.lemmas.List.{length-drop}
use Rattle.std.proofs.lemmas.List.Edits.{take-paste}
use Rattle.vm_import.proofs.block.move_to_front.Goals as goal

front_copied : (old copied : List ℕ) (n : ℕ) → n ≤ length copied → take n (paste old 0 copied n) ≡ take n copied
front_copied old copied n short =
    let from_zero : n ≡ 0 + n = omega arith in
    ap (λ k. take k (paste old 0 copied n)) from_zero ∙ take-paste old 0 copied n (omega arith) short

pub returns : goal.returns
returns c =
    let old = c.args.bytes.now in
    let count = c.args.end - c.args.start in
    let short : count ≤ length (drop c.args.start old) = omega (arith, length-drop c.args.start old) in
    ap (take count) c.copy_within.ensures.after ∙ front_copied old (drop c.args.start old) count short
