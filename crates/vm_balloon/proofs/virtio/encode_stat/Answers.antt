use Rattle.std.proofs.Common.{ℕ, List, [], ◌∷◌, get_or, arith}
use Rattle.vm_balloon.proofs.VirtioLemmas.{stat_read}
use Rattle.vm_balloon.proofs.virtio.encode_stat.Goals as goal

-- the bytes of a tag and of a value
abbrev ten : List ℕ → List ℕ → List ℕ
ten t v =
    get_or t 0 0 ∷ get_or t 1 0 ∷ get_or v 0 0 ∷ get_or v 1 0 ∷ get_or v 2 0 ∷ get_or v 3 0 ∷ get_or v 4 0 ∷ get_or v 5 0 ∷ get_or v 6 0 ∷ get_or v 7 0 ∷ []

pub returns-clause-bytes : goal.returns-clause-bytes
returns-clause-bytes c = λ i. ten (c.to_le_bytes.ensures i) (c.to_le_bytes-2.ensures i)

pub returns-clause-reads_back : goal.returns-clause-reads_back
returns-clause-reads_back c =
    stat_read _ c.args.tag c.args.value (omega arith) (omega arith) (λ i. ten (c.to_le_bytes.ensures i) (c.to_le_bytes-2.ensures i))
