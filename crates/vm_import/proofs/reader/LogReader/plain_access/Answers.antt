use Rattle.std.proofs.Common.{◌≡◌, ℕ, ◌+◌, ◌≤◌, List, length, take, drop, subst, ap, arith}
use Rattle.std.proofs.lemmas.List.{length-drop, length-take}
use Rattle.vm_import.specs.declared.access.Access.{Access}
use Rattle.vm_import.specs.BlockSteps.{IsCounted}
use Rattle.vm_import.specs.Plain.{IsAccessLine}
use Rattle.vm_import.specs.Waiting.{Waiting}
use Rattle.vm_import.proofs.BlockStepLemmas.{is_read}
use Rattle.vm_import.proofs.reader.LogReader.plain_access.Goals as goal

-- a line that was used has a byte at least
counted_behind : (new : Waiting) (kept : List ℕ) (taken lines len : ℕ) (access : Access)
    → new ≡ record { bytes = drop len kept; taken = taken } → IsCounted kept taken lines → IsAccessLine (take 32 kept) access len
    → IsCounted new.bytes new.taken (lines + 1)
counted_behind new kept taken lines len access is counted line =
    let waits : length new.bytes ≡ length (drop len kept) = ap (λ (w : Waiting). length w.bytes) is in
    let same : new.taken ≡ taken = ap (λ (w : Waiting). w.taken) is in
    let whole : lines + length kept ≤ taken = counted.counted in
    let some : 1 ≤ len = (let has = line.end in omega (arith, has)) in
    let within : len ≤ length (take 32 kept) = line.within in
    let below = counted.small in
    record { counted = omega (arith, length-take 32 kept, length-drop len kept, waits); small = omega (arith, below, same) }

pub pass-requires : goal.pass-requires
pass-requires c =
    let line : IsAccessLine (take 32 c.bytes-bytes.result.now) c.in_ok-line.line.access c.in_ok-line.line.len = c.in_ok-line.ensures in
    omega (arith, line.within, length-take 32 c.bytes-bytes.result.now, ap length c.bytes-bytes.ensures)

pub returns-clause-read : goal.returns-clause-read
returns-clause-read c =
    let was : IsAccessLine (take 32 c.bytes-bytes.result.now) c.in_ok-line.line.access c.in_ok-line.line.len = c.in_ok-line.ensures in
    let line : IsAccessLine (take 32 c.self.inside.block.bytes) c.in_ok-line.line.access c.in_ok-line.line.len =
    subst (λ (l : List ℕ). IsAccessLine (take 32 l) c.in_ok-line.line.access c.in_ok-line.line.len) c.bytes-bytes.ensures was in
    rw (← c.self.view_is, c.pass.ensures)
    (is_read c.self.inside.block.bytes c.self.inside.block.taken c.self.inside.lines c.in_ok-line.line.len c.self.inside.process c.in_ok-line.line.access line)

pub invariant_of-self : goal.invariant_of-self
invariant_of-self c =
    let was : IsAccessLine (take 32 c.bytes-bytes.result.now) c.in_ok-line.line.access c.in_ok-line.line.len = c.in_ok-line.ensures in
    let line : IsAccessLine (take 32 c.self.inside.block.bytes) c.in_ok-line.line.access c.in_ok-line.line.len =
    subst (λ (l : List ℕ). IsAccessLine (take 32 l) c.in_ok-line.line.access c.in_ok-line.line.len) c.bytes-bytes.ensures was in
    counted_behind c.pass.new.self c.self.inside.block.bytes c.self.inside.block.taken c.self.inside.lines c.in_ok-line.line.len
    c.in_ok-line.line.access c.pass.ensures c.self.invariant line
