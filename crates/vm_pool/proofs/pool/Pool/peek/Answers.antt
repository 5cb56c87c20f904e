use Rattle.std.proofs.Common.{◌≡◌, ℕ, ◌<◌, ◌↔◌, Bool, true, false, nat_lt, IsTrue, Option, Some, None, List, if◌then◌else◌, refl, subst, sym, ◌∙◌}
use Rattle.std.proofs.lemmas.Bool.{lt-ltb, ltb-true}
use Rattle.std.specs.Bool.{OnTrue, OnFalse}
use Rattle.vm_guest.specs.Memory.{bytes_of}
use Rattle.vm_guest.specs.Record.{GuestRecord}
use Rattle.vm_pool.specs.Readers.{peeked, Peeks}
use Rattle.vm_pool.proofs.pool.Pool.peek.Goals as goal

peeks : (g : GuestRecord) (page : ℕ) (answer : Bool) (old new : List ℕ) → IsTrue answer ↔ (page < g.config.size) → OnTrue answer (new ≡ bytes_of g.memory page) → OnFalse answer (new ≡ old)
    → Peeks (peeked (Some g) page) answer old new
peeks g page answer old new there copied unchanged = go answer (nat_lt page g.config.size) refl there copied unchanged
  where
    go : (answer below : Bool) → nat_lt page g.config.size ≡ below → IsTrue answer ↔ (page < g.config.size) → OnTrue answer (new ≡ bytes_of g.memory page) → OnFalse answer (new ≡ old)
        → Peeks (if below then Some (bytes_of g.memory page) else None) answer old new
    go true true is there copied unchanged = (refl, copied)
    go true false is there copied unchanged = let no : true ≡ false = sym (lt-ltb page g.config.size (there.0 refl)) ∙ is in absurd (cc)
    go false true is there copied unchanged = let no : false ≡ true = there.1 (ltb-true page g.config.size is) in absurd (cc)
    go false false is there copied unchanged = (refl, unchanged)

pub returns-in-Some : goal.returns-in-Some
returns-in-Some c =
    let copy = c.peek.ensures in
    subst (λ (guest : Option GuestRecord). Peeks (peeked guest c.args.page) c.peek.result c.args.bytes.now c.peek.new.bytes) c.in-Some.ensures.value
    (peeks c.in-Some.guest.now.guest c.args.page c.peek.result _ _ copy.there copy.copied copy.unchanged)
