use Rattle.std.proofs.Common.{◌≡◌, ◌≢◌, ◌∙◌, ℕ, ◌==◌, ◌&&◌, Bool, true, false, sym, ap, refl, arith}
use Rattle.std.proofs.lemmas.Bool.Decides.{nat_tests}
use Rattle.vm_tally.proofs.summary.Summary.fits.Goals as goal
use Rattle.vm_tally.proofs.summary.Summary.fits.Goals.{then-self-eq0, else-self-eq0, then-self-eq0-2, else-self-eq0-2, then-self-eq0-3, else-self-eq0-3}

not-zero : (n : ℕ) → n ≢ 0 → (n == 0) ≡ false
not-zero n other = grind (arith, nat_tests, other)

-- a test behind others that hold, and behind one that does not
test-on : (a b v : Bool) → a ≡ true → v ≡ b → v ≡ (a && b)
test-on a b v is so = so ∙ ap (λ (x : Bool). x && b) (sym is)

test-off : (a b v : Bool) → a ≡ false → v ≡ a → v ≡ (a && b)
test-off a b v is so = so ∙ is ∙ ap (λ (x : Bool). x && b) (sym is)

all-five : (a b c d e : Bool) → ((((a && b) && c) && d) && e) ≡ (a && b && c && d && e)
all-five false b c d e = refl
all-five true false c d e = refl
all-five true true false d e = refl
all-five true true true false e = refl
all-five true true true true e = refl

-- src/summary.rt:46:5
pub returns-then-self-eq0-4 : goal.returns-then-self-eq0-4
returns-then-self-eq0-4 c =
    let s = c.args.self.now in
    let memory = s.no_memory == 0 in
    let swap = s.no_swap == 0 in
    let blocked = s.blocked == 0 in
    let stalls = s.stalls == 0 in
    let last = s.most_swapped == 0 in
    let two : c.if-self-eq0.value ≡ (memory && swap) = elim c.if-self-eq0.branch [
      | then-self-eq0 w ↦ test-on memory swap _ (ap (λ (n : ℕ). n == 0) w.if-self-eq0.true) w.value-is
      | else-self-eq0 w ↦ test-off memory swap _ (not-zero s.no_memory w.if-self-eq0.false) w.value-is
    ] in
    let three : c.if-self-eq0-2.value ≡ ((memory && swap) && blocked) = elim c.if-self-eq0-2.branch [
      | then-self-eq0-2 w ↦ test-on _ blocked _ (sym two ∙ w.if-self-eq0-2.true) w.value-is
      | else-self-eq0-2 w ↦ test-off _ blocked _ (sym two ∙ w.if-self-eq0-2.false) (w.value-is ∙ two)
    ] in
    let four : c.if-self-eq0-3.value ≡ (((memory && swap) && blocked) && stalls) = elim c.if-self-eq0-3.branch [
      | then-self-eq0-3 w ↦ test-on _ stalls _ (sym three ∙ w.if-self-eq0-3.true) w.value-is
      | else-self-eq0-3 w ↦ test-off _ stalls _ (sym three ∙ w.if-self-eq0-3.false) (w.value-is ∙ three)
    ] in
    test-on _ last last (sym four ∙ c.if-self-eq0-4.true) refl ∙ all-five memory swap blocked stalls last

-- src/summary.rt:46:5
pub returns-else-self-eq0-4 : goal.returns-else-self-eq0-4
returns-else-self-eq0-4 c =
    let s = c.args.self.now in
    let memory = s.no_memory == 0 in
    let swap = s.no_swap == 0 in
    let blocked = s.blocked == 0 in
    let stalls = s.stalls == 0 in
    let last = s.most_swapped == 0 in
    let two : c.if-self-eq0.value ≡ (memory && swap) = elim c.if-self-eq0.branch [
      | then-self-eq0 w ↦ test-on memory swap _ (ap (λ (n : ℕ). n == 0) w.if-self-eq0.true) w.value-is
      | else-self-eq0 w ↦ test-off memory swap _ (not-zero s.no_memory w.if-self-eq0.false) w.value-is
    ] in
    let three : c.if-self-eq0-2.value ≡ ((memory && swap) && blocked) = elim c.if-self-eq0-2.branch [
      | then-self-eq0-2 w ↦ test-on _ blocked _ (sym two ∙ w.if-self-eq0-2.true) w.value-is
      | else-self-eq0-2 w ↦ test-off _ blocked _ (sym two ∙ w.if-self-eq0-2.false) (w.value-is ∙ two)
    ] in
    let four : c.if-self-eq0-3.value ≡ (((memory && swap) && blocked) && stalls) = elim c.if-self-eq0-3.branch [
      | then-self-eq0-3 w ↦ test-on _ stalls _ (sym three ∙ w.if-self-eq0-3.true) w.value-is
      | else-self-eq0-3 w ↦ test-off _ stalls _ (sym three ∙ w.if-self-eq0-3.false) (w.value-is ∙ three)
    ] in
    test-off _ last _ (sym four ∙ c.if-self-eq0-4.false) four ∙ all-five memory swap blocked stalls last
