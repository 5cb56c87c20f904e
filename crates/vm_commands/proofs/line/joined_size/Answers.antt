use Rattle.std.proofs.Common.{◌≡◌, ◌+◌, ℕ, cond, Bool, true, false, List, Option, Some, None, bytes_eq, codes, drop, take, length, refl, sym, ap, ◌∙◌}
use Rattle.std.specs.Borrow.{Bor}
use Rattle.std.specs.Option.{MatchOption, option_copied}
use Rattle.std.proofs.lemmas.Slice.Eq.{bytes_eq-Decides}
use Rattle.vm_commands.specs.Lines.{joined_size}
use Rattle.vm_commands.proofs.line.joined_size.Goals as goal

same_test : (a b : Bool) → (a ≡ true → b ≡ true) → (b ≡ true → a ≡ true) → a ≡ b
same_test true b f g = sym (f refl)
same_test false true f g = g refl
same_test false false f g = refl

flipped : (xs ys : List ℕ) → bytes_eq xs ys ≡ bytes_eq ys xs
flipped xs ys =
    let there = bytes_eq-Decides xs ys in
    let back = bytes_eq-Decides ys xs in
    same_test (bytes_eq xs ys) (bytes_eq ys xs) (λ e. back.1 (sym (there.0 e))) (λ e. there.1 (sym (back.0 e)))

-- the code compares the front with the option, and the specification the option with the front
stripped : (word : List ℕ) (r : Option (Bor (List ℕ))) → MatchOption r (bytes_eq (take 16 word) (codes "--min-guarantee=") ≡ false) (λ x. (bytes_eq (take 16 word) (codes "--min-guarantee=") ≡ true) × (x.now ≡ drop 16 word) × (length x.now + 16 ≡ length word))
    → option_copied r ≡ joined_size word
unfolding joined_size
stripped word None h = sym (ap (λ b. cond b (Some (drop 16 word)) None) (flipped (codes "--min-guarantee=") (take 16 word) ∙ h))
stripped word (Some x) h =
    ap (λ (rest : List ℕ). Some rest) h.1 ∙ sym (ap (λ b. cond b (Some (drop 16 word)) None) (flipped (codes "--min-guarantee=") (take 16 word) ∙ h.0))

pub returns : goal.returns
returns c = stripped c.as_bytes.result.now c.strip_prefix.result c.strip_prefix.ensures.cases ∙ ap joined_size c.as_bytes.ensures.value
