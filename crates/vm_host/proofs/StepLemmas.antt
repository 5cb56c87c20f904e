-- One line after the other: what is left completes what was done.
use Rattle.std.proofs.Common.{◌≡◌, ◌∙◌, ℕ, ◌+◌, ◌<◌, List, [], ◌∷◌, ◌++◌, length, map, drop, get_or, add-one, append_assoc, ap, sym}
use Rattle.std.proofs.Math.Seq.{drop-cons}
use Rattle.vm_host.specs.Answers.{AnswerValue}
use Rattle.vm_host.specs.Commands.{after_line, after_lines, answer_to, answers_to}
use Rattle.vm_host.specs.Decisions.{decision_on_line}
use Rattle.vm_host.specs.World.{KeepsDomains, World}
use Rattle.vm_host.proofs.SetupLemmas.{setup-then}
use Rattle.vm_reclaim.specs.Policy.{Policy}

drop-item : {A : Type 0} (xs : List A) (i : ℕ) (x : A) → i < length xs → x ≡ get_or xs i x → drop i xs ≡ x ∷ drop (i + 1) xs
drop-item xs i x there is = drop-cons xs i x there ∙ (λ j. sym is j ∷ drop (sym (add-one i) j) xs)

pub step-lines : {A : Type 0} (text : A → List ℕ) (policy : Policy) (old new : World) (xs : List A) (i : ℕ) (x : A) (whole : World) → i < length xs → x ≡ get_or xs i x
    → new ≡ after_line policy old (text x) → after_lines policy old (map text (drop i xs)) ≡ whole → after_lines policy new (map text (drop (i + 1) xs)) ≡ whole
step-lines text policy old new xs i x whole there is step done =
    ap (λ w. after_lines policy w (map text (drop (i + 1) xs))) step
    ∙ (ap (λ ys. after_lines policy old (map text ys)) (sym (drop-item xs i x there is)) ∙ done)

pub step-answers : {A : Type 0} (text : A → List ℕ) (policy : Policy) (old new : World) (xs : List A) (i : ℕ) (x : A) (out : List AnswerValue) (a : AnswerValue) (whole : List AnswerValue)
    → i < length xs → x ≡ get_or xs i x → new ≡ after_line policy old (text x) → a ≡ answer_to policy old (text x) (decision_on_line old (text x))
    → out ++ answers_to policy old (map text (drop i xs)) ≡ whole → (out ++ a ∷ []) ++ answers_to policy new (map text (drop (i + 1) xs)) ≡ whole
step-answers text policy old new xs i x out a whole there is step told done =
    append_assoc out (a ∷ []) (answers_to policy new (map text (drop (i + 1) xs)))
    ∙ ((λ j. out ++ told j ∷ answers_to policy (step j) (map text (drop (i + 1) xs)))
    ∙ (ap (λ ys. out ++ answers_to policy old (map text ys)) (sym (drop-item xs i x there is)) ∙ done))

pub keeps-domains : (a b c : World) → KeepsDomains a b → KeepsDomains b c → KeepsDomains a c
keeps-domains a b c first second = record {
  machine = second.machine ∙ first.machine;
  names = second.names ∙ first.names;
  setup = setup-then a.pool b.pool c.pool first.setup second.setup;
}
