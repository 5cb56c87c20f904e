-- A command line's options, one after the other.
use Rattle.std.proofs.Common.{◌≡◌, ◌∙◌, ℕ, List, [], ◌∷◌, ◌<◌, ◌+◌, ap, sym, map, drop, length, get_or, arith, append_assoc, drop-cons, suc}
use Rattle.clap.specs.Words.{App, Rule, with_rule}
use Rattle.vm_words.specs.Words.{with_options}

-- one option, and then the others
with_options-cons : (app : App) (option : Rule) (options : List Rule) → with_options (with_rule app option) options ≡ with_options app (option ∷ options)
with_options-cons app option options =
    ap (λ (rules : List Rule). record app { top = record app.top { rules = rules } }) (append_assoc app.top.rules (option ∷ []) options)

-- what is left, with one more option that a command has
pub one-more : {X Y : Type 0} (option : Y → Rule) (rule : X → Y) (xs : List X) (i : ℕ) (d : X) (old new whole : App) (added : Rule)
    → i < length xs → new ≡ with_rule old added → added ≡ option (rule (get_or xs i d))
    → with_options old (map option (map rule (drop i xs))) ≡ whole → with_options new (map option (map rule (drop (i + 1) xs))) ≡ whole
one-more option rule xs i d old new whole added lt is same left =
    let next : suc i ≡ i + 1 = omega arith in
    let rest = map option (map rule (drop (i + 1) xs)) in
    let at = drop-cons xs i d lt ∙ ap (λ (k : ℕ). get_or xs i d ∷ drop k xs) next in
    ap (λ (app : App). with_options app rest) (is ∙ ap (with_rule old) same)
    ∙ with_options-cons old (option (rule (get_or xs i d))) rest
    ∙ sym (ap (λ ys. with_options old (map option (map rule ys))) at) ∙ left
