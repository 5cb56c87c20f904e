use Rattle.std.proofs.Common.{◌∙◌, ℕ, List, Bor, ap, sym}
use Rattle.std.specs.Prelude.{option_and_then, option_map}
use Rattle.vm_words.specs.Words.{number_in, number_of}
use Rattle.vm_words.proofs.request.Request.number.Goals as goal

pub returns : goal.returns
unfolding number_of
returns c =
    c.number_in.ensures
    ∙ ap (option_and_then number_in) (ap (option_map (λ (text : Bor (List ℕ)). text.now)) (sym c.in_ok-text.was) ∙ c.text.ensures)

pub returns-in_err-text : goal.returns-in_err-text
unfolding number_of
returns-in_err-text c =
    c.from_residual.ensures
    ∙ ap (option_and_then number_in) (ap (option_map (λ (text : Bor (List ℕ)). text.now)) (sym c.in_err-text.was) ∙ c.text.ensures)
