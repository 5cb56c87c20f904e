use Rattle.std.proofs.Common.{◌≡◌, drop, get_or, true, false, ◌==◌, option_and_then, sym, ap, ◌∙◌}
use Rattle.fast_float.specs.Text.{scan}
use Rattle.serde_json.specs.Find.{as_u64}
use Rattle.serde_json.specs.Read.{number_of, number_from}
use Rattle.vm_json.proofs.NumberLemmas.{negative_is_not_whole, whole_is}
use Rattle.vm_json.proofs.number.whole_number.Goals as goal

pub returns-then-has_minus : goal.returns-then-has_minus
unfolding number_of
returns-then-has_minus c =
    let s = c.as_bytes-bytes.result.now in
    let signed : (get_or s 0 0 == 45) ≡ true = sym c.if-has_minus.ensures.value in
    let is : number_from true (scan (drop 1 s)) ≡ number_of s = rw signed in
    sym (negative_is_not_whole (scan (drop 1 s))) ∙ ap (option_and_then as_u64) (is ∙ ap number_of c.as_bytes-bytes.ensures.value)

pub returns : goal.returns
unfolding number_of
returns c =
    let s = c.as_bytes-bytes.result.now in
    let unsigned : (get_or s 0 0 == 45) ≡ false = sym c.if-has_minus.ensures.value in
    let is : number_from false (scan s) ≡ number_of s = rw unsigned in
    whole_is c.scan.result c.to_u64.result c.to_u64.ensures ∙ ap (λ p. option_and_then as_u64 (number_from false p)) c.scan.ensures.parts ∙ ap (option_and_then as_u64) (is ∙ ap number_of c.as_bytes-bytes.ensures.value)
