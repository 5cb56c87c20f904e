use Rattle.std.proofs.Common.{◌≡◌, ◌∙◌, ℕ, List, ◌++◌, Result, Ok, Err, OnOk, ap, if◌then◌else◌}
use Rattle.std.specs.Result.{is_ok}
use Rattle.vm_import.proofs.numbers.push_decimal.Goals as goal

pushed : {T E : Type 0} (result : Result T E) (old new more other text : List ℕ)
    → new ≡ (if is_ok result then old ++ more else other) → more ≡ text → OnOk result (new ≡ old ++ text)
pushed (Ok x) old new more other text is same = is ∙ ap (λ l. old ++ l) same
pushed (Err e) old new more other text is same = tt

pub returns : goal.returns
returns c =
    pushed c.extend_from_slice.result c.args.text.now.items c.extend_from_slice.new.self.items c.as_bytes.result.now _ _ c.extend_from_slice.ensures.items
    (c.as_bytes.ensures.value ∙ c.format.ensures.text)
