use Rattle.std.proofs.Common.{◌≡◌, IfOk, List, ℕ, string_bytes, subst}
use Rattle.vm_import.specs.Settings.{settings_of}
use Rattle.vm_import.specs.Texts.{head_of}
use Rattle.vm_import.proofs.texts.head_text.Goals as goal

pub returns : goal.returns
unfolding head_of
returns c =
    subst (λ (name : List ℕ). IfOk c.format.result
    (λ text. string_bytes text ≡ head_of (record (settings_of c.args.settings.now) { name = name })))
    c.as_str-name.ensures.value c.format.ensures.ok
