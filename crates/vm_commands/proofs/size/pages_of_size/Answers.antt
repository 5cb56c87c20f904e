use Rattle.std.proofs.Common.{◌≡◌, ℕ, List, Option, Some, ap, sym, ◌∙◌}
use Rattle.std.specs.Prelude.{option_and_then}
use Rattle.vm_commands.specs.Sizes.{bytes_of_size, pages_of_bytes, pages_of_size}
use Rattle.vm_commands.proofs.size.pages_of_size.Goals as goal

-- the pages of the bytes that were read
rounded : (page : ℕ) (text : List ℕ) (bytes pages : ℕ) → bytes_of_size text ≡ Some bytes → pages ≡ pages_of_bytes page bytes
    → Some pages ≡ pages_of_size page text
unfolding pages_of_size
rounded page text bytes pages read is =
    ap (λ n. Some n) is ∙ sym (ap (λ (o : Option ℕ). option_and_then (λ b. Some (pages_of_bytes page b)) o) read)

pub returns : goal.returns
returns c =
    let read = sym c.bytes_of_size.ensures ∙ c.in_ok-bytes.was in
    rounded c.args.page c.args.text.now c.in_ok-bytes.bytes _ read cc
