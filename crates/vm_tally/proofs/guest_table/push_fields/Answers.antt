use Rattle.std.proofs.Common.{List, Option, ℕ, ap}
use Rattle.std.specs.List.{flat_map}
use Rattle.vm_tally.specs.Table.{number_field, optional_field}
use Rattle.vm_tally.proofs.TextLemmas.{fields-together}
use Rattle.vm_tally.proofs.guest_table.push_fields.Goals as goal

pub returns : goal.returns
returns c =
    fields-together _ _ _ _ _ _ _ _ _ c.in_ok-push_numbers.ensures c.in_ok-push_swept.ensures c.in_ok-push_optionals.ensures
    (ap (λ (numbers : List ℕ). flat_map number_field numbers) c.numbers_to_granted.ensures)
    (ap (λ (numbers : List (Option ℕ)). flat_map optional_field numbers) c.numbers_from_blocked.ensures)
