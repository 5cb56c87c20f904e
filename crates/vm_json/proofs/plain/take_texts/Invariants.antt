use Rattle.std.proofs.Common.{◌≤◌, length, map}
use denote.Shadow.{shadow}
use denote.Text.{Utf8}
use Rattle.vm_json.specs.Plain.{GivesTexts}
use Rattle.vm_json.proofs.plain.take_texts.Given as goal

abbrev pub invariant-loop-found : goal.invariant-loop-found
invariant-loop-found l =
    shadow (Utf8 l.left) × GivesTexts l.text (map (λ t. t.now) l.texts.items) l.left × (length l.left ≤ length l.text)

abbrev pub decreases-loop-found : goal.decreases-loop-found
decreases-loop-found l = length l.left
