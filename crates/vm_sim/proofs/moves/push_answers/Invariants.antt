use Rattle.std.proofs.Common.{◌≡◌, ◌++◌, drop, string_bytes}
use Rattle.std.specs.List.{flat_map}
use Rattle.vm_sim.specs.Report.{answer_lines}
use Rattle.vm_sim.proofs.moves.push_answers.Given as goal

-- the answers that are left complete the text
abbrev pub invariant-loop-answer : goal.invariant-loop-answer
invariant-loop-answer l =
    string_bytes l.text ++ flat_map (answer_lines l.host) (drop l.answer-index l.answers) ≡ string_bytes l.fn.text ++ flat_map (answer_lines l.host) l.answers
