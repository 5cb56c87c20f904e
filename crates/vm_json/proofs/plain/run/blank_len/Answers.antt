use Rattle.std.proofs.Common.{◌≡◌, Bool, true, false, not, refl, sym, ap, ◌∙◌, arith}
use lib.Count.{count_trailing_zeros}
use Rattle.json.specs.Word.{is_space}
use Rattle.vm_json.specs.Plain.{is_no_space}
use Rattle.vm_json.proofs.RunLemmas.{passes_window, stops_in_window}
use Rattle.vm_json.proofs.plain.run.blank_len.Goals as goal

twice : (b : Bool) → b ≡ not (not b)
twice true = refl
twice false = refl

pub returns-then-other-ne0 : goal.returns-then-other-ne0
returns-then-other-ne0 c =
    let found = c.others-other in
    let run = stops_in_window is_no_space is_space (λ x. twice (is_space x)) c.args.bytes.now c.loop-at.at 16 (omega arith) (omega arith) (omega (arith, found.ensures)) ∙ ap (count_trailing_zeros 64) (sym found.ensures) in
    omega (arith, run, c.loop-at.invariant.same_end)

pub loop-at-preserved : goal.loop-at-preserved
loop-at-preserved c =
    let run = passes_window is_no_space is_space (λ x. twice (is_space x)) c.args.bytes.now c.loop-at.at 16 (omega arith) (omega arith) (omega (arith, c.others-other.ensures)) in
    record { within = omega arith; same_end = omega (arith, run, c.loop-at.invariant.same_end) }
