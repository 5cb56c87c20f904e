use Rattle.std.proofs.Common.{refl, sym, ap, ◌∙◌, arith}
use lib.Count.{count_trailing_zeros}
use Rattle.json.specs.Run.{is_plain, is_stop}
use Rattle.vm_json.proofs.RunLemmas.{passes_window, stops_in_window}
use Rattle.vm_json.proofs.plain.run.plain_len.Goals as goal

pub returns-then-found-ne0 : goal.returns-then-found-ne0
returns-then-found-ne0 c =
    let found = c.stops-found in
    let run = stops_in_window is_stop is_plain (λ x. refl) c.args.bytes.now c.loop-at.at 16 (omega arith) (omega arith) (omega (arith, found.ensures)) ∙ ap (count_trailing_zeros 64) (sym found.ensures) in
    omega (arith, run, c.loop-at.invariant.same_end)

pub loop-at-preserved : goal.loop-at-preserved
loop-at-preserved c =
    let run = passes_window is_stop is_plain (λ x. refl) c.args.bytes.now c.loop-at.at 16 (omega arith) (omega arith) (omega (arith, c.stops-found.ensures)) in
    record { within = omega arith; same_end = omega (arith, run, c.loop-at.invariant.same_end) }
