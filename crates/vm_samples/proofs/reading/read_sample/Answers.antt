use Rattle.std.proofs.Common.{◌∙◌, ◌+◌, drop, ap, sym, subst, arith}
use Rattle.vm_samples.specs.Lines.{lines_of}
use Rattle.vm_samples.specs.SampleOf.{ReadsSample, domains_from, sample_of}
use Rattle.vm_samples.proofs.LineLemmas.{line_taken, none_taken, within_taken}
use Rattle.vm_samples.proofs.SampleLemmas.{bad_line}
use Rattle.vm_samples.proofs.reading.read_sample.Goals as goal

pub loop-len-init : goal.loop-len-init
unfolding sample_of
loop-len-init c = record {
  within = omega arith;
  counted = omega arith;
  few = omega (arith, c.new-domains.ensures.len);
  completes = ap (domains_from 1 (lines_of c.args.lines.now)) c.new-domains.ensures.items;
}

pub returns-in-Err : goal.returns-in-Err
returns-in-Err c =
    let lines = c.args.lines.now in
    let found = sym c.line_end.ensures ∙ c.in-Some.is in
    bad_line c.loop-len.number _ (lines_of (drop (c.loop-len.start + (c.in-Some.len + 1)) lines)) c.loop-len.domains.items c.in-Err.error c.at_line.result
    (sample_of lines) c.in-Err.ensures.bad c.at_line.ensures
    (ap (λ ls. domains_from c.loop-len.number ls c.loop-len.domains.items) (sym (line_taken lines c.loop-len.start c.in-Some.len found))
    ∙ c.loop-len.invariant.completes)

pub loop-len-preserved : goal.loop-len-preserved
loop-len-preserved c =
    let lines = c.args.lines.now in
    let found = sym c.line_end.ensures ∙ c.in-Some.is in
    record {
      within = within_taken lines c.loop-len.start c.in-Some.len found c.loop-len.invariant.within;
      counted = omega (arith, c.loop-len.invariant.counted);
      few = c.in_default-take_line.ensures.few;
      completes = sym (c.in_default-take_line.ensures.ok c.loop-len.number (lines_of (drop (c.loop-len.start + (c.in-Some.len + 1)) lines)))
          ∙ ap (λ ls. domains_from c.loop-len.number ls c.loop-len.domains.items) (sym (line_taken lines c.loop-len.start c.in-Some.len found))
          ∙ c.loop-len.invariant.completes;
    }

pub returns : goal.returns
returns c =
    let lines = c.args.lines.now in
    let none = none_taken lines c.loop-len.start (sym c.line_end.ensures ∙ c.in_default.is) in
    subst (λ wanted. ReadsSample c.judged.result wanted)
    (ap (λ ls. domains_from c.loop-len.number ls c.loop-len.domains.items) (sym none) ∙ c.loop-len.invariant.completes)
    c.judged.ensures
