use Rattle.std.proofs.Common.{◌≡◌, ◌+◌, ◌-◌, ◌/◌, ◌%◌, ◌^◌, bit_and, ◌∷◌, ◌++◌, [], ℕ, get_or, take, sym, ap, ◌∙◌, arith}
use Rattle.std.specs.Int.{bit_at}
use Rattle.std.proofs.lemmas.List.{take_more}
use Rattle.std.proofs.lemmas.List.Elements.{All-push}
use Rattle.std.proofs.lemmas.List.Sums.{fold_push}
use Rattle.std.proofs.lemmas.Nat.{and_mask}
use Rattle.std.proofs.lemmas.Nat.Bits.{bit_at-lt}
use Rattle.vm_pages.specs.Runs.{bits_gained, with_bit}
use Rattle.vm_pages.proofs.RunLemmas.{bits_gained-push}
use Rattle.vm_pages.proofs.words.with_run.Goals as goal

pub loop-run-preserved : goal.loop-run-preserved
loop-run-preserved c =
    let invariant = c.loop-run.invariant in
    let page = get_or c.args.pages.now c.loop-run.run 0 in
    let before = take c.loop-run.run c.args.pages.now in
    let more : take (c.loop-run.run + 1) c.args.pages.now ≡ before ++ page ∷ [] = take_more c.args.pages.now c.loop-run.run 0 c.loop-run-test.true in
    let one : bit_and (c.loop-run.all / 2 ^ (page % 64)) 1 ≡ bit_at c.loop-run.all (page % 64) = and_mask (c.loop-run.all / 2 ^ (page % 64)) 1 in
    record {
      same_word = rw more (All-push (λ page. page / 64 ≡ c.args.word) before page invariant.same_word c.if-page-word.false);
      all = rw more (ap (λ (all : ℕ). with_bit all page) invariant.all ∙ sym (fold_push with_bit c.args.marks before page));
      gained = rw (more, one) (ap (λ (gained : ℕ). gained + (1 - bit_at c.loop-run.all (page % 64))) invariant.gained
          ∙ ap (λ (all : ℕ). bits_gained c.args.marks before + (1 - bit_at all (page % 64))) invariant.all
          ∙ sym (bits_gained-push c.args.marks before page));
      few = omega (arith, one, invariant.few, bit_at-lt c.loop-run.all (page % 64));
    }
