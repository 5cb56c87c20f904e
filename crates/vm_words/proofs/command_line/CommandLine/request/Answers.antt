use Rattle.std.proofs.Common.{List, arith, inr, sym, subst}
use Rattle.clap.specs.Words.{Row}
use Rattle.vm_words.specs.Words.{AreTaken, NumbersLieIn, line_of}
use Rattle.vm_words.proofs.NumberLemmas.{numbers-lie-in}
use Rattle.vm_words.proofs.command_line.CommandLine.request.Goals as goal

pub returns-in-Ok-clause-numbers : goal.returns-in-Ok-clause-numbers
unfolding AreTaken
returns-in-Ok-clause-numbers g c =
    subst (λ (rows : List Row). NumbersLieIn (line_of c.args.self.now).values rows) (sym c.in-Ok.ensures.asked)
    (numbers-lie-in (line_of c.args.self.now).values _ c.in-Ok.ensures.taken.fit)

-- memory was refused
pub returns-in-Err-clause-refused : goal.returns-in-Err-clause-refused
returns-in-Err-clause-refused g c = inr (omega arith)
