use Rattle.std.proofs.Common.{ℕ, ◌<◌, List, [], ◌∷◌, length, true≢false, arith, sym}
use Rattle.std.specs.Prelude.{IsTrue}
use Rattle.json.specs.Lex.{lex, punctuate, tokens}
use Rattle.json.specs.Reads.{opens}
use Rattle.vm_json.proofs.reading.read_tokens.Goals as goal

some_text : (text : List ℕ) → IsTrue (opens (tokens text)) → 0 < length text
unfolding lex punctuate
some_text [] h = absurd (true≢false (sym h))
some_text (x ∷ xs) h = omega arith

pub returns-in_err-value-clause-memory : goal.returns-in_err-value-clause-memory
returns-in_err-value-clause-memory c e =
    let opened : IsTrue (opens c.in-Ok.reader) = c.read_value.ensures.memory (grind arith) in
    some_text c.args.text.now (rw c.in-Ok.ensures.ok at opened)
