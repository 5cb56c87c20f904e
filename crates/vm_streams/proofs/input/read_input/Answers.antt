use Rattle.std.proofs.Common.{◌≡◌, ◌≤◌, ◌<◌, ◌+◌, ◌-◌, ◌++◌, ◌||◌, ◌∙◌, ℕ, Bool, true, false, List, length, take, drop, min, vec_len, ap, subst, sym, refl, arith, rules, length-append}
use Rattle.std.proofs.lemmas.Bool.{false≢true}
use Rattle.std.proofs.lemmas.List.{length-take, take-append-le}
use Rattle.std.specs.Prelude.{if◌then◌else◌, is_ok}
use Rattle.std.specs.Io.KnownBytes.{Consumes}
use Rattle.vm_streams.proofs.StreamLemmas.{Consumes-then}
use Rattle.vm_streams.proofs.input.read_input.Goals as goal

-- what was put behind the others is the front that the read filled
more_bytes : (ok : Bool) (now was buf rest : List ℕ) (count : ℕ) → now ≡ (if ok then was ++ take count (buf ++ rest) else was) → ok ≡ true
    → count ≤ length buf → now ≡ was ++ take count buf
more_bytes true now was buf rest count is ok within = is ∙ ap (λ l. was ++ l) (take-append-le count buf rest within)
more_bytes false now was buf rest count is ok within = absurd (false≢true ok)

longer : (ok : Bool) (now was : ℕ) (buf rest : List ℕ) (count : ℕ) → now ≡ (if ok then was + length (take count (buf ++ rest)) else was) → ok ≡ true
    → count ≤ length buf → count ≡ length (take count buf) → now ≡ was + count
longer true now was buf rest count is ok within same = is ∙ ap (λ n. was + n) (ap length (take-append-le count buf rest within) ∙ sym same)
longer false now was buf rest count is ok within same = absurd (false≢true ok)

or_false : (b : Bool) → (b || false) ≡ b
or_false true = refl
or_false false = refl

-- some bytes more, and still no more than asked for
nearer : (limit was now count : ℕ) → now ≡ was + count → was ≤ limit → (count ≡ 0 → ⊥) → limit + 1 - now < limit + 1 - was
nearer limit was now count is few some = omega arith

still_within : (limit was now count read room left : ℕ) (chunk : List ℕ) → now ≡ was + count → was ≤ limit → count ≤ read
    → read ≡ length (take room chunk) → room ≡ min (limit + 1 - left) 4096 → left ≡ was → now ≤ limit + 1
still_within limit was now count read room left chunk is few within size fits same = omega (arith, length-take room chunk)

pub loop-chunk-smaller : goal.loop-chunk-smaller
loop-chunk-smaller g c =
    let bound = c.in-Ok.ensures.bound in
    let len = longer (is_ok c.extend_from_slice.result) (vec_len c.extend_from_slice.new.self) (vec_len c.loop-chunk.input) c.read.new.buf (drop c.min-room.result c.loop-chunk.chunk) c.in-Ok.count c.extend_from_slice.ensures.len c.if-is_err.ensures.negation bound.0 bound.1 in
    nearer c.args.limit (vec_len c.loop-chunk.input) (vec_len c.extend_from_slice.new.self) c.in-Ok.count len (subst (λ (n : ℕ). n ≤ c.args.limit) c.len.ensures c.loop-chunk-test.true) c.if-count-eq0.false

pub loop-chunk-preserved : goal.loop-chunk-preserved
loop-chunk-preserved g c =
    let bound = c.in-Ok.ensures.bound in
    let ok = c.if-is_err.ensures.negation in
    let len = longer (is_ok c.extend_from_slice.result) (vec_len c.extend_from_slice.new.self) (vec_len c.loop-chunk.input) c.read.new.buf (drop c.min-room.result c.loop-chunk.chunk) c.in-Ok.count c.extend_from_slice.ensures.len ok bound.0 bound.1 in
    let is = more_bytes (is_ok c.extend_from_slice.result) c.extend_from_slice.new.self.items c.loop-chunk.input.items c.read.new.buf (drop c.min-room.result c.loop-chunk.chunk) c.in-Ok.count c.extend_from_slice.ensures.items ok bound.0 in
    let few = subst (λ (n : ℕ). n ≤ c.args.limit) c.len.ensures c.loop-chunk-test.true in
    let before = c.loop-chunk.invariant in
    record {
      within = still_within c.args.limit (vec_len c.loop-chunk.input) (vec_len c.extend_from_slice.new.self) c.in-Ok.count _ _ _ c.loop-chunk.chunk len few bound.0 c.read.auto.buf c.min-room.ensures c.len-in-loop-chunk.ensures;
      taken = subst (λ l. Consumes (g.R.Source.remaining c.args.reader.now) (g.R.Source.remaining c.read.new.self) l) (sym is) (Consumes-then _ _ _ _ _ before.taken c.in-Ok.ensures.bytes.0);
      stays = c.in-Ok.ensures.failure ∙ or_false _ ∙ before.stays;
    }

pub returns-then-is_err-clause-at_most : goal.returns-then-is_err-clause-at_most
returns-then-is_err-clause-at_most g c = (
  c.loop-chunk.input.items ++ take c.in-Ok.count c.read.new.buf,
  Consumes-then _ _ _ _ _ c.loop-chunk.invariant.taken c.in-Ok.ensures.bytes.0,
  rw (length-append c.loop-chunk.input.items (take c.in-Ok.count c.read.new.buf)) (search (rules, length-take)),
)
