use Rattle.std.proofs.Common.{◌≡◌, ◌∙◌, ℕ, ◌+◌, ◌-◌, ◌≤◌, ◌<◌, ◌^◌, inl, inr, true, false, nat_lt, List, length, take, drop, Option, Some, None, IfSome, Result, Ok, Err, IfErr, IsErrAnd, refl, ap, subst, sym, arith}
use borrow.Author.Tests.{ltb-false, ltb-true}
use Rattle.std.proofs.lemmas.List.{length-append, length-drop, length-take-le, with_items_is}
use Rattle.std.proofs.lemmas.Result.{IfOk-from_err}
use Rattle.std.specs.Io.KnownBytes.{Consumes}
use Rattle.std.specs.Option.{SomeIff, ok_or}
use Rattle.std.specs.Result.{result_ok}
use Rattle.std.specs.Vec.{with_items}
use Rattle.vm_import.specs.declared.faults.LogError.{LogError}
use Rattle.vm_import.specs.declared.faults.LogError.TheVariants.{Read, TooLong}
use Rattle.vm_import.specs.Waiting.{IsBlock, IsOfSource, IsTaken, Waiting, all_of}
use Rattle.vm_import.proofs.LineLemmas.{failed_or_stays, no_error}
use Rattle.vm_import.proofs.WaitingLemmas.{Waiting-same, front_and_more, length_waiting, taken_more}
use Rattle.vm_import.proofs.block.Block.take_more.Goals as goal

-- what was moved to the front and what was read behind it, in the block as it ends
moved_and_read : (block moved more items : List ℕ) (start end count total sum : ℕ) (old : Waiting) (before after : Option (List ℕ))
    → (let waits : Waiting = record { bytes = take (end - start) (drop start block); taken = total } in waits) ≡ old
    → items ≡ more → sum ≡ total + count → take (end - start) moved ≡ take (end - start) (drop start block)
    → take (end - start) more ≡ take (end - start) moved → end - start + count ≤ length more
    → Consumes before after (take count (drop (end - start) more))
    → IsTaken old before (record { bytes = take (end - start + count - 0) (drop 0 items); taken = sum }) after
moved_and_read block moved more items start end count total sum old before after view is counted move read bound consumed =
    let got = take count (drop (end - start) more) in
    let exact : length got ≡ count = length-take-le count (drop (end - start) more) (omega (arith, length-drop (end - start) more)) in
    let end_is : end - start + count - 0 ≡ end - start + count = omega arith in
    let whole = ap (λ n. take n (drop 0 items)) end_is
    ∙ ap (λ l. take (end - start + count) (drop 0 l)) is
    ∙ front_and_more block moved more start end count move read in
    subst (λ (n : ℕ). IsTaken old before (record { bytes = take (end - start + count - 0) (drop 0 items); taken = n }) after) (sym counted)
    (subst (λ (w : Waiting). IsTaken w before (record { bytes = take (end - start + count - 0) (drop 0 items); taken = total + count }) after) view
    (taken_more (take (end - start) (drop start block)) got (take (end - start + count - 0) (drop 0 items)) total count before after consumed exact whole))

-- nothing is used up to the new end
counts : (block items : List ℕ) (start end new total sum : ℕ) (old : Waiting)
    → (let waits : Waiting = record { bytes = take (end - start) (drop start block); taken = total } in waits) ≡ old
    → start ≤ end → end ≤ length block → new ≤ length items → sum + (end - start) ≡ total + new
    → sum + length old.bytes ≡ old.taken + length (take (new - 0) (drop 0 items))
counts block items start end new total sum old view ordered within inside counted =
    let waited = length_waiting block start end ordered within in
    let waits = length_waiting items 0 new (omega arith) inside in
    let bytes : length (take (end - start) (drop start block)) ≡ length old.bytes = ap (λ (w : Waiting). length w.bytes) view in
    let taken : total ≡ old.taken = ap (λ (w : Waiting). w.taken) view in
    omega arith

-- where nothing was read all is as it was
same_waits : (block moved more items : List ℕ) (start end count total sum : ℕ) (old : Waiting)
    → (let waits : Waiting = record { bytes = take (end - start) (drop start block); taken = total } in waits) ≡ old
    → items ≡ more → sum ≡ total + count → take (end - start) moved ≡ take (end - start) (drop start block)
    → take (end - start) more ≡ take (end - start) moved → count ≡ 0
    → (let waits : Waiting = record { bytes = take (end - start + count - 0) (drop 0 items); taken = sum } in waits) ≡ old
same_waits block moved more items start end count total sum old view is counted move read none =
    let length_is : end - start + count - 0 ≡ end - start = omega arith in
    let sum_is : sum ≡ total = omega arith in
    Waiting-same _ _ _ _ (ap (λ n. take n (drop 0 items)) length_is ∙ ap (λ l. take (end - start) (drop 0 l)) is ∙ read ∙ move) sum_is ∙ view

some_read : (count now new total sum taken : ℕ) → sum + now ≡ taken + new → sum ≡ total + count → total ≡ taken → nat_lt 0 count ≡ true → now < new
some_read count now new total sum taken counted is same some = omega (arith, ltb-true 0 count some)

none_read : (count : ℕ) → nat_lt 0 count ≡ false → count ≡ 0
none_read count none = omega (arith, ltb-false 0 count none)

-- a sum that is no error
sum_taken : (checked : Option ℕ) (passed : Result ℕ LogError) (taken sum : ℕ) (P : Type 0) → SomeIff checked P sum
    → checked ≡ result_ok passed → passed ≡ Ok taken → taken ≡ sum
sum_taken None passed taken sum P iff same is = absurd (let none : ◌≡◌ {A = Option ℕ} None (Some taken) = same ∙ ap result_ok is in cc)
sum_taken (Some x) passed taken sum P iff same is =
    let some : ◌≡◌ {A = Option ℕ} (Some x) (Some taken) = same ∙ ap result_ok is in
    let inner : x ≡ taken = cc in
    sym inner ∙ iff.1

front_moved : (n start : ℕ) (moved slice block : List ℕ) → take n moved ≡ take n (drop start slice) → slice ≡ block → take n moved ≡ take n (drop start block)
front_moved n start moved slice block front is = front ∙ ap (λ l. take n (drop start l)) is

-- the error of a call is passed on
of_source : {A B : Type 0} (result : Result A LogError) (error : LogError) → IsErrAnd result (λ e. e ≡ error)
    → ◌≡◌ {A = Result B LogError} (Err error) (Err Read) → IfErr result IsOfSource
of_source (Ok x) error is read = absurd is
of_source (Err e) error is read = let inner : error ≡ Read = cc in subst IsOfSource (sym (is ∙ inner)) tt

read_not_long : {A B : Type 0} (result : Result A LogError) (error : LogError) → IsErrAnd result (λ e. e ≡ error)
    → ◌≡◌ {A = Result B LogError} (Err error) (Err Read) → result ≡ Err TooLong → ⊥
read_not_long (Ok x) error is read long = is
read_not_long (Err e) error is read long = cc

-- a sum that is too large
sum_refused : (checked : Option ℕ) (passed : Result ℕ LogError) (error : LogError) → passed ≡ ok_or checked TooLong → passed ≡ Err error → error ≡ TooLong
sum_refused None passed error is was = let same : ◌≡◌ {A = Result ℕ LogError} (Err error) (Err TooLong) = sym was ∙ is in cc
sum_refused (Some x) passed error is was = absurd (let same : ◌≡◌ {A = Result ℕ LogError} (Err error) (Ok x) = sym was ∙ is in cc)

too_large : (checked : Option ℕ) (passed : Result ℕ LogError) (error : LogError) (sum : ℕ) → SomeIff checked (sum < 2 ^ 64) sum
    → passed ≡ ok_or checked TooLong → passed ≡ Err error → 2 ^ 64 ≤ sum
too_large None passed error sum iff is was = omega (arith, iff)
too_large (Some x) passed error sum iff is was = absurd (let same : ◌≡◌ {A = Result ℕ LogError} (Err error) (Ok x) = sym was ∙ is in cc)

too_long : {A : Type 0} (result : Result A LogError) (error : LogError) → IsErrAnd result (λ e. e ≡ error) → error ≡ TooLong → IfErr result IsOfSource
too_long (Ok x) error is long = absurd is
too_long (Err e) error is long = subst IsOfSource (sym (is ∙ long)) tt

long_not_read : {A : Type 0} (result : Result A LogError) (error : LogError) → IsErrAnd result (λ e. e ≡ error) → error ≡ TooLong → result ≡ Err Read → ⊥
long_not_read (Ok x) error is long read = is
long_not_read (Err e) error is long read = cc

-- what was read counts among all that there is
all_long : (old : Waiting) (total count : ℕ) (got : List ℕ) (before after : Option (List ℕ)) → total ≡ old.taken → Consumes before after got
    → length got ≡ count → 2 ^ 64 ≤ total + count → IfSome (all_of old.taken before) (λ all. 2 ^ 64 ≤ all)
all_long old total count got None after same taken exact large = tt
all_long old total count got (Some xs) None same taken exact large = absurd taken
all_long old total count got (Some xs) (Some ys) same taken exact large = omega (arith, same, ap length taken, length-append got ys)

-- the block has the room that it had
block_stays : (block items more : List ℕ) (new : ℕ) → 32 < length block → items ≡ more → length more ≡ length block → new ≤ length block → IsBlock items 0 new
block_stays block items more new roomy is same within = let long = ap length is in record { ordered = omega arith; within = omega arith; roomy = omega arith }

pub returns-clause-taken : goal.returns-clause-taken
returns-clause-taken g c =
    let block = c.self.inside.bytes in
    let moved = c.move_to_front.new.bytes in
    let more = c.read_behind.new.bytes in
    let waits = c.self.inside.end - c.self.inside.start in
    let moved_length : length moved ≡ block.len = c.move_to_front.auto.bytes ∙ c.deref_mut.ensures.len in
    let more_length : length more ≡ block.len = c.read_behind.auto.bytes ∙ c.deref_mut-2.ensures.len in
    let move : take waits moved ≡ take waits (drop c.self.inside.start block.items) =
    front_moved waits c.self.inside.start moved c.deref_mut.result.now block.items c.move_to_front.ensures c.deref_mut.ensures.value in
    let read : take waits more ≡ take waits moved =
    c.in_ok-count.ensures.front ∙ ap (take waits) (c.deref_mut-2.ensures.value ∙ with_items_is block moved moved_length) in
    let sum = sum_taken c.checked_add.result c.ok_or.result c.in_ok-taken.taken _ _ c.checked_add.ensures c.ok_or.ensures.ok_part c.in_ok-taken.was in
    moved_and_read block.items moved more (with_items (with_items block moved) more).items c.self.inside.start c.self.inside.end c.in_ok-count.count c.self.inside.taken c.in_ok-taken.taken c.args.self.now
    (g.R.Source.remaining c.args.source.now) (g.R.Source.remaining c.read_behind.new.source) c.self.view_is (with_items_is (with_items block moved) more more_length) sum move read
    (omega (arith, c.in_ok-count.ensures.bound, c.read_behind.auto.bytes)) c.in_ok-count.ensures.read

pub returns-in_err-count-clause-counted : goal.returns-in_err-count-clause-counted
returns-in_err-count-clause-counted g c =
    let block = c.self.inside.bytes in
    let moved = c.move_to_front.new.bytes in
    let more = c.read_behind.new.bytes in
    let more_length : length more ≡ block.len = c.read_behind.auto.bytes ∙ c.deref_mut-2.ensures.len in
    let within = c.self.invariant.within in
    counts block.items (with_items (with_items block moved) more).items c.self.inside.start c.self.inside.end (c.self.inside.end - c.self.inside.start) c.self.inside.taken c.self.inside.taken c.args.self.now
    c.self.view_is c.self.invariant.ordered within (omega (arith, ap length (with_items_is (with_items block moved) more more_length))) refl

pub returns-in_err-taken-clause-counted : goal.returns-in_err-taken-clause-counted
returns-in_err-taken-clause-counted g c =
    let block = c.self.inside.bytes in
    let moved = c.move_to_front.new.bytes in
    let more = c.read_behind.new.bytes in
    let more_length : length more ≡ block.len = c.read_behind.auto.bytes ∙ c.deref_mut-2.ensures.len in
    let within = c.self.invariant.within in
    counts block.items (with_items (with_items block moved) more).items c.self.inside.start c.self.inside.end (c.self.inside.end - c.self.inside.start) c.self.inside.taken c.self.inside.taken c.args.self.now
    c.self.view_is c.self.invariant.ordered within (omega (arith, ap length (with_items_is (with_items block moved) more more_length))) refl

pub returns-clause-counted : goal.returns-clause-counted
returns-clause-counted g c =
    let block = c.self.inside.bytes in
    let moved = c.move_to_front.new.bytes in
    let more = c.read_behind.new.bytes in
    let more_length : length more ≡ block.len = c.read_behind.auto.bytes ∙ c.deref_mut-2.ensures.len in
    let bound = c.in_ok-count.ensures.bound in
    let sum = sum_taken c.checked_add.result c.ok_or.result c.in_ok-taken.taken _ _ c.checked_add.ensures c.ok_or.ensures.ok_part c.in_ok-taken.was in
    counts block.items (with_items (with_items block moved) more).items c.self.inside.start c.self.inside.end (c.self.inside.end - c.self.inside.start + c.in_ok-count.count) c.self.inside.taken c.in_ok-taken.taken c.args.self.now
    c.self.view_is c.self.invariant.ordered c.self.invariant.within (omega (arith, c.read_behind.auto.bytes, ap length (with_items_is (with_items block moved) more more_length))) (omega arith)

pub returns-clause-none : goal.returns-clause-none
returns-clause-none g c = λ none.
    let block = c.self.inside.bytes in
    let moved = c.move_to_front.new.bytes in
    let more = c.read_behind.new.bytes in
    let waits = c.self.inside.end - c.self.inside.start in
    let moved_length : length moved ≡ block.len = c.move_to_front.auto.bytes ∙ c.deref_mut.ensures.len in
    let more_length : length more ≡ block.len = c.read_behind.auto.bytes ∙ c.deref_mut-2.ensures.len in
    let move : take waits moved ≡ take waits (drop c.self.inside.start block.items) =
    front_moved waits c.self.inside.start moved c.deref_mut.result.now block.items c.move_to_front.ensures c.deref_mut.ensures.value in
    let read : take waits more ≡ take waits moved =
    c.in_ok-count.ensures.front ∙ ap (take waits) (c.deref_mut-2.ensures.value ∙ with_items_is block moved moved_length) in
    let sum = sum_taken c.checked_add.result c.ok_or.result c.in_ok-taken.taken _ _ c.checked_add.ensures c.ok_or.ensures.ok_part c.in_ok-taken.was in
    let nothing : c.in_ok-count.count ≡ 0 = none_read c.in_ok-count.count none in
    same_waits block.items moved more (with_items (with_items block moved) more).items c.self.inside.start c.self.inside.end c.in_ok-count.count c.self.inside.taken c.in_ok-taken.taken c.args.self.now
    c.self.view_is (with_items_is (with_items block moved) more more_length) sum move read nothing

pub returns-clause-end : goal.returns-clause-end
returns-clause-end g c = λ none. c.in_ok-count.ensures.end (none_read c.in_ok-count.count none)

pub returns-in_err-count-clause-taken : goal.returns-in_err-count-clause-taken
returns-in_err-count-clause-taken g c =
    IfOk-from_err c.from_residual.result _ c.from_residual.ensures.0

pub returns-in_err-count-clause-more : goal.returns-in_err-count-clause-more
returns-in_err-count-clause-more g c =
    IfOk-from_err c.from_residual.result _ c.from_residual.ensures.0

pub returns-in_err-count-clause-end : goal.returns-in_err-count-clause-end
returns-in_err-count-clause-end g c =
    IfOk-from_err c.from_residual.result _ c.from_residual.ensures.0

pub returns-in_err-count-clause-none : goal.returns-in_err-count-clause-none
returns-in_err-count-clause-none g c =
    IfOk-from_err c.from_residual.result _ c.from_residual.ensures.0

pub returns-in_err-taken-clause-taken : goal.returns-in_err-taken-clause-taken
returns-in_err-taken-clause-taken g c =
    IfOk-from_err c.from_residual-in_err-taken.result _ c.from_residual-in_err-taken.ensures.0

pub returns-in_err-taken-clause-more : goal.returns-in_err-taken-clause-more
returns-in_err-taken-clause-more g c =
    IfOk-from_err c.from_residual-in_err-taken.result _ c.from_residual-in_err-taken.ensures.0

pub returns-in_err-taken-clause-end : goal.returns-in_err-taken-clause-end
returns-in_err-taken-clause-end g c =
    IfOk-from_err c.from_residual-in_err-taken.result _ c.from_residual-in_err-taken.ensures.0

pub returns-in_err-taken-clause-none : goal.returns-in_err-taken-clause-none
returns-in_err-taken-clause-none g c =
    IfOk-from_err c.from_residual-in_err-taken.result _ c.from_residual-in_err-taken.ensures.0

pub returns-in_err-count-clause-error : goal.returns-in_err-count-clause-error
returns-in_err-count-clause-error g c =
    of_source c.from_residual.result c.in_err-count.field-0.0 c.from_residual.ensures.1 c.in_err-count.ensures.failure.0

pub returns-in_err-count-clause-failure : goal.returns-in_err-count-clause-failure
returns-in_err-count-clause-failure g c =
    λ _. c.in_err-count.ensures.failure.1

pub returns-in_err-count-clause-stays : goal.returns-in_err-count-clause-stays
returns-in_err-count-clause-stays g c =
    failed_or_stays _ c.from_residual.result c.in_err-count.field-0.0 c.from_residual.ensures.1 (inl c.in_err-count.ensures.failure.0)

pub returns-in_err-count-clause-long : goal.returns-in_err-count-clause-long
returns-in_err-count-clause-long g c =
    λ long. absurd (read_not_long c.from_residual.result c.in_err-count.field-0.0 c.from_residual.ensures.1 c.in_err-count.ensures.failure.0 long)

pub returns-in_err-taken-clause-error : goal.returns-in_err-taken-clause-error
returns-in_err-taken-clause-error g c =
    too_long c.from_residual-in_err-taken.result c.in_err-taken.field-0.0 c.from_residual-in_err-taken.ensures.1
    (sum_refused c.checked_add.result c.ok_or.result c.in_err-taken.field-0.0 c.ok_or.ensures.value c.in_err-taken.was)

pub returns-in_err-taken-clause-failure : goal.returns-in_err-taken-clause-failure
returns-in_err-taken-clause-failure g c =
    λ read. absurd (long_not_read c.from_residual-in_err-taken.result c.in_err-taken.field-0.0 c.from_residual-in_err-taken.ensures.1
    (sum_refused c.checked_add.result c.ok_or.result c.in_err-taken.field-0.0 c.ok_or.ensures.value c.in_err-taken.was) read)

pub returns-in_err-taken-clause-stays : goal.returns-in_err-taken-clause-stays
returns-in_err-taken-clause-stays g c =
    inr c.in_ok-count.ensures.stays

pub returns-in_err-taken-clause-long : goal.returns-in_err-taken-clause-long
returns-in_err-taken-clause-long g c =
    λ _.
    let waits = c.self.inside.end - c.self.inside.start in
    let got = take c.in_ok-count.count (drop waits c.read_behind.new.bytes) in
    let exact : length got ≡ c.in_ok-count.count =
    length-take-le c.in_ok-count.count (drop waits c.read_behind.new.bytes)
    (omega (arith, c.in_ok-count.ensures.bound, c.read_behind.auto.bytes, length-drop waits c.read_behind.new.bytes)) in
    all_long c.args.self.now c.self.inside.taken c.in_ok-count.count got (g.R.Source.remaining c.args.source.now) (g.R.Source.remaining c.read_behind.new.source)
    (ap (λ (w : Waiting). w.taken) c.self.view_is) c.in_ok-count.ensures.read exact
    (too_large c.checked_add.result c.ok_or.result c.in_err-taken.field-0.0 _ c.checked_add.ensures c.ok_or.ensures.value c.in_err-taken.was)

pub returns-clause-error : goal.returns-clause-error
returns-clause-error g c =
    tt

pub returns-clause-failure : goal.returns-clause-failure
returns-clause-failure g c =
    λ same. absurd (no_error _ Read same)

pub returns-clause-long : goal.returns-clause-long
returns-clause-long g c =
    λ same. absurd (no_error _ TooLong same)

pub returns-clause-stays : goal.returns-clause-stays
returns-clause-stays g c =
    inr c.in_ok-count.ensures.stays

pub invariant_of-self : goal.invariant_of-self
invariant_of-self g c =
    let block = c.self.inside.bytes in
    let moved = c.move_to_front.new.bytes in
    let more = c.read_behind.new.bytes in
    let more_length : length more ≡ block.len = c.read_behind.auto.bytes ∙ c.deref_mut-2.ensures.len in
    let more_block : length more ≡ length block.items = more_length ∙ sym c.deref_mut.ensures.len ∙ ap length c.deref_mut.ensures.value in
    block_stays block.items (with_items (with_items block moved) more).items more (c.self.inside.end - c.self.inside.start) c.self.invariant.roomy
    (with_items_is (with_items block moved) more more_length) more_block (omega (arith, c.self.invariant.within))

pub invariant_of-self-in_err-taken : goal.invariant_of-self-in_err-taken
invariant_of-self-in_err-taken g c =
    let block = c.self.inside.bytes in
    let moved = c.move_to_front.new.bytes in
    let more = c.read_behind.new.bytes in
    let more_length : length more ≡ block.len = c.read_behind.auto.bytes ∙ c.deref_mut-2.ensures.len in
    let more_block : length more ≡ length block.items = more_length ∙ sym c.deref_mut.ensures.len ∙ ap length c.deref_mut.ensures.value in
    block_stays block.items (with_items (with_items block moved) more).items more (c.self.inside.end - c.self.inside.start) c.self.invariant.roomy
    (with_items_is (with_items block moved) more more_length) more_block (omega (arith, c.self.invariant.within))

pub invariant_of-self-2 : goal.invariant_of-self-2
invariant_of-self-2 g c =
    let block = c.self.inside.bytes in
    let moved = c.move_to_front.new.bytes in
    let more = c.read_behind.new.bytes in
    let more_length : length more ≡ block.len = c.read_behind.auto.bytes ∙ c.deref_mut-2.ensures.len in
    let more_block : length more ≡ length block.items = more_length ∙ sym c.deref_mut.ensures.len ∙ ap length c.deref_mut.ensures.value in
    block_stays block.items (with_items (with_items block moved) more).items more (c.self.inside.end - c.self.inside.start + c.in_ok-count.count) c.self.invariant.roomy
    (with_items_is (with_items block moved) more more_length) more_block (omega (arith, c.in_ok-count.ensures.bound, more_block))

pub returns-clause-more : goal.returns-clause-more
returns-clause-more g c = λ some.
    let sum = sum_taken c.checked_add.result c.ok_or.result c.in_ok-taken.taken _ _ c.checked_add.ensures c.ok_or.ensures.ok_part c.in_ok-taken.was in
    some_read c.in_ok-count.count _ _ c.self.inside.taken c.in_ok-taken.taken c.args.self.now.taken (returns-clause-counted g c) sum
    (ap (λ (w : Waiting). w.taken) c.self.view_is) some
