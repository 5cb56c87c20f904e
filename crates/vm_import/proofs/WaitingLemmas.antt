-- The bytes that wait, as they are used and as more are taken.
use Rattle.std.proofs.Common.{◌≡◌, ◌∙◌, ℕ, ◌+◌, ◌-◌, ◌≤◌, List, [], ◌++◌, length, take, drop, Option, Some, None, append_assoc, refl, sym, ap, arith}
use Rattle.std.proofs.Math.Seq.{take-add}
use Rattle.std.proofs.lemmas.List.{drop-drop, drop-take, length-append, length-drop, length-take-le}
use Rattle.std.specs.Io.KnownBytes.{Consumes, IsAtEnd, prepend_known}
use Rattle.std.specs.List.{after_first}
use Rattle.std.specs.Option.{option_map}
use Rattle.vm_import.specs.Logs.{is_line_end}
use Rattle.vm_import.specs.Reading.{Stays}
use Rattle.vm_import.specs.Waiting.{Waiting, IsTaken, all_of}

pub length_waiting : (bytes : List ℕ) (start end : ℕ) → start ≤ end → end ≤ length bytes → length (take (end - start) (drop start bytes)) ≡ end - start
length_waiting bytes start end ordered within =
    length-take-le (end - start) (drop start bytes) (omega (arith, length-drop start bytes))

-- fewer bytes wait once some are used
pub passed : (bytes : List ℕ) (start end count : ℕ) → start + count ≤ end
    → take (end - (start + count)) (drop (start + count) bytes) ≡ drop count (take (end - start) (drop start bytes))
passed bytes start end count within =
    let all : count + (end - (start + count)) ≡ end - start = omega arith in
    ap (take (end - (start + count))) (sym (drop-drop count start bytes))
    ∙ sym (drop-take count (end - (start + count)) (drop start bytes))
    ∙ ap (λ n. drop count (take n (drop start bytes))) all

stays_consumed : (old got : List ℕ) (before after : Option (List ℕ)) → Consumes before after got
    → Stays (prepend_known old before) (prepend_known (old ++ got) after)
stays_consumed old got None after taken = tt
stays_consumed old got (Some xs) None taken = absurd taken
stays_consumed old got (Some xs) (Some ys) taken = append_assoc old got ys ∙ ap (λ l. old ++ l) (sym taken)

stays_counted : (got : List ℕ) (total count : ℕ) (before after : Option (List ℕ)) → Consumes before after got → length got ≡ count
    → Stays (all_of total before) (all_of (total + count) after)
stays_counted got total count None after taken exact = tt
stays_counted got total count (Some xs) None taken exact = absurd taken
stays_counted got total count (Some xs) (Some ys) taken exact = omega (arith, ap length taken, length-append got ys)

-- what was read stands behind what waited
pub taken_more : (old got new : List ℕ) (total count : ℕ) (before after : Option (List ℕ)) → Consumes before after got → length got ≡ count
    → new ≡ old ++ got → IsTaken (record { bytes = old; taken = total }) before (record { bytes = new; taken = total + count }) after
taken_more old got new total count before after taken exact is = record {
  bytes = rw is (stays_consumed old got before after taken);
  all = stays_counted got total count before after taken exact;
}

pub Stays-same : {A : Type 0} (x : Option A) → Stays x x
Stays-same None = tt
Stays-same (Some x) = refl

pub Stays-then : {A : Type 0} (x y z : Option A) → Stays x y → Stays y z → Stays x z
Stays-then None y z p q = tt
Stays-then (Some x) None z p q = absurd p
Stays-then (Some x) (Some y) None p q = absurd q
Stays-then (Some x) (Some y) (Some z) p q = q ∙ p

pub Stays-map : {A B : Type 0} (f : A → B) (x y : Option A) → Stays x y → Stays (option_map f x) (option_map f y)
Stays-map f None y p = tt
Stays-map f (Some x) None p = absurd p
Stays-map f (Some x) (Some y) p = ap f p

pub IsTaken-same : (w : Waiting) (x : Option (List ℕ)) → IsTaken w x w x
IsTaken-same w x = record { bytes = Stays-same _; all = Stays-same _ }

pub IsTaken-then : (u v w : Waiting) (x y z : Option (List ℕ)) → IsTaken u x v y → IsTaken v y w z → IsTaken u x w z
IsTaken-then u v w x y z p q = record {
  bytes = Stays-then _ (prepend_known v.bytes y) _ p.bytes q.bytes;
  all = Stays-then _ (all_of v.taken y) _ p.all q.all;
}

-- no more is known to come
pub behind_end : (old : List ℕ) (x : Option (List ℕ)) → IsAtEnd x → ((more : List ℕ) → after_first is_line_end (old ++ more) ≡ after_first is_line_end more)
    → Stays (option_map (after_first is_line_end) (prepend_known old x)) (prepend_known [] x)
behind_end old None end beyond = tt
behind_end old (Some xs) end beyond = rw (beyond xs, end) refl

-- the line ends among the bytes that wait
pub behind_here : (old new : List ℕ) (x : Option (List ℕ)) → ((more : List ℕ) → after_first is_line_end (old ++ more) ≡ new ++ more)
    → Stays (option_map (after_first is_line_end) (prepend_known old x)) (prepend_known new x)
behind_here old new None there = tt
behind_here old new (Some xs) there = sym (there xs)

-- the line goes on beyond them
pub behind_beyond_them : (old : List ℕ) (x : Option (List ℕ)) → ((more : List ℕ) → after_first is_line_end (old ++ more) ≡ after_first is_line_end more)
    → Stays (option_map (after_first is_line_end) (prepend_known old x)) (option_map (after_first is_line_end) (prepend_known [] x))
behind_beyond_them old None beyond = tt
behind_beyond_them old (Some xs) beyond = sym (beyond xs)

pub Waiting-same : (a b : List ℕ) (m n : ℕ) → a ≡ b → m ≡ n → (let old : Waiting = record { bytes = a; taken = m } in old) ≡ record { bytes = b; taken = n }
Waiting-same a b m n p q = λ i. record { bytes = p i; taken = q i }

-- what was read stands behind what waited, which was moved to the front
pub front_and_more : (block moved more : List ℕ) (start end count : ℕ) → take (end - start) moved ≡ take (end - start) (drop start block)
    → take (end - start) more ≡ take (end - start) moved
    → take (end - start + count) more ≡ take (end - start) (drop start block) ++ take count (drop (end - start) more)
front_and_more block moved more start end count move read =
    take-add (end - start) count more ∙ ap (λ l. l ++ take count (drop (end - start) more)) (read ∙ move)
