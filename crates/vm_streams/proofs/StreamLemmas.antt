-- What two writes or two reads in a row do to the known bytes.
use Rattle.std.proofs.Common.{◌≡◌, ℕ, ◌+◌, ◌-◌, ◌≤◌, inl, inr, List, ◌++◌, length, take, drop, Option, Some, None, ap, ◌∙◌, sym, arith, append_assoc, length-drop}
use Rattle.std.proofs.Math.Seq.{take-add, take-append-add}
use Rattle.std.proofs.lemmas.Bool.{cases_lt}
use Rattle.std.proofs.lemmas.List.{take_all, take-append-le, append-nil}
use Rattle.std.specs.Prelude.{Result, Ok, Err}
use Rattle.std.specs.Io.KnownBytes.{Appends, Consumes, Keeps, WriteAppends}
use Rattle.vm_streams.specs.Streams.{AppendsFront}

pub Appends-then : (x y z : Option (List ℕ)) (a b : List ℕ) → Appends x y a → Appends y z b → Appends x z (a ++ b)
Appends-then None y z a b p q = tt
Appends-then (Some xs) None z a b p q = absurd p
Appends-then (Some xs) (Some ys) None a b p q = absurd q
Appends-then (Some xs) (Some ys) (Some zs) a b p q = q ∙ ap (λ l. l ++ b) p ∙ append_assoc xs a b

pub Appends-then_keeps : (x y z : Option (List ℕ)) (a : List ℕ) → Appends x y a → Keeps y z → Appends x z a
Appends-then_keeps None y z a p q = tt
Appends-then_keeps (Some xs) None z a p q = absurd p
Appends-then_keeps (Some xs) (Some ys) None a p q = absurd q
Appends-then_keeps (Some xs) (Some ys) (Some zs) a p q = q ∙ p

-- the front of the text, and then the front of the rest
pub Appends-take_more : (x y z : Option (List ℕ)) (text : List ℕ) (m n : ℕ)
    → Appends x y (take m text) → Appends y z (take n (take (length text - m) (drop m text))) → Appends x z (take (m + n) text)
Appends-take_more x y z text m n p q =
    let short : length (drop m text) ≤ length text - m = omega (arith, length-drop m text) in
    rw (take-add m n text) (Appends-then x y z _ _ p (rw (take_all (length text - m) (drop m text) short) at q))

pub Consumes-then : (x y z : Option (List ℕ)) (a b : List ℕ) → Consumes x y a → Consumes y z b → Consumes x z (a ++ b)
Consumes-then None y z a b p q = tt
Consumes-then (Some xs) None z a b p q = absurd p
Consumes-then (Some xs) (Some ys) None a b p q = absurd q
Consumes-then (Some xs) (Some ys) (Some zs) a b p q = p ∙ ap (λ l. a ++ l) q ∙ sym (append_assoc a b zs)

-- nothing is a front of any text
pub AppendsFront-none : (x : Option (List ℕ)) (text : List ℕ) → AppendsFront x x text
AppendsFront-none None text = (0, tt)
AppendsFront-none (Some xs) text = (0, sym (append-nil xs))

front_of_longer : (text more : List ℕ) (count : ℕ) → (shorter : ℕ) × (take shorter (text ++ more) ≡ take count text)
front_of_longer text more count =
    elim (cases_lt (length text) count) [
      | inr h ↦ (count, take-append-le count text more h)
      | inl h ↦ (length text, take-append-le (length text) text more (omega arith) ∙ take_all (length text) text (omega arith) ∙ sym (take_all count text (omega arith)))
    ]

-- what is a front of a text is a front of a longer one
pub AppendsFront-longer : (x y : Option (List ℕ)) (text more : List ℕ) → AppendsFront x y text → AppendsFront x y (text ++ more)
AppendsFront-longer x y text more front =
    let p = front_of_longer text more front.0 in (p.0, rw p.1 front.1)

-- a part of the text, and then a front of the rest
pub Appends-then_front : (x y z : Option (List ℕ)) (a text : List ℕ) → Appends x y a → AppendsFront y z text → AppendsFront x z (a ++ text)
Appends-then_front x y z a text done front =
    (length a + front.0, rw (take-append-add a text front.0) (Appends-then x y z _ _ done front.1))

-- a front of the text, and then one more write of the rest, whatever it answers
pub AppendsFront-write : {E : Type 0} (x y z : Option (List ℕ)) (text : List ℕ) (m : ℕ) (r : Result ℕ E)
    → Appends x y (take m text) → WriteAppends y z r (take (length text - m) (drop m text)) → AppendsFront x z text
AppendsFront-write x y z text m (Ok n) p q = (m + n, Appends-take_more x y z text m n p q)
AppendsFront-write x y z text m (Err e) p q = (m, Appends-then_keeps x y z (take m text) p q)
