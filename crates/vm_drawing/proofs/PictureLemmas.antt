-- One number, one shape, one piece more.
use Rattle.std.proofs.Common.{◌≡◌, ℕ, zero, suc, ◌+◌, ◌<◌, ◌≤◌, List, ◌∷◌, [], ◌++◌, Result, Ok, Err, OnOk, ap, ◌∙◌, sym, arith, append_assoc, drop, get_or, length, refl}
use Rattle.std.proofs.lemmas.List.{append-nil, drop_all, drop_more, flat_map_more}
use Rattle.std.proofs.lemmas.List.Concat.{flat_map-append}
use Rattle.std.specs.List.{flat_map, range_with_len}
use Rattle.vm_drawing.specs.Shapes.{Shape, shape_text, shapes_text}

range_more : (a n : ℕ) → range_with_len a (suc n) ≡ range_with_len a n ++ (a + n) ∷ []
range_more a zero = ap (λ (k : ℕ). k ∷ []) (omega arith)
range_more a (suc n) =
    ap (λ (l : List ℕ). a ∷ l) (range_more (a + 1) n ∙ ap (λ (k : ℕ). range_with_len (a + 1) n ++ k ∷ []) (omega arith))

positions_more : (n : ℕ) → range_with_len 0 (n + 1) ≡ range_with_len 0 n ++ n ∷ []
positions_more n =
    let next : n + 1 ≡ suc n = omega arith in
    let same : 0 + n ≡ n = omega arith in
    ap (range_with_len 0) next ∙ range_more 0 n ∙ ap (λ (k : ℕ). range_with_len 0 n ++ k ∷ []) same

-- what is done of n numbers, and of one more
pub one_more : {X : Type 0} (f : ℕ → List X) (n : ℕ) (start old new : List X) → old ≡ start ++ flat_map f (range_with_len 0 n)
    → new ≡ old ++ f n → new ≡ start ++ flat_map f (range_with_len 0 (n + 1))
one_more f n start old new so_far more =
    more ∙ ap (λ (l : List _). l ++ f n) so_far ∙ flat_map_more f start (range_with_len 0 n) n
    ∙ ap (λ (l : List ℕ). start ++ flat_map f l) (sym (positions_more n))

-- ---- the text of shapes

pub text-append : (xs ys : List Shape) → shapes_text (xs ++ ys) ≡ shapes_text xs ++ shapes_text ys
text-append xs ys = flat_map-append shape_text xs ys

-- the shapes of n numbers, and of one more
pub shapes_more : (f : ℕ → List Shape) (n : ℕ) (start old new : List ℕ) → old ≡ start ++ shapes_text (flat_map f (range_with_len 0 n))
    → new ≡ old ++ shapes_text (f n) → new ≡ start ++ shapes_text (flat_map f (range_with_len 0 (n + 1)))
shapes_more f n start old new so_far more =
    let shapes : flat_map f (range_with_len 0 n) ++ f n ≡ flat_map f (range_with_len 0 (n + 1)) =
    one_more f n [] (flat_map f (range_with_len 0 n)) (flat_map f (range_with_len 0 n) ++ f n) refl refl in
    more ∙ ap (λ (l : List ℕ). l ++ shapes_text (f n)) so_far ∙ append_assoc start (shapes_text (flat_map f (range_with_len 0 n))) (shapes_text (f n))
    ∙ ap (λ (l : List ℕ). start ++ l) (sym (text-append (flat_map f (range_with_len 0 n)) (f n)) ∙ ap shapes_text shapes)

-- ---- elements of which those that are left complete the text

-- what is left, by its first element: any d that stands there
pub left_from : {X : Type 0} (xs : List X) (i : ℕ) (d : X) → i < length xs → d ≡ get_or xs i d → drop i xs ≡ d ∷ drop (i + 1) xs
left_from xs i d less is = drop_more xs i d less ∙ ap (λ x. x ∷ drop (i + 1) xs) (sym is)

-- the text of one more element, and of what is left
pub one_written : {X : Type 0} (f : List X → List Shape) (xs : List X) (i : ℕ) (d : X) (old new whole : List ℕ)
    (piece rest : List Shape) → i < length xs → d ≡ get_or xs i d → f (d ∷ drop (i + 1) xs) ≡ piece ++ rest
    → new ≡ old ++ shapes_text piece → old ++ shapes_text (f (drop i xs)) ≡ whole → new ++ shapes_text rest ≡ whole
one_written f xs i d old new whole piece rest less is first more so_far =
    ap (λ l. l ++ shapes_text rest) more ∙ append_assoc old (shapes_text piece) (shapes_text rest)
    ∙ ap (λ l. old ++ l) (sym (text-append piece rest))
    ∙ ap (λ l. old ++ shapes_text l) (sym (ap f (left_from xs i d less is) ∙ first)) ∙ so_far

-- none is left
pub all_written : {X : Type 0} (f : List X → List Shape) (xs : List X) (i : ℕ) (text whole : List ℕ) → length xs ≤ i → f [] ≡ []
    → text ++ shapes_text (f (drop i xs)) ≡ whole → text ≡ whole
all_written f xs i text whole past none so_far =
    sym (append-nil text) ∙ ap (λ l. text ++ shapes_text l) (sym (ap f (drop_all i xs past) ∙ none)) ∙ so_far

-- ---- one after another

-- a call, if it succeeded, left this list with that at its end
pub record Extends {T E A : Type 0} (r : Result T E) (old new more : List A) : Type 0 where
  pub is : OnOk r (new ≡ old ++ more)

begun_with : {T E A : Type 0} (r : Result T E) (a b c x y : List A) → b ≡ a ++ x → OnOk r (c ≡ b ++ y)
    → OnOk r (c ≡ a ++ (x ++ y))
begun_with (Err e) a b c x y so_far more = tt
begun_with (Ok v) a b c x y so_far more = more ∙ ap (λ l. l ++ y) so_far ∙ append_assoc a x y

ended_with : {T E A : Type 0} (r : Result T E) (b c y known : List A) → y ≡ known → OnOk r (c ≡ b ++ y) → OnOk r (c ≡ b ++ known)
ended_with (Err e) b c y known same more = tt
ended_with (Ok v) b c y known same more = more ∙ ap (λ l. b ++ l) same

-- the last piece
pub last_piece : {T E A : Type 0} (r : Result T E) (b c y known : List A) → y ≡ known → OnOk r (c ≡ b ++ y) → Extends r b c known
last_piece r b c y known same more = record { is = ended_with r b c y known same more }

-- a piece before others
pub before : {T E A : Type 0} {r : Result T E} {b c y : List A} (a x known : List A) → x ≡ known → b ≡ a ++ x → Extends r b c y
    → Extends r a c (known ++ y)
before {r = r} {b = b} {c = c} {y = y} a x known same so_far rest =
    record { is = begun_with r a b c known y (so_far ∙ ap (λ l. a ++ l) same) rest.is }

-- what a call left, in other words
pub known_as : {T E A : Type 0} {r : Result T E} {old new more : List A} (known : List A) → more ≡ known → Extends r old new more
    → OnOk r (new ≡ old ++ known)
known_as {r = r} {old = old} {new = new} {more = more} known same rest = ended_with r old new more known same rest.is

-- the text of four lists of shapes, and of five
text-of_four : (a b c d : List Shape)
    → shapes_text a ++ (shapes_text b ++ (shapes_text c ++ shapes_text d)) ≡ shapes_text (a ++ (b ++ (c ++ d)))
text-of_four a b c d =
    sym (text-append a (b ++ (c ++ d)) ∙ ap (λ l. shapes_text a ++ l) (text-append b (c ++ d)
    ∙ ap (λ l. shapes_text b ++ l) (text-append c d)))

pub text-of_five : (a b c d e : List Shape)
    → shapes_text a ++ (shapes_text b ++ (shapes_text c ++ (shapes_text d ++ shapes_text e)))
    ≡ shapes_text (a ++ (b ++ (c ++ (d ++ e))))
text-of_five a b c d e =
    ap (λ l. shapes_text a ++ l) (text-of_four b c d e) ∙ sym (text-append a (b ++ (c ++ (d ++ e))))

-- a head, three pieces of a body, and an end
pub body_within : (t1 t2 t3 t4 t5 a b c d e : List ℕ) → t1 ≡ a → t2 ≡ t1 ++ b → t3 ≡ t2 ++ c → t4 ≡ t3 ++ d → t5 ≡ t4 ++ e
    → t5 ≡ a ++ ((b ++ (c ++ d)) ++ e)
body_within t1 t2 t3 t4 t5 a b c d e first second third fourth fifth =
    let two : t2 ≡ a ++ b = second ∙ ap (λ l. l ++ b) first in
    let three : t3 ≡ a ++ (b ++ c) = third ∙ ap (λ l. l ++ c) two ∙ append_assoc a b c in
    let four : t4 ≡ a ++ (b ++ (c ++ d)) =
    fourth ∙ ap (λ l. l ++ d) three ∙ append_assoc a (b ++ c) d ∙ ap (λ l. a ++ l) (append_assoc b c d) in
    fifth ∙ ap (λ l. l ++ e) four ∙ append_assoc a (b ++ (c ++ d)) e
