-- What more samples tell of a domain.
use Rattle.std.proofs.Common.{◌≡◌, ◌∙◌, ℕ, ◌+◌, List, [], ◌∷◌, ◌++◌, Option, Some, None, max, option_map, unwrap_or, refl, sym, ap, arith}
use Rattle.vm_steer.specs.declared.fate.SteeredDomain.{SteeredDomain}
use Rattle.vm_steer.specs.Entries.{EntryView}
use Rattle.vm_log.specs.Seen.{greater, greatest, left_in, most_left, steered_in}

pub greater-none : (a : Option ℕ) → greater a None ≡ a
greater-none None = refl
greater-none (Some x) = refl

max_through : (x y z : ℕ) → max x (max y z) ≡ max (max x y) z
max_through x y z = omega arith

greater-through : (a b c : Option ℕ) → greater a (greater b c) ≡ greater (greater a b) c
greater-through None b c = refl
greater-through (Some x) None c = refl
greater-through (Some x) (Some y) None = refl
greater-through (Some x) (Some y) (Some z) = ap Some (max_through x y z)

pub greatest-append : (number : SteeredDomain → ℕ) (name : List ℕ) (a b : List (List EntryView)) → greatest number name (a ++ b) ≡ greater (greatest number name a) (greatest number name b)
greatest-append number name [] b = refl
greatest-append number name (s ∷ a) b =
    ap (greater (option_map number (steered_in name s))) (greatest-append number name a b)
    ∙ greater-through (option_map number (steered_in name s)) (greatest number name a) (greatest number name b)

-- one sample more
pub greatest-more : (number : SteeredDomain → ℕ) (name : List ℕ) (a : List (List EntryView)) (s : List EntryView)
    → greatest number name (a ++ s ∷ []) ≡ greater (greatest number name a) (option_map number (steered_in name s))
greatest-more number name a s =
    greatest-append number name a (s ∷ []) ∙ ap (greater (greatest number name a)) (greater-none (option_map number (steered_in name s)))

pub unwrap-greater : (a b : Option ℕ) → unwrap_or (greater a b) 0 ≡ max (unwrap_or a 0) (unwrap_or b 0)
unwrap-greater None None = refl
unwrap-greater None (Some y) = omega arith
unwrap-greater (Some x) None = omega arith
unwrap-greater (Some x) (Some y) = refl

pub most-append : (name : List ℕ) (a b : List (List EntryView)) → most_left name (a ++ b) ≡ max (most_left name a) (most_left name b)
most-append name [] b = omega arith
most-append name (s ∷ a) b =
    ap (max (left_in name s)) (most-append name a b) ∙ max_through (left_in name s) (most_left name a) (most_left name b)

pub most-more : (name : List ℕ) (a : List (List EntryView)) (s : List EntryView) → most_left name (a ++ s ∷ []) ≡ max (most_left name a) (left_in name s)
most-more name a s =
    let one : max (left_in name s) 0 ≡ left_in name s = omega arith in
    most-append name a (s ∷ []) ∙ ap (max (most_left name a)) one
