-- Uses from the first to the last.
use Rattle.std.proofs.Common.{◌≡◌, ◌∙◌, ℕ, zero, suc, ◌+◌, ◌-◌, ◌<◌, ◌≤◌, Bool, true, false, List, [], ◌∷◌, ◌++◌, Option, Some, None, length, map, append_assoc, replicate, refl, sym, ap, subst, arith}
use Rattle.std.proofs.lemmas.List.{append-nil, length-append}
use Rattle.vm_log.specs.Epochs.{absent_first, unless_last, without_end, without_front}

-- so many epochs without a use
abbrev pub nones : ℕ → List (Option ℕ)
nones count = replicate count None

pub length-nones : (count : ℕ) → length (nones count) ≡ count
length-nones zero = refl
length-nones (suc count) = ap suc (length-nones count)

-- from the first to the last that has a use
abbrev pub trimmed : List (Option ℕ) → List (Option ℕ)
trimmed uses = without_end (without_front uses)

-- ---- one more without a use

unless-more : (u : Option ℕ) (uses : List (Option ℕ)) → unless_last u (without_end (uses ++ None ∷ [])) ≡ unless_last u (without_end uses) → without_end ((u ∷ uses) ++ None ∷ []) ≡ without_end (u ∷ uses)
unless-more u uses e = e

pub end-none : (uses : List (Option ℕ)) → without_end (uses ++ None ∷ []) ≡ without_end uses
end-none [] = refl
end-none (u ∷ uses) = ap (unless_last u) (end-none uses)

pub trim-none : (uses : List (Option ℕ)) → trimmed (uses ++ None ∷ []) ≡ trimmed uses
trim-none [] = refl
trim-none (None ∷ uses) = trim-none uses
trim-none (Some u ∷ uses) = end-none (Some u ∷ uses)

-- ---- one more with a use

unless-kept : (u : Option ℕ) (uses : List (Option ℕ)) (x : ℕ) → unless_last u (uses ++ Some x ∷ []) ≡ u ∷ (uses ++ Some x ∷ [])
unless-kept None [] x = refl
unless-kept None (v ∷ uses) x = refl
unless-kept (Some u) uses x = refl

pub end-some : (uses : List (Option ℕ)) (x : ℕ) → without_end (uses ++ Some x ∷ []) ≡ uses ++ Some x ∷ []
end-some [] x = refl
end-some (u ∷ uses) x = ap (unless_last u) (end-some uses x) ∙ unless-kept u uses x

front-some : (uses : List (Option ℕ)) (x : ℕ) → without_front (uses ++ Some x ∷ []) ≡ without_front uses ++ Some x ∷ []
front-some [] x = refl
front-some (None ∷ uses) x = front-some uses x
front-some (Some u ∷ uses) x = refl

-- what the end lacks is without a use
end-split : (uses : List (Option ℕ)) → uses ≡ without_end uses ++ nones (length uses - length (without_end uses))
end-split [] = refl
end-split (u ∷ uses) = go u (without_end uses) (end-split uses)
  where
    go : (u : Option ℕ) (rest : List (Option ℕ)) → uses ≡ rest ++ nones (length uses - length rest) → u ∷ uses ≡ unless_last u rest ++ nones (length (u ∷ uses) - length (unless_last u rest))
    go None [] e =
        let k : suc (length uses - 0) ≡ length (None ∷ uses) - 0 = omega arith in
        ap (λ l. None ∷ l) e ∙ ap nones k
    go None (v ∷ rest) e =
        let k : length uses - length (v ∷ rest) ≡ length (None ∷ uses) - length (None ∷ v ∷ rest) = omega arith in
        ap (λ l. None ∷ l) e ∙ ap (λ (n : ℕ). None ∷ ((v ∷ rest) ++ nones n)) k
    go (Some x) rest e =
        let k : length uses - length rest ≡ length (Some x ∷ uses) - length (Some x ∷ rest) = omega arith in
        ap (λ l. Some x ∷ l) e ∙ ap (λ (n : ℕ). Some x ∷ (rest ++ nones n)) k

-- how many are in front, and from there on
pub front-split : (uses : List (Option ℕ)) → absent_first uses + length (without_front uses) ≡ length uses
front-split [] = refl
front-split (None ∷ uses) = let e = front-split uses in omega (arith, e)
front-split (Some u ∷ uses) = omega arith

pub trim-some : (uses : List (Option ℕ)) (x : ℕ)
    → trimmed (uses ++ Some x ∷ []) ≡ trimmed uses ++ (nones (length uses - absent_first uses - length (trimmed uses)) ++ Some x ∷ [])
trim-some uses x =
    let front = without_front uses in
    let gap : length front - length (trimmed uses) ≡ length uses - absent_first uses - length (trimmed uses) = omega (arith, front-split uses) in
    ap without_end (front-some uses x)
    ∙ (end-some front x
    ∙ (ap (λ l. l ++ Some x ∷ []) (end-split front)
    ∙ (append_assoc (trimmed uses) (nones (length front - length (trimmed uses))) (Some x ∷ [])
    ∙ ap (λ (n : ℕ). trimmed uses ++ (nones n ++ Some x ∷ [])) gap)))

-- ---- how many are in front, with one more

-- where there was a use the first stays
pub first-stays : (uses : List (Option ℕ)) (u : Option ℕ) → 0 < length (trimmed uses) → absent_first (uses ++ u ∷ []) ≡ absent_first uses
first-stays [] u some = absurd (omega arith)
first-stays (None ∷ uses) u some = ap (λ n. 1 + n) (first-stays uses u some)
first-stays (Some x ∷ uses) u some = refl

some-kept : (x : ℕ) (uses : List (Option ℕ)) → 0 < length (without_end (Some x ∷ uses))
some-kept x uses = omega arith

-- where there was none, all are in front
pub first-all : (uses : List (Option ℕ)) → length (trimmed uses) ≡ 0 → absent_first uses ≡ length uses
first-all [] none = refl
first-all (None ∷ uses) none = let e = first-all uses none in omega (arith, e)
first-all (Some x ∷ uses) none = let some = some-kept x uses in absurd (omega (arith, some, none))

first-next : (uses : List (Option ℕ)) (x : ℕ) → length (trimmed uses) ≡ 0 → absent_first (uses ++ Some x ∷ []) ≡ absent_first uses
first-next [] x none = refl
first-next (None ∷ uses) x none = ap (λ n. 1 + n) (first-next uses x none)
first-next (Some y ∷ uses) x none = refl

-- with a use more the first stays in any case
pub first-some : (uses : List (Option ℕ)) (x : ℕ) → absent_first (uses ++ Some x ∷ []) ≡ absent_first uses
first-some [] x = refl
first-some (None ∷ uses) x = ap (λ n. 1 + n) (first-some uses x)
first-some (Some y ∷ uses) x = refl
