-- How the domains of a sample change from line to line.
use Rattle.std.proofs.Common.{◌≡◌, ◌∙◌, ℕ, suc, ◌+◌, ◌-◌, ◌<◌, nat_eq, List, [], ◌∷◌, ◌++◌, length, get_or, set, slice_index, codes, Bool, true, false, cond, Option, Some, None, Result, Ok, Err, inl, inr, refl, sym, ap, arith}
use Rattle.std.proofs.lemmas.Bool.{cond-false, cond-true, eqb-true, false_from_ne_true, lt-ltb, ne_eqb}
use Rattle.std.specs.List.{prefix_len}
use Rattle.std.proofs.lemmas.List.{length-append}
use Rattle.vm_samples.specs.declared.field.Field.{Field}
use Rattle.vm_samples.specs.declared.line.LineError.{LineError}
use Rattle.vm_samples.specs.declared.line.LineError.TheVariants.{Bad, Memory}
use Rattle.vm_samples.specs.declared.sample.SampleError.{SampleError}
use Rattle.vm_samples.specs.declared.sample.BadLine.{BadLine}
use Rattle.vm_samples.specs.declared.sample.BadLine.TheVariants.{NotALine, NotANumber, TooManyDomains}
use Rattle.vm_samples.specs.declared.sample.BadSample.{BadSample}
use Rattle.vm_samples.specs.Outcomes.{◌>>=◌}
use Rattle.vm_samples.specs.SampleLines.{KeyView, begins_with, behind_spaces, is_space, domain_name, domain_named, field_of, key_line, number_of, with_field, with_key, with_last, with_line, with_number, with_told, with_value}
use Rattle.vm_samples.specs.SampleOf.{at_line, bad_at, domains_from, judged, ReadsSample}
use Rattle.vm_samples.specs.Samples.{DomainView}
use Rattle.vm_samples.specs.Steps.{GoesOn, IsAdded, IsBad, error_at}

-- the last one is at the last place
pub with_last-set : (change : DomainView → DomainView) (domains : List DomainView) (d : DomainView) → 0 < length domains
    → with_last change domains ≡ set domains (length domains - 1) (change (get_or domains (length domains - 1) d))
with_last-set change [] d some = absurd (omega arith)
with_last-set change (domain ∷ []) d some = refl
with_last-set change (domain ∷ next ∷ domains) d some =
    let place : suc (suc (length domains)) - 1 ≡ suc (length domains) = omega arith in
    let inner : suc (length domains) - 1 ≡ length domains = omega arith in
    let rest = with_last-set change (next ∷ domains) d (omega arith) in
    rw place (ap (λ ds. domain ∷ ds) (rest ∙ ap (λ (k : ℕ). set (next ∷ domains) k (change (get_or (next ∷ domains) k d))) inner))

-- ---- lengths

last_length : (change : DomainView → DomainView) (domains : List DomainView) → length (with_last change domains) ≡ length domains
last_length change [] = refl
last_length change (domain ∷ []) = refl
last_length change (domain ∷ next ∷ domains) = ap suc (last_length change (next ∷ domains))

-- ---- beyond 256 domains only how they are told apart from others counts: they aren't

-- the same comes of both, or both stay beyond
abbrev Alike : Result (List DomainView) BadLine → Result (List DomainView) BadLine → Type 0
Alike (Ok a) (Ok b) = (256 < length a) × (256 < length b)
Alike (Ok a) (Err f) = ⊥
Alike (Err e) (Ok b) = ⊥
Alike (Err e) (Err f) = e ≡ f

number_alike : (field : Field) (number : Option ℕ) (a b : List DomainView) → 256 < length a → 256 < length b
    → Alike (with_number field number a) (with_number field number b)
number_alike field None a b many_a many_b = refl
number_alike field (Some number) a b many_a many_b =
    (omega (arith, last_length (with_value field number) a), omega (arith, last_length (with_value field number) b))

field_alike : (field : Option Field) (value : List ℕ) (a b : List DomainView) → 256 < length a → 256 < length b
    → Alike (with_field field value a) (with_field field value b)
field_alike None value a b many_a many_b = (many_a, many_b)
field_alike (Some field) value a b many_a many_b = number_alike field (number_of value) a b many_a many_b

key_alike : (line : Option KeyView) (a b : List DomainView) → 256 < length a → 256 < length b → Alike (with_key line a) (with_key line b)
key_alike None a b many_a many_b = refl
key_alike (Some line) [] b many_a many_b = absurd (omega arith)
key_alike (Some line) (x ∷ a) [] many_a many_b = absurd (omega arith)
key_alike (Some line) (x ∷ a) (y ∷ b) many_a many_b = field_alike (field_of line.key) line.value (x ∷ a) (y ∷ b) many_a many_b

told_alike : (name : Option (List ℕ)) (line : List ℕ) (a b : List DomainView) → 256 < length a → 256 < length b
    → Alike (with_told name line a) (with_told name line b)
told_alike (Some name) line a b many_a many_b =
    (omega (arith, length-append a (domain_named name ∷ [])), omega (arith, length-append b (domain_named name ∷ [])))
told_alike None line a b many_a many_b = key_alike (key_line line) a b many_a many_b

line_alike : (empty : Bool) (line : List ℕ) (a b : List DomainView) → 256 < length a → 256 < length b
    → Alike (cond empty (Ok a) (with_told (domain_name line) line a)) (cond empty (Ok b) (with_told (domain_name line) line b))
line_alike true line a b many_a many_b = (many_a, many_b)
line_alike false line a b many_a many_b = told_alike (domain_name line) line a b many_a many_b

judged_beyond : (number : ℕ) (a : List DomainView) → 256 < length a → judged number a ≡ Err (bad_at number TooManyDomains)
judged_beyond number [] many = absurd (omega arith)
judged_beyond number (x ∷ a) many = rw (lt-ltb 256 (length (x ∷ a)) many) refl

beyond_next : (lines : List (List ℕ)) (number : ℕ) (ra rb : Result (List DomainView) BadLine) → Alike ra rb
    → ((x y : List DomainView) → 256 < length x → 256 < length y → domains_from (number + 1) lines x ≡ domains_from (number + 1) lines y)
    → (at_line number ra >>= (λ told. domains_from (number + 1) lines told))
    ≡ (at_line number rb >>= (λ told. domains_from (number + 1) lines told))
beyond_next lines number (Ok x) (Ok y) alike rest = rest x y alike.0 alike.1
beyond_next lines number (Ok x) (Err f) alike rest = absurd alike
beyond_next lines number (Err e) (Ok y) alike rest = absurd alike
beyond_next lines number (Err e) (Err f) alike rest = ap (λ what. Err (bad_at number what)) alike

-- whatever lines follow, the same sample comes of both
pub beyond_alike : (lines : List (List ℕ)) (number : ℕ) (a b : List DomainView) → 256 < length a → 256 < length b
    → domains_from number lines a ≡ domains_from number lines b
beyond_alike [] number a b many_a many_b = judged_beyond number a many_a ∙ sym (judged_beyond number b many_b)
beyond_alike (line ∷ lines) number a b many_a many_b =
    beyond_next lines number (with_line line a) (with_line line b) (line_alike (nat_eq (length line) 0) line a b many_a many_b)
    (λ (x y : List DomainView) many_x many_y. beyond_alike lines (number + 1) x y many_x many_y)

-- ---- one line

-- a line that makes such domains
pub goes_on : (line : List ℕ) (old new : List DomainView) → with_line line old ≡ Ok new → GoesOn line old new
goes_on line old new is = λ number lines. ap (λ r. at_line number r >>= (λ told. domains_from (number + 1) lines told)) is

with_told_line : (line : List ℕ) (name : Option (List ℕ)) (domains : List DomainView) → nat_eq (length line) 0 ≡ false → domain_name line ≡ name
    → with_line line domains ≡ with_told name line domains
with_told_line line name domains some is = cond-false _ _ _ some ∙ ap (λ n. with_told n line domains) is

-- an empty one
pub empty_goes_on : (line : List ℕ) (domains : List DomainView) → nat_eq (length line) 0 ≡ true → GoesOn line domains domains
empty_goes_on line domains empty = goes_on line domains domains (cond-true _ _ _ empty)

-- one of a domain
pub domain_goes_on : (line name : List ℕ) (old new : List DomainView) → nat_eq (length line) 0 ≡ false → domain_name line ≡ Some name
    → IsAdded (domain_named name) old new → GoesOn line old new
domain_goes_on line name old new some is (inl added) = goes_on line old new (with_told_line line (Some name) old some is ∙ ap Ok (sym added))
domain_goes_on line name old new some is (inr same) =
    λ number lines. goes_on line old (old ++ domain_named name ∷ []) (with_told_line line (Some name) old some is) number lines
    ∙ beyond_alike lines (number + 1) (old ++ domain_named name ∷ []) new
    (omega (arith, same.0, length-append old (domain_named name ∷ []))) (omega (arith, same.0, ap length same.1))

pub with_key_line : (line : List ℕ) (key : Option KeyView) (domains : List DomainView) → nat_eq (length line) 0 ≡ false → domain_name line ≡ None
    → key_line line ≡ key → with_line line domains ≡ with_key key domains
with_key_line line key domains some none is = with_told_line line None domains some none ∙ ap (λ k. with_key k domains) is

-- one of a key
pub key_goes_on : (line : List ℕ) (key : KeyView) (old new : List DomainView) → nat_eq (length line) 0 ≡ false → domain_name line ≡ None
    → key_line line ≡ Some key → with_key (Some key) old ≡ Ok new → GoesOn line old new
key_goes_on line key old new some none is told = goes_on line old new (with_key_line line (Some key) old some none is ∙ told)

-- one that is bad
pub key_is_bad : (line : List ℕ) (key : KeyView) (old : List DomainView) (what : BadLine) → nat_eq (length line) 0 ≡ false → domain_name line ≡ None
    → key_line line ≡ Some key → with_key (Some key) old ≡ Err what → with_line line old ≡ Err what
key_is_bad line key old what some none is told = with_key_line line (Some key) old some none is ∙ told

pub other_is_bad : (line : List ℕ) (old : List DomainView) → nat_eq (length line) 0 ≡ false → domain_name line ≡ None → key_line line ≡ None
    → with_line line old ≡ Err NotALine
other_is_bad line old some none is = with_key_line line None old some none is

-- ---- the keys

first_told : (key : KeyView) (old : List DomainView) → 0 < length old → with_key (Some key) old ≡ with_field (field_of key.key) key.value old
first_told key [] some = absurd (omega arith)
first_told key (domain ∷ domains) some = refl

pub no_field : (key : KeyView) (old : List DomainView) → 0 < length old → field_of key.key ≡ None → with_key (Some key) old ≡ Ok old
no_field key old some is = first_told key old some ∙ ap (λ f. with_field f key.value old) is

pub no_number : (key : KeyView) (old : List DomainView) (field : Field) → 0 < length old → field_of key.key ≡ Some field → number_of key.value ≡ None
    → with_key (Some key) old ≡ Err NotANumber
no_number key old field some is none =
    first_told key old some ∙ ap (λ f. with_field f key.value old) is ∙ ap (λ n. with_number field n old) none

pub number_told : (key : KeyView) (old : List DomainView) (field : Field) (number : ℕ) → 0 < length old → field_of key.key ≡ Some field
    → number_of key.value ≡ Some number → with_key (Some key) old ≡ Ok (with_last (with_value field number) old)
number_told key old field number some is found =
    first_told key old some ∙ ap (λ f. with_field f key.value old) is ∙ ap (λ n. with_number field n old) found

-- ---- a bad line

pub bad_line : (number : ℕ) (line : List ℕ) (lines : List (List ℕ)) (domains : List DomainView) (error : LineError) (result : SampleError)
    (wanted : Result (List DomainView) BadSample)
    → IsBad line domains error → result ≡ error_at number error → domains_from number (line ∷ lines) domains ≡ wanted
    → ReadsSample (Err result) wanted
bad_line number line lines domains (Bad what) result wanted bad is same =
    rw is (sym same ∙ ap (λ r. at_line number r >>= (λ told. domains_from (number + 1) lines told)) bad)
bad_line number line lines domains Memory result wanted bad is same = rw is tt

-- ---- a line by its first byte

differs : (line : List ℕ) → slice_index line 0 ≡ 32 → begins_with line (codes "Domain: '") ≡ false
differs [] first = absurd (omega arith)
differs (byte ∷ bytes) first = rw (first) refl

-- one that begins with a space is none of a domain
pub spaced_no_domain : (line : List ℕ) → slice_index line 0 ≡ 32 → domain_name line ≡ None
unfolding domain_name
spaced_no_domain line first = cond-false _ _ _ (differs line first)

pub spaced_some : (line : List ℕ) → slice_index line 0 ≡ 32 → nat_eq (length line) 0 ≡ false
spaced_some [] first = absurd (omega arith)
spaced_some (byte ∷ bytes) first = ne_eqb (suc (length bytes)) 0 (λ is. absurd (omega (arith, is)))

no_spaces : (line : List ℕ) → (slice_index line 0 ≡ 32 → ⊥) → prefix_len is_space line ≡ 0
no_spaces [] other = refl
no_spaces (byte ∷ bytes) other = cond-false _ _ _ (false_from_ne_true (nat_eq byte 32) (λ is. other (eqb-true byte 32 is)))

-- one that begins with another byte is none of a key
pub unspaced_no_key : (line : List ℕ) → (slice_index line 0 ≡ 32 → ⊥) → key_line line ≡ None
unfolding key_line behind_spaces
unspaced_no_key line other = rw (no_spaces line other) refl

pub some_line : (line : List ℕ) → 0 < length line → nat_eq (length line) 0 ≡ false
some_line [] some = absurd (omega arith)
some_line (byte ∷ bytes) some = ne_eqb (suc (length bytes)) 0 (λ is. absurd (omega (arith, is)))
