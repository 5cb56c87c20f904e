-- A guest by its uses, with one sample more and with none of the open epoch.
use Rattle.std.proofs.Common.{◌≡◌, ◌∙◌, ◌⊎◌, inl, inr, ℕ, zero, suc, ◌+◌, ◌-◌, ◌*◌, ◌==◌, ◌<◌, ◌≤◌, Bool, true, false, not, nat_lt, List, [], ◌∷◌, ◌++◌, Option, Some, None, length, map, max, take, append_assoc, option_map, unwrap_or, replicate, refl, sym, ap, subst, arith}
use Rattle.std.proofs.Math.Seq.{take-append_seam, take-length}
use Rattle.std.proofs.lemmas.Bool.{le-ltb, lt-ltb}
use Rattle.std.proofs.lemmas.Bool.Decides.{nat_tests}
use Rattle.std.proofs.lemmas.List.{append-nil, length-append, length-map}
use Rattle.vm_recorded.specs.Counts.{absent_for, counted, counts_of}
use Rattle.vm_recorded.specs.Hosts.{GuestView}
use Rattle.vm_recorded.proofs.CountLemmas.{counts_of_absent, counts_of_more}
use Rattle.vm_samples.specs.Policies.{PolicyView}
use Rattle.vm_steer.specs.declared.fate.SteeredDomain.{SteeredDomain}
use Rattle.vm_steer.specs.declared.rules.Rules.{Rules}
use Rattle.vm_steer.specs.Entries.{EntryView}
use Rattle.vm_steer.specs.Look.{bounds_at, rules_of}
use Rattle.vm_log.specs.declared.kept.Kept.{Kept}
use Rattle.vm_log.specs.Epochs.{absent_first, epochs_of, uses_of, without_end, without_front}
use Rattle.vm_log.specs.HostOf.{guest_of}
use Rattle.vm_log.specs.Recorded.{kept_for}
use Rattle.vm_log.specs.Seen.{greater, greatest, size_in, steered_in, use_in}
use Rattle.vm_log.specs.Steps.{counts_with, gap_of, latest, raised_by, raised_last, raised_uses, taken_back}
use Rattle.vm_log.proofs.CutLemmas.{length-epochs, uses-open}
use Rattle.vm_log.proofs.SeenLemmas.{greatest-more, unwrap-greater}
use Rattle.vm_log.proofs.TrimLemmas.{end-none, first-all, first-some, first-stays, length-nones, nones, trim-none, trim-some, trimmed}

-- ---- the last use

raised-behind : (uses : List (Option ℕ)) (u used : ℕ) → raised_last (uses ++ Some u ∷ []) used ≡ uses ++ Some (max u used) ∷ []
raised-behind [] u used = refl
raised-behind (v ∷ []) u used = refl
raised-behind (v ∷ w ∷ uses) u used = ap (λ l. v ∷ l) (raised-behind (w ∷ uses) u used)

latest-behind : (uses : List (Option ℕ)) (u : ℕ) → latest (uses ++ Some u ∷ []) ≡ u
latest-behind [] u = refl
latest-behind (v ∷ []) u = refl
latest-behind (v ∷ w ∷ uses) u = latest-behind (w ∷ uses) u

-- ---- uses by those of the epochs that have ended, and that of the open one

-- how many epochs lie between the last use and the open epoch
abbrev gap : List (Option ℕ) → ℕ
gap uses = length uses - absent_first uses - length (trimmed uses)

long : (uses : List (Option ℕ)) (u : ℕ) → length (trimmed uses) < length (trimmed (uses ++ Some u ∷ []))
long uses u =
    let e : length (trimmed (uses ++ Some u ∷ [])) ≡ length (trimmed uses ++ (nones (gap uses) ++ Some u ∷ [])) = ap length (trim-some uses u) in
    omega (arith, e, length-append (trimmed uses) (nones (gap uses) ++ Some u ∷ []), length-append (nones (gap uses)) (Some u ∷ []))

pub use-raised : (uses : List (Option ℕ)) (a : Option ℕ) (used : ℕ)
    → raised_uses (length (trimmed uses)) (gap uses) (trimmed (uses ++ a ∷ [])) used ≡ trimmed (uses ++ greater a (Some used) ∷ [])
use-raised uses None used =
    let none : trimmed (uses ++ None ∷ []) ≡ trimmed uses = trim-none uses in
    let test : nat_lt (length (trimmed uses)) (length (trimmed uses)) ≡ false = le-ltb (length (trimmed uses)) (length (trimmed uses)) (omega arith) in
    ap (λ l. raised_uses (length (trimmed uses)) (gap uses) l used) none ∙ (rw test (sym (trim-some uses used)))
use-raised uses (Some u) used =
    let test : nat_lt (length (trimmed uses)) (length (trimmed (uses ++ Some u ∷ []))) ≡ true = lt-ltb (length (trimmed uses)) (length (trimmed (uses ++ Some u ∷ []))) (long uses u) in
    rw test (ap (λ l. raised_last l used) (trim-some uses u ∙ sym (append_assoc (trimmed uses) (nones (gap uses)) (Some u ∷ [])))
    ∙ (raised-behind (trimmed uses ++ nones (gap uses)) u used
    ∙ (append_assoc (trimmed uses) (nones (gap uses)) (Some (max u used) ∷ [])
    ∙ sym (trim-some uses (max u used)))))

pub first-raised : (uses : List (Option ℕ)) (a : Option ℕ) (used : ℕ) → absent_first (uses ++ greater a (Some used) ∷ []) ≡ absent_first uses
first-raised uses None used = first-some uses used
first-raised uses (Some u) used = first-some uses (max u used)

pub not_zero : (n : ℕ) → 0 < n → (n == 0) ≡ false
not_zero n some = grind (arith, nat_tests)

-- the uses up to the open epoch, which is there or isn't yet
abbrev pub IsUpTo : (uses : List (Option ℕ)) → (a : Option ℕ) → (now : List (Option ℕ)) → Type 0
IsUpTo uses a now = ((now ≡ uses) × (a ≡ None)) ⊎ (now ≡ uses ++ a ∷ [])

pub trim-up-to : (uses : List (Option ℕ)) (a : Option ℕ) (now : List (Option ℕ)) → IsUpTo uses a now → trimmed now ≡ trimmed (uses ++ a ∷ [])
trim-up-to uses a now (inl h) = ap trimmed h.0 ∙ (sym (trim-none uses) ∙ ap (λ (x : Option ℕ). trimmed (uses ++ x ∷ [])) (sym h.1))
trim-up-to uses a now (inr h) = ap trimmed h

-- where none has a use, all are in front of the first
first-none : (uses : List (Option ℕ)) (a : Option ℕ) → length (trimmed (uses ++ a ∷ [])) ≡ 0 → length uses + 1 ≡ absent_first (uses ++ a ∷ [])
first-none uses a none = let e = first-all (uses ++ a ∷ []) none in omega (arith, e, length-append uses (a ∷ []))

first-kept : (uses : List (Option ℕ)) (a : Option ℕ) (now : List (Option ℕ)) → IsUpTo uses a now → 0 < length (trimmed now) → absent_first now ≡ absent_first (uses ++ a ∷ [])
first-kept uses a now (inl h) some =
    let there : 0 < length (trimmed uses) = subst (λ (l : List (Option ℕ)). 0 < length (trimmed l)) h.0 some in
    ap absent_first h.0 ∙ sym (first-stays uses a there)
first-kept uses a now (inr h) some = ap absent_first h

-- ---- a guest

-- by its size and its uses
abbrev pub made : (ballooned : ℕ) → Rules → (name : List ℕ) → (size : ℕ) → (uses : List (Option ℕ)) → GuestView
made ballooned rules name size uses =
    let bounds = bounds_at ballooned rules size in
    record { name = name; size = size; min = bounds.min; cap = bounds.cap; shares = bounds.shares; first = absent_first uses; uses = trimmed uses }

pub guest-made : (policy : PolicyView) (every : ℕ) (samples : List (List EntryView)) (name : List ℕ)
    → guest_of policy every samples name ≡ made policy.most (rules_of policy.guests name) name (unwrap_or (size_in name samples) 0) (uses_of every name samples)
unfolding guest_of
guest-made policy every samples name = refl

-- what is kept of it fits to its uses in the epochs that have ended
pub record IsKeptOf (rules : Rules) (size : ℕ) (uses : List (Option ℕ)) (k : Kept) : Type 0 where
  pub rules_are : k.rules ≡ rules
  pub first : k.first ≡ absent_first uses
  pub size_is : k.size ≡ size
  pub length_is : k.length ≡ length (trimmed uses)
  pub counts : k.counts ≡ counts_of (trimmed uses)

module _ (ballooned : ℕ) (rules : Rules) (name : List ℕ) (size : ℕ) (uses : List (Option ℕ)) (a : Option ℕ) (now : List (Option ℕ)) (up : IsUpTo uses a now) where
  pub raised-none : (k : Kept) (epoch : ℕ) → length uses ≡ epoch → raised_by ballooned epoch k (made ballooned rules name size now) None ≡ made ballooned rules name size (uses ++ a ∷ [])
  unfolding raised_by
  raised-none k epoch wide = go (length (trimmed now)) refl
    where
      go : (n : ℕ) → length (trimmed now) ≡ n → raised_by ballooned epoch k (made ballooned rules name size now) None ≡ made ballooned rules name size (uses ++ a ∷ [])
      go zero e =
          let none : length (trimmed (uses ++ a ∷ [])) ≡ 0 = ap length (sym (trim-up-to uses a now up)) ∙ e in
          let first : epoch + 1 ≡ absent_first (uses ++ a ∷ []) = omega (arith, wide, first-none uses a none) in
          rw e (λ i. record {
            name = name;
            size = size;
            min = (bounds_at ballooned rules size).min;
            cap = (bounds_at ballooned rules size).cap;
            shares = (bounds_at ballooned rules size).shares;
            first = first i;
            uses = trim-up-to uses a now up i;
          })
      go (suc n) e =
          let some : 0 < length (trimmed now) = omega (arith, e) in
          let test : (length (trimmed now) == 0) ≡ false = not_zero (length (trimmed now)) some in
          rw test (λ i. record {
            name = name;
            size = size;
            min = (bounds_at ballooned rules size).min;
            cap = (bounds_at ballooned rules size).cap;
            shares = (bounds_at ballooned rules size).shares;
            first = first-kept uses a now up some i;
            uses = trim-up-to uses a now up i;
          })

  pub raised-some : (k : Kept) (epoch : ℕ) (seen : SteeredDomain) → length uses ≡ epoch → (kept_size : ℕ) → IsKeptOf rules kept_size uses k
      → raised_by ballooned epoch k (made ballooned rules name size now) (Some seen) ≡ made ballooned rules name (max size seen.size) (uses ++ greater a (Some seen.used) ∷ [])
  unfolding raised_by
  raised-some k epoch seen wide kept_size is =
      let gap_is : epoch - k.first - k.length ≡ gap uses = omega (arith, wide, is.first, is.length_is) in
      let used : raised_uses k.length (epoch - k.first - k.length) (trimmed now) seen.used ≡ trimmed (uses ++ greater a (Some seen.used) ∷ []) =
      (λ i. raised_uses (is.length_is i) (gap_is i) (trim-up-to uses a now up i) seen.used) ∙ use-raised uses a seen.used in
      let first : k.first ≡ absent_first (uses ++ greater a (Some seen.used) ∷ []) = is.first ∙ sym (first-raised uses a seen.used) in
      λ i. record {
        name = name;
        size = max size seen.size;
        min = (bounds_at ballooned (is.rules_are i) (max size seen.size)).min;
        cap = (bounds_at ballooned (is.rules_are i) (max size seen.size)).cap;
        shares = (bounds_at ballooned (is.rules_are i) (max size seen.size)).shares;
        first = first i;
        uses = used i;
      }

  pub back-made : (k : Kept) (kept_size : ℕ) → IsKeptOf rules kept_size uses k → taken_back ballooned k (made ballooned rules name size now) ≡ made ballooned rules name kept_size uses
  unfolding taken_back
  back-made k kept_size is =
      let front : (x : Option ℕ) → take (length (trimmed uses)) (trimmed (uses ++ x ∷ [])) ≡ trimmed uses = front_taken in
      let used : take k.length (trimmed now) ≡ trimmed uses = (λ i. take (is.length_is i) (trim-up-to uses a now up i)) ∙ front a in
      λ i. record {
        name = name;
        size = is.size_is i;
        min = (bounds_at ballooned (is.rules_are i) (is.size_is i)).min;
        cap = (bounds_at ballooned (is.rules_are i) (is.size_is i)).cap;
        shares = (bounds_at ballooned (is.rules_are i) (is.size_is i)).shares;
        first = is.first i;
        uses = used i;
      }
    where
      front_taken : (x : Option ℕ) → take (length (trimmed uses)) (trimmed (uses ++ x ∷ [])) ≡ trimmed uses
      front_taken None = ap (take (length (trimmed uses))) (trim-none uses) ∙ take-length (trimmed uses)
      front_taken (Some u) = ap (take (length (trimmed uses))) (trim-some uses u) ∙ take-append_seam (trimmed uses) (nones (gap uses) ++ Some u ∷ [])

-- what its uses come to
pub counts-made : (rules : Rules) (size : ℕ) (uses : List (Option ℕ)) (a : Option ℕ) (k : Kept) (epoch : ℕ) → length uses ≡ epoch → IsKeptOf rules size uses k
    → counts_with k epoch (trimmed (uses ++ a ∷ [])) ≡ counts_of (trimmed (uses ++ a ∷ []))
unfolding counts_with
counts-made rules size uses None k epoch wide is =
    let none : trimmed (uses ++ None ∷ []) ≡ trimmed uses = trim-none uses in
    let test : nat_lt k.length (length (trimmed (uses ++ None ∷ []))) ≡ false = le-ltb k.length (length (trimmed (uses ++ None ∷ []))) (omega (arith, is.length_is, ap length none)) in
    rw test (is.counts ∙ ap counts_of (sym none))
counts-made rules size uses (Some u) k epoch wide is =
    let gap_is : epoch - k.first - k.length ≡ gap uses = omega (arith, wide, is.first, is.length_is) in
    let test : nat_lt k.length (length (trimmed (uses ++ Some u ∷ []))) ≡ true = lt-ltb k.length (length (trimmed (uses ++ Some u ∷ []))) (omega (arith, is.length_is, long uses u)) in
    let split : trimmed (uses ++ Some u ∷ []) ≡ (trimmed uses ++ nones (gap uses)) ++ Some u ∷ [] = trim-some uses u ∙ sym (append_assoc (trimmed uses) (nones (gap uses)) (Some u ∷ [])) in
    rw test (
    (λ i. counted (absent_for (gap_is i) (is.counts i)) (Some ((ap latest split ∙ latest-behind (trimmed uses ++ nones (gap uses)) u) i)))
    ∙ (ap (λ c. counted c (Some u)) (sym (counts_of_absent (gap uses) (trimmed uses)))
    ∙ (sym (counts_of_more (trimmed uses ++ nones (gap uses)) (Some u))
    ∙ ap counts_of (sym split))))
