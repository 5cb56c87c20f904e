-- The text of what is taken has at most 16777216 bytes.
use Rattle.std.proofs.Common.{◌≡◌, ◌∙◌, ℕ, ◌+◌, ◌-◌, ◌≤◌, inl, inr, nat_lt, Bool, true, false, List, [], ◌++◌, Option, Some, None, Result, codes, length, length-append, max, min, sym, refl, ap, subst, arith}
use Rattle.std.proofs.lemmas.Bool.Decides.{nat_tests}
use Rattle.std.proofs.lemmas.Fmt.{length-decimal-le}
use Rattle.std.specs.Fmt.{decimal}
use Rattle.vm_recorded.specs.declared.limit.Limit.{Limit}
use Rattle.vm_recorded.specs.Hosts.{HostView}
use Rattle.vm_recorded.specs.Limits.{is_long, limit_of, limit_with_bytes, or_bytes}
use Rattle.vm_recorded.specs.Texts.{head_of, text_of}
use Rattle.vm_samples.specs.declared.sample.BadSample.{BadSample}
use Rattle.vm_samples.specs.Policies.{IsPolicy, PolicyView}
use Rattle.vm_samples.specs.Samples.{DomainView}
use Rattle.vm_steer.specs.Entries.{EntryView}
use Rattle.vm_log.specs.HostOf.{host_of}
use Rattle.vm_log.specs.Taking.{taken_of}
use Rattle.vm_log.proofs.RangeTakingLemmas.{PassNone, taken_fit}
use Rattle.vm_log.proofs.RangeUseLemmas.{no_epochs}

-- ---- a text that was judged

upto : (n most : ℕ) → nat_lt most n ≡ false → n ≤ most
upto n most e = grind (arith, nat_tests)

not_long : (limit : Option Limit) (long : Bool) → or_bytes limit long ≡ None → long ≡ false
not_long (Some limit) long none = absurd (cc)
not_long None true none = absurd (cc)
not_long None false none = refl

judged_short : (host : HostView) → limit_with_bytes host ≡ None → length (text_of host) ≤ 16777216
unfolding is_long
judged_short host none = upto (length (text_of host)) 16777216 (not_long (limit_of host) (is_long host) none)

-- ---- the text without samples

-- a host without epochs
abbrev empty_host : PolicyView → HostView
empty_host policy = record { policy = policy; frames = max 1 policy.memory; epochs = 0; guests = [] }

nothing_hosted : (policy : PolicyView) (every : ℕ) → 1 ≤ every → host_of policy every [] ≡ empty_host policy
unfolding host_of
nothing_hosted policy every some =
    let frames : max 1 (policy.memory - 0) ≡ max 1 policy.memory = omega arith in
    λ i. record { policy = policy; frames = frames i; epochs = no_epochs every some i; guests = [] }

one_number : (words : List ℕ) (n : ℕ) (rest : List ℕ) (k : ℕ) → length words ≤ 30 → n ≤ 1048576 → length rest ≤ k → length (words ++ (decimal n ++ rest)) ≤ k + 40
one_number words n rest k few small short =
    let digits : length (decimal n) ≤ 10 = length-decimal-le 10 n (omega arith) (omega (arith, small)) (omega (arith, small)) in
    omega (arith, few, digits, short, length-append words (decimal n ++ rest), length-append (decimal n) rest)

head_short : (policy : PolicyView) → IsPolicy policy → length (head_of (empty_host policy)) ≤ 540
unfolding head_of
head_short policy is =
    let memory = is.few_memory in
    let overhead = is.small_overhead in
    let tax = is.part_taxed in
    let high = is.falling.high in
    let soft = is.falling.soft in
    let hard = is.falling.hard in
    let low = is.falling.low in
    let rebalance = is.few_moves in
    let unit = is.unit_to in
    one_number (codes "{\"version\":3,\"frames\":") (max 1 policy.memory) _ 500 (omega arith) (omega (arith, memory))
    (one_number (codes ",\"swap\":") 0 _ 460 (omega arith) (omega arith)
    (one_number (codes ",\"overhead\":") policy.overhead _ 420 (omega arith) (omega (arith, overhead))
    (one_number (codes ",\"tax\":") policy.tax _ 380 (omega arith) (omega (arith, tax))
    (one_number (codes ",\"percent\":[") policy.percents.high _ 340 (omega arith) (omega (arith, high))
    (one_number (codes ",") policy.percents.soft _ 300 (omega arith) (omega (arith, high, soft))
    (one_number (codes ",") policy.percents.hard _ 260 (omega arith) (omega (arith, high, soft, hard))
    (one_number (codes ",") policy.percents.low _ 220 (omega arith) (omega (arith, high, soft, hard, low))
    (one_number (codes "],\"page_rate\":") (min policy.rate 256) _ 180 (omega arith) (omega arith)
    (one_number (codes ",\"rebalance\":") policy.rebalance _ 140 (omega arith) (omega (arith, rebalance))
    (one_number (codes ",\"page\":") policy.unit _ 100 (omega arith) unit
    (one_number (codes ",\"quantum\":") 1 _ 60 (omega arith) (omega arith)
    (one_number (codes ",\"epochs\":") 0 (codes ",\"guests\":[") 20 (omega arith) (omega arith) (omega arith)))))))))))))

empty_short : (policy : PolicyView) → IsPolicy policy → length (text_of (empty_host policy)) ≤ 16777216
unfolding text_of
empty_short policy is =
    let head = head_short policy is in
    omega (arith, head, length-append (head_of (empty_host policy)) (codes "],\"commands\":[" ++ codes "]}\n"))

-- ---- any samples

passed_short : (policy : PolicyView) (every : ℕ) (samples : List (List EntryView)) → IsPolicy policy → 1 ≤ every → PassNone policy every samples
    → length (text_of (host_of policy every samples)) ≤ 16777216
passed_short policy every samples is some (inl none) =
    subst (λ (host : HostView). length (text_of host) ≤ 16777216)
    (sym (ap (host_of policy every) none ∙ nothing_hosted policy every some)) (empty_short policy is)
passed_short policy every samples is some (inr none) = judged_short (host_of policy every samples) none

pub short : (policy : PolicyView) → IsPolicy policy → (every : ℕ) → 1 ≤ every → (samples : List (Result (List DomainView) BadSample))
    → length (text_of (host_of policy every (taken_of every policy samples).samples)) ≤ 16777216
short policy is every some samples =
    passed_short policy every (taken_of every policy samples).samples is some (taken_fit every some policy samples).none
