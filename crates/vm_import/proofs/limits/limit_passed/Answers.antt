use Rattle.std.proofs.Common.{◌≡◌, ◌<◌, ◌≤◌, ℕ, Bool, true, false, nat_lt, if◌then◌else◌, Option, Some, None, refl, sym, subst}
use Rattle.std.proofs.lemmas.Bool.{le-ltb, lt-ltb}
use Rattle.vm_import.specs.Guests.{epochs_of}
use Rattle.vm_import.specs.declared.limits.Limit.{Limit}
use Rattle.vm_import.specs.declared.limits.Limit.TheVariants.{Steps, Pages, Epochs, Bytes}
use Rattle.vm_import.proofs.limits.limit_passed.Goals as goal

-- the limit of the first test that holds
abbrev first_of : Limit → (steps pages epochs bytes : Bool) → Option Limit
first_of limit steps pages epochs bytes =
    if steps then Some limit
    else if pages then Some Pages
    else if epochs then Some Epochs
    else if bytes then Some Bytes
    else None

told_by : (limit : Limit) (steps pages epochs bytes s p e b : Bool) → s ≡ steps → p ≡ pages → e ≡ epochs → b ≡ bytes
    → first_of limit steps pages epochs bytes ≡ first_of limit s p e b
told_by limit steps pages epochs bytes s p e b s_is p_is e_is b_is = sym (λ i. first_of limit (s_is i) (p_is i) (e_is i) (b_is i))

few : (steps most read : ℕ) → read ≡ most → steps ≤ read → nat_lt most steps ≡ false
few steps most read is below = le-ltb most steps (subst (λ (n : ℕ). steps ≤ n) is below)

-- src/limits.rt:45:9
pub returns-then-pages-gt-MAX_PAGES : goal.returns-then-pages-gt-MAX_PAGES
returns-then-pages-gt-MAX_PAGES c =
    let settings = c.args.settings.now in
    let epochs = nat_lt 10000 (epochs_of settings.quantum c.args.steps) in
    let bytes = nat_lt 16777216 c.args.bytes in
    told_by (Steps settings.steps) false true epochs bytes (nat_lt settings.steps c.args.steps) (nat_lt 262144 c.args.pages) epochs bytes
    (few c.args.steps settings.steps c.from.result c.from.ensures c.if-steps-from.false)
    (lt-ltb 262144 c.args.pages c.if-pages-gt-MAX_PAGES.true) refl refl

-- src/limits.rt:48:9
pub returns-then-epochs_of-gt-MAX_EPOCHS : goal.returns-then-epochs_of-gt-MAX_EPOCHS
returns-then-epochs_of-gt-MAX_EPOCHS c =
    let settings = c.args.settings.now in
    let epochs = epochs_of settings.quantum c.args.steps in
    let bytes = nat_lt 16777216 c.args.bytes in
    told_by (Steps settings.steps) false false true bytes (nat_lt settings.steps c.args.steps) (nat_lt 262144 c.args.pages) (nat_lt 10000 epochs) bytes
    (few c.args.steps settings.steps c.from.result c.from.ensures c.if-steps-from.false)
    (le-ltb 262144 c.args.pages c.if-pages-gt-MAX_PAGES.false)
    (lt-ltb 10000 epochs (subst (λ (n : ℕ). 10000 < n) c.epochs_of.ensures c.if-epochs_of-gt-MAX_EPOCHS.true)) refl

-- src/limits.rt:51:9
pub returns-then-bytes-gt-MAX_BYTES : goal.returns-then-bytes-gt-MAX_BYTES
returns-then-bytes-gt-MAX_BYTES c =
    let settings = c.args.settings.now in
    let epochs = epochs_of settings.quantum c.args.steps in
    told_by (Steps settings.steps) false false false true (nat_lt settings.steps c.args.steps) (nat_lt 262144 c.args.pages) (nat_lt 10000 epochs) (nat_lt 16777216 c.args.bytes)
    (few c.args.steps settings.steps c.from.result c.from.ensures c.if-steps-from.false)
    (le-ltb 262144 c.args.pages c.if-pages-gt-MAX_PAGES.false)
    (le-ltb 10000 epochs (subst (λ (n : ℕ). n ≤ 10000) c.epochs_of.ensures c.if-epochs_of-gt-MAX_EPOCHS.false))
    (lt-ltb 16777216 c.args.bytes c.if-bytes-gt-MAX_BYTES.true)

-- src/limits.rt:32:1
pub returns : goal.returns
returns c =
    let settings = c.args.settings.now in
    let epochs = epochs_of settings.quantum c.args.steps in
    told_by (Steps settings.steps) false false false false (nat_lt settings.steps c.args.steps) (nat_lt 262144 c.args.pages) (nat_lt 10000 epochs) (nat_lt 16777216 c.args.bytes)
    (few c.args.steps settings.steps c.from.result c.from.ensures c.if-steps-from.false)
    (le-ltb 262144 c.args.pages c.if-pages-gt-MAX_PAGES.false)
    (le-ltb 10000 epochs (subst (λ (n : ℕ). n ≤ 10000) c.epochs_of.ensures c.if-epochs_of-gt-MAX_EPOCHS.false))
    (le-ltb 16777216 c.args.bytes c.if-bytes-gt-MAX_BYTES.false)
