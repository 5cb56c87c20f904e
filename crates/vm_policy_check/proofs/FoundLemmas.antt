-- The findings of a policy, part by part.
use Rattle.std.proofs.Common.{◌≡◌, ℕ, ◌+◌, ◌<◌, List, ◌∷◌, ◌++◌, length, get_or, drop, append_assoc, add-one, sym, ap, ◌∙◌}
use Rattle.std.proofs.lemmas.List.{drop_more}
use Rattle.json.specs.Json.{Json}
use Rattle.vm_samples.specs.Policies.{GuestPolicyView}
use Rattle.vm_policy_check.specs.Findings.{Found, cross, odd_in, of_guests}
use Rattle.vm_policy_check.specs.KnownKeys.{guest_keys, keys_of_guest}
use Rattle.vm_policy_check.specs.declared.finding.Part.TheVariants.{Guest}

-- one more guest
pub guests_more : (root : Json) (guests : List GuestPolicyView) (n : ℕ) (g : GuestPolicyView) (before keyed after total : List Found)
    → n < length guests → g ≡ get_or guests n g → keyed ≡ before ++ odd_in (Guest n) guest_keys (keys_of_guest n root) → after ≡ keyed ++ cross n g
    → before ++ of_guests root n (drop n guests) ≡ total → after ++ of_guests root (n + 1) (drop (n + 1) guests) ≡ total
guests_more root guests n g before keyed after total within is keys bounds whole =
    let rest = of_guests root (n + 1) (drop (n + 1) guests) in
    let odd = odd_in (Guest n) guest_keys (keys_of_guest n root) in
    let here : of_guests root n (drop n guests) ≡ (odd ++ cross n g) ++ rest =
    ap (of_guests root n) (drop_more guests n g within ∙ ap (λ (x : GuestPolicyView). x ∷ drop (n + 1) guests) (sym is))
    ∙ ap (λ (m : ℕ). (odd ++ cross n g) ++ of_guests root m (drop (n + 1) guests)) (sym (add-one n)) in
    let all : after ≡ before ++ (odd ++ cross n g) = bounds ∙ (ap (λ (k : List Found). k ++ cross n g) keys ∙ append_assoc before odd (cross n g)) in
    ap (λ (a : List Found). a ++ rest) all ∙ (append_assoc before (odd ++ cross n g) rest ∙ (ap (λ (r : List Found). before ++ r) (sym here) ∙ whole))

-- the root, the crowd and the guests
pub in_order : (odd crowd guests a b c : List Found) → a ≡ odd → b ≡ a ++ crowd → c ≡ b ++ guests → c ≡ odd ++ (crowd ++ guests)
in_order odd crowd guests a b c first second third =
    third ∙ (ap (λ (x : List Found). x ++ guests) (second ∙ ap (λ (x : List Found). x ++ crowd) first) ∙ append_assoc odd crowd guests)
