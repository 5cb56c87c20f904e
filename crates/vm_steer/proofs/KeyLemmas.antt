-- Names whose numbers differ.
use Rattle.std.proofs.Common.{◌≡◌, ◌∙◌, ◌≢◌, ℕ, ◌+◌, ◌<◌, Bool, true, false, List, ap, bytes_eq, drop, get_or, length, refl, sym, if◌then◌else◌}
use Rattle.std.proofs.lemmas.List.{drop_more, get_or-map}
use Rattle.vm_samples.specs.Policies.{GuestPolicyView}
use Rattle.vm_steer.specs.declared.rules.Rules.{Rules}
use Rattle.vm_steer.specs.Keys.{key_of, keys_of}
use Rattle.vm_steer.specs.Look.{rules_in, rules_of}
use Rattle.vm_steer.proofs.NameLemmas.{bytes_same}

pub keys_differ : (name other : List ℕ) (key other_key : ℕ) → key ≡ key_of name → other_key ≡ key_of other → key ≢ other_key → false ≡ bytes_eq name other
keys_differ name other key other_key is that ne = go (bytes_eq name other) refl
  where
    go : (t : Bool) → bytes_eq name other ≡ t → false ≡ bytes_eq name other
    go true e = absurd (ne (is ∙ (ap key_of (bytes_same name other e) ∙ sym that)))
    go false e = sym e

-- the number of a guest's name
pub key_read : (guests : List GuestPolicyView) (keys : List ℕ) (i : ℕ) (g : GuestPolicyView) → keys ≡ keys_of guests → i < length guests → g ≡ get_or guests i g → get_or keys i 0 ≡ key_of g.name
key_read guests keys i g same h is =
    ap (λ (l : List ℕ). get_or l i 0) same ∙ (get_or-map (λ (x : GuestPolicyView). key_of x.name) guests i g 0 h ∙ ap (λ (x : GuestPolicyView). key_of x.name) (sym is))

-- the rules of a name, from a guest on
pub rules_here : (guests : List GuestPolicyView) (i : ℕ) (g : GuestPolicyView) (name : List ℕ) → i < length guests → g ≡ get_or guests i g
    → rules_of (drop i guests) name ≡ (if bytes_eq g.name name then rules_in g else rules_of (drop (i + 1) guests) name)
rules_here guests i g name h is =
    ap (λ (l : List GuestPolicyView). rules_of l name) (drop_more guests i g h) ∙ ap (λ (x : GuestPolicyView). if bytes_eq x.name name then rules_in x else rules_of (drop (i + 1) guests) name) (sym is)

pub rules_found : (guests : List GuestPolicyView) (i : ℕ) (g : GuestPolicyView) (name : List ℕ) (whole : Rules) → i < length guests → g ≡ get_or guests i g → bytes_eq g.name name ≡ true
    → rules_of (drop i guests) name ≡ whole → rules_in g ≡ whole
rules_found guests i g name whole h is own done = sym (rules_here guests i g name h is ∙ ap (λ (b : Bool). if b then rules_in g else rules_of (drop (i + 1) guests) name) own) ∙ done

pub rules_behind : (guests : List GuestPolicyView) (i : ℕ) (g : GuestPolicyView) (name : List ℕ) (whole : Rules) → i < length guests → g ≡ get_or guests i g → bytes_eq g.name name ≡ false
    → rules_of (drop i guests) name ≡ whole → rules_of (drop (i + 1) guests) name ≡ whole
rules_behind guests i g name whole h is other done = sym (rules_here guests i g name h is ∙ ap (λ (b : Bool). if b then rules_in g else rules_of (drop (i + 1) guests) name) other) ∙ done
