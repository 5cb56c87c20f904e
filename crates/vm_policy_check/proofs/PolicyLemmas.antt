-- A policy that is read is a JSON text, and what is found in a text that is read and in one that is refused.
use Rattle.std.proofs.Common.{◌≡◌, ℕ, List, [], ◌∷◌, Bool, true, false, Option, Some, None, Result, Ok, Err, refl, ap, ap₂}
use Rattle.std.specs.Prelude.{if◌then◌else◌}
use Rattle.std.specs.Str.{is_utf8, IsUtf8}
use Rattle.std.proofs.lemmas.Str.{IsUtf8-from_is_utf8}
use Rattle.json.specs.Json.{Json}
use Rattle.serde_json.specs.Data.{Data}
use Rattle.serde_json.specs.Read.{read}
use Rattle.vm_json.specs.View.{json_of}
use Rattle.vm_samples.specs.declared.fault.PolicyFault.{PolicyFault}
use Rattle.vm_samples.specs.declared.fault.Wrong.TheVariants.{NotJson}
use Rattle.vm_samples.specs.declared.place.Place.TheVariants.{Text}
use Rattle.vm_samples.specs.Outcomes.{◌>>=◌}
use Rattle.vm_samples.specs.Placed.{at}
use Rattle.vm_samples.specs.Policies.{PolicyView}
use Rattle.vm_samples.specs.PolicyOf.{json_in, object_of, policy_of, root_at}
use Rattle.vm_policy_check.specs.Findings.{fault, findings, of_policy, of_read}

-- the policy of what is read of bytes, and whether they are UTF-8
abbrev policy_by : Bool → Option Data → Result PolicyView PolicyFault
policy_by utf8 found = at Text ((if utf8 then json_in found else Err NotJson) >>= object_of) >>= root_at

record IsText (utf8 : Bool) (found : Option Data) : Type 0 where
  pub utf8_is : utf8 ≡ true
  pub some : found ≡ None → ⊥

text_by : (utf8 : Bool) (found : Option Data) (p : PolicyView) → policy_by utf8 found ≡ Ok p → IsText utf8 found
text_by false found p e = absurd (cc)
text_by true None p e = absurd (cc)
text_by true (Some d) p e = record { utf8_is = refl; some = λ (none : Some d ≡ None). absurd (cc) }

is_text : (text : List ℕ) (p : PolicyView) → policy_of text ≡ Ok p → IsText (is_utf8 text) (read text)
unfolding policy_of
is_text text p e = text_by (is_utf8 text) (read text) p e

-- a text that no JSON reader takes is no policy
pub is_read : (text : List ℕ) (p : PolicyView) → policy_of text ≡ Ok p → (IsUtf8 text → read text ≡ None) → ⊥
is_read text p e refused = let h = is_text text p e in h.some (refused (IsUtf8-from_is_utf8 text h.utf8_is))

pub findings_read : (text : List ℕ) (p : PolicyView) (j : Json) → policy_of text ≡ Ok p → json_of text ≡ Some j → findings text ≡ of_policy p j
unfolding findings
findings_read text p j policy tree = ap₂ of_read policy tree

pub findings_refused : (text : List ℕ) (f : PolicyFault) → policy_of text ≡ Err f → findings text ≡ fault f ∷ []
unfolding findings
findings_refused text f refused = ap (λ (r : Result PolicyView PolicyFault). of_read r (json_of text)) refused
