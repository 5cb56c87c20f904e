-- The policy of a text, by its root.
use Rattle.std.proofs.Common.{◌≡◌, List, ℕ, Result, Ok, Err, refl, subst}
use Rattle.serde_json.specs.Data.{Data}
use Rattle.vm_json.specs.View.{view}
use Rattle.vm_samples.specs.declared.fault.PolicyError.{PolicyError}
use Rattle.vm_samples.specs.declared.fault.PolicyError.TheVariants.{Fault, Memory}
use Rattle.vm_samples.specs.Policies.{PolicyView}
use Rattle.vm_samples.specs.PolicyOf.{policy_of, root_at, root_in}
use Rattle.vm_samples.specs.Seen.{AnswersOrMemory, ReadsPolicy}

-- without a root there is no policy
pub no_root : (text : List ℕ) (error : PolicyError) → AnswersOrMemory (Err error) view (root_in text) → ReadsPolicy (Err error) (policy_of text)
unfolding policy_of
no_root text (Fault fault) is = rw is refl
no_root text Memory is = tt

policy_is : (text : List ℕ) (d : Data) → root_in text ≡ Ok d → root_at d ≡ policy_of text
unfolding policy_of
policy_is text d is = rw is refl

-- what is read of the root is read of the text
pub by_root : (text : List ℕ) (d : Data) (result : Result PolicyView PolicyError) → root_in text ≡ Ok d → ReadsPolicy result (root_at d) → ReadsPolicy result (policy_of text)
by_root text d result is reads = subst (λ wanted. ReadsPolicy result wanted) (policy_is text d is) reads
