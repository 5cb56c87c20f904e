-- The samples of a host log, one after the other.
use Rattle.std.specs.Prelude.{ℕ, ◌+◌, List, [], ◌∷◌, ◌++◌, Result, Ok, Err}
use Rattle.vm_samples.specs.declared.sample.BadSample.{BadSample}
use Rattle.vm_samples.specs.Policies.{PolicyView}
use Rattle.vm_samples.specs.Samples.{DomainView}
use Rattle.vm_steer.specs.declared.form.Form.{Form}
use Rattle.vm_steer.specs.declared.form.Form.TheVariants.{Orders, Table}
use Rattle.vm_steer.specs.Entries.{ToldView}
use Rattle.vm_steer.specs.Steering.{SteeringView, begun, steered}
use Rattle.vm_steer.specs.Table.{header, records_of}
use Rattle.vm_steer.specs.Text.{bad_text, text_of}

-- after a sample; a bad one changes nothing
abbrev pub after_sample : SteeringView → Result (List DomainView) BadSample → SteeringView
after_sample s (Ok domains) = steered s domains
after_sample s (Err bad) = s

abbrev pub after_samples : SteeringView → List (Result (List DomainView) BadSample) → SteeringView
after_samples s [] = s
after_samples s (sample ∷ samples) = after_samples (after_sample s sample) samples

-- what is written in front of the samples
abbrev pub header_in : Form → List ℕ
header_in Orders = []
header_in Table = header

-- what is written of a good sample, by what is told of it
abbrev pub good_text : Form → (number : ℕ) → ToldView → List ℕ
good_text Orders number told = text_of number told
good_text Table number told = records_of number told

-- what is written of a bad one: in the table nothing
abbrev pub bad_text_in : Form → (number : ℕ) → BadSample → List ℕ
bad_text_in Orders number bad = bad_text number bad
bad_text_in Table number bad = []

-- what is written of the sample with a number
abbrev pub text_in : Form → (number : ℕ) → SteeringView → Result (List DomainView) BadSample → List ℕ
text_in form number s (Ok domains) = good_text form number (steered s domains).last
text_in form number s (Err bad) = bad_text_in form number bad

-- what is written of samples that are numbered from here on
abbrev pub texts_from : Form → (number : ℕ) → SteeringView → List (Result (List DomainView) BadSample) → List ℕ
texts_from form number s [] = []
texts_from form number s (sample ∷ samples) = text_in form number s sample ++ texts_from form (number + 1) (after_sample s sample) samples

-- what was told of the last good one of these samples
abbrev pub last_told : PolicyView → List (Result (List DomainView) BadSample) → ToldView
last_told policy samples = (after_samples (begun policy) samples).last
