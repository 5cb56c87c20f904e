-- What is read of a configuration, or its first fault.
use Rattle.std.specs.Prelude.{◌≡◌, ◌⊎◌, Result, Ok, Err}
use Rattle.vm_config.specs.declared.error.ConfigError.{ConfigError}
use Rattle.vm_config.specs.declared.error.ConfigError.TheVariants.{Memory}

-- the next step, where the first found a value
infixl 10 ◌>>=◌
abbrev pub ◌>>=◌ : {A B E : Type 0} → Result A E → (A → Result B E) → Result B E
(Ok x) >>= next = next x
(Err e) >>= next = Err e

-- the answer is the one that is wanted, as seen by a view
abbrev pub Answers : {A B : Type 0} → Result A ConfigError → (A → B) → Result B ConfigError → Type 0
Answers (Ok x) view wanted = wanted ≡ Ok (view x)
Answers (Err e) view wanted = wanted ≡ Err e

-- the answer is the one that is wanted, or want of memory
abbrev pub IsOrMemory : {A : Type 0} → Result A ConfigError → Result A ConfigError → Type 0
IsOrMemory result wanted = (result ≡ wanted) ⊎ (result ≡ Err Memory)
