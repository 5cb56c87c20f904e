-- A list of values with a name in front: a name without `=`, a `=` and a list.
use Rattle.std.specs.Prelude.{◌≡◌, ◌≢◌, ◌⊎◌, ℕ, ◌+◌, ◌<◌, ◌==◌, All, Bool, List, ◌++◌, codes, if◌then◌else◌, length, Result, Ok, Err, IfErr, IsErrAnd, IsOkAnd}
use Rattle.std.specs.List.{after_first, before_first, position_or_len}
use Rattle.vm_lists.specs.declared.bounds.Limits.{Limits}
use Rattle.vm_lists.specs.declared.faults.ListFault.{ListFault}
use Rattle.vm_lists.specs.declared.faults.ListFaultKind.TheVariants.{Memory}
use Rattle.vm_lists.specs.declared.faults.NamedListFault.{NamedListFault}
use Rattle.vm_lists.specs.declared.faults.NamedListFaultKind.TheVariants.{BadList, NoEquals}
use Rattle.vm_lists.specs.declared.named.NamedList.{NamedList}
use Rattle.vm_lists.specs.ListGrammar.{IsList}
use Rattle.vm_lists.specs.Lists.{list_of}
use Rattle.vm_lists.specs.Numbers.{has}

-- a name, and the values of the list behind it
pub record Named : Type 0 where
  pub name : List ℕ
  pub values : List ℕ

abbrev pub named_in : NamedList → Named
named_in list = record { name = list.name.now; values = list.values }

-- ---- which texts have which name and values

abbrev pub is_equals : ℕ → Bool
is_equals byte = byte == 61

-- the text is this name, a `=` and a list of these values; the name ends at the first `=`
pub record IsNamedList (limits : Limits) (text : List ℕ) (named : Named) : Type 0 where
  pub list : List ℕ
  pub whole : text ≡ named.name ++ (codes "=" ++ list)
  pub first : All (λ byte. byte ≢ 61) named.name
  pub listed : IsList limits list named.values

-- the answer is this name and these values, or there was no memory for them
abbrev pub IsNamedOrMemory : Result NamedList NamedListFault → Named → Type 0
IsNamedOrMemory answer named = IsOkAnd answer (λ list. named_in list ≡ named) ⊎ IsErrAnd answer (λ found. found.kind ≡ BadList Memory)

-- ---- what a text is read as

-- what is read of a name and of the list behind it, whose bytes are counted from the beginning of the name
abbrev pub named_as : List ℕ → Result (List ℕ) ListFault → Result Named NamedListFault
named_as name (Ok values) = Ok (record { name = name; values = values })
named_as name (Err fault) = Err (record { at = length name + 1 + fault.at; kind = BadList fault.kind })

-- the name and the values of a text, or its first fault
unfoldable pub named_of : Limits → List ℕ → Result Named NamedListFault
named_of limits text =
    if has is_equals text
    then named_as (before_first is_equals text) (list_of limits (after_first is_equals text))
    else Err (record { at = length text; kind = NoEquals })

-- the fault is the first of the text; memory is only ever refused behind the `=`, where the list has no fault up to there
pub record IsNamedFaultOf (limits : Limits) (text : List ℕ) (fault : NamedListFault) : Type 0 where
  pub first : fault.kind ≢ BadList Memory → named_of limits text ≡ Err fault
  pub behind : fault.kind ≡ BadList Memory → position_or_len is_equals text < fault.at
  pub memory : fault.kind ≡ BadList Memory → IfErr (named_of limits text) (λ found. fault.at < found.at)
