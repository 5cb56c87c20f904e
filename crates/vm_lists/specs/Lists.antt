-- What a list is: items between commas.
use Rattle.std.specs.Prelude.{◌≡◌, ◌≢◌, ℕ, ◌+◌, ◌<◌, ◌≤◌, ◌==◌, Bool, List, [], ◌∷◌, ◌++◌, length, Option, Some, None, Result, Ok, Err, IfErr}
use Rattle.std.specs.Borrow.{Bor}
use Rattle.std.specs.List.{slice_split}
use Rattle.vm_lists.specs.declared.bounds.Limits.{Limits}
use Rattle.vm_lists.specs.declared.faults.ListFault.{ListFault}
use Rattle.vm_lists.specs.declared.faults.ListFaultKind.TheVariants.{Memory}
use Rattle.vm_lists.specs.Items.{item_of}

infixl 10 ◌>>=◌
abbrev pub ◌>>=◌ : {A B : Type 0} → Result A ListFault → (A → Result B ListFault) → Result B ListFault
(Ok x) >>= f = f x
(Err fault) >>= f = Err fault

-- the values of items of which the first begins at this byte, and each other one behind a comma
abbrev pub items_of : Limits → ℕ → List (List ℕ) → Result (List ℕ) ListFault
items_of limits at [] = Ok []
items_of limits at (item ∷ items) = do
  values ← item_of limits at item
  more ← items_of limits (at + (length item + 1)) items
  Ok (values ++ more)

abbrev pub is_comma : ℕ → Bool
is_comma byte = byte == 44

-- the items of what is left of a list, and none where nothing is
abbrev pub items_left : Option (Bor (List ℕ)) → List (List ℕ)
items_left None = []
items_left (Some text) = slice_split is_comma text.now

-- the values of a list, or its first fault
unfoldable pub list_of : Limits → List ℕ → Result (List ℕ) ListFault
list_of limits text = items_of limits 0 (slice_split is_comma text)

-- a value that the limits allow
pub record IsWithin (limits : Limits) (value : ℕ) : Type 0 where
  pub least : limits.least ≤ value
  pub greatest : value ≤ limits.greatest

-- the fault is the first of the list; memory is only ever refused where the list has no fault up to there
pub record IsFaultOf (meaning : Result (List ℕ) ListFault) (fault : ListFault) : Type 0 where
  pub first : fault.kind ≢ Memory → meaning ≡ Err fault
  pub memory : fault.kind ≡ Memory → IfErr meaning (λ found. fault.at < found.at)
