-- What a contract sees of a table.
use Rattle.std.specs.Prelude.{ℕ, refl}
use Rattle.std.specs.Ordering.{nat_cmp}
use Rattle.std.specs.FinMap as map
use Rattle.std.specs.Coded.{Coded, code_by, coded×, coded_ℕ}

-- the value of each page that has one, and for how many there is memory
pub record TableView (V : Type 0) : Type 0 where
  pub values : map.FinMap nat_cmp V
  pub room : ℕ

-- a table is stored as the pair of its fields
abbrev pub table_code : {V : Type 0} → Coded V → Coded (TableView V)
table_code {V} code =
    code_by (map.FinMap nat_cmp V × ℕ) (coded× (map.code coded_ℕ code) coded_ℕ)
    (λ t. (t.values, t.room)) (λ p. record { values = p.0; room = p.1 }) (λ _. refl)
