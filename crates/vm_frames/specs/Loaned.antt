-- What the functions of `src/block.rt` say of the room that they lend.
use Rattle.std.specs.Prelude.{◌≡◌, ℕ, ◌+◌, ◌*◌, ◌<◌, ◌≤◌, Vec, vec_capacity, vec_len}
use denote.RawPtr.{Ptr}
use Rattle.vm_frames.specs.declared.block.Loan.{Loan}

-- the vector is empty, and has room for n pages that begin at the byte `lead`
pub record HasPages {A : Type 0} (vec : Vec ℕ A) (lead n : ℕ) : Type 0 where
  pub empty : vec_len vec ≡ 0
  pub some : 0 < vec_capacity vec
  pub room : lead + n * 4096 ≤ vec_capacity vec

-- l is the loan of n pages from p on until a ends
pub record IsLoan (l : Loan) (a : ℕ) (p : Ptr) (n : ℕ) : Type 0 where
  pub life : l.life ≡ a
  pub begins : l.ptr ≡ p
  pub count : l.count ≡ n
