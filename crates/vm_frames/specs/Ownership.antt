-- What the owners of a block of pages own. Each page is borrowed by itself for a lifetime a of the block's own.
use Rattle.std.specs.Prelude.{◌≡◌, refl, ℕ, zero, suc, ◌+◌, List, [], ◌∷◌, Option, Some, None}
use Rattle.std.specs.Coded.{Coded, code_by, coded×, coded_ℕ}
use base.Fraction.{full_share}
use base.Fml.{Lft, Fml, ftrue, fsep, froom, flft, fbor, flent}
use mir.Syntax.{Ty, w8, ty_int, ty_array}
use prog.Memory.{size}
use denote.RattleType.{RattleType}
use denote.Builtin.{u8}
use denote.Array.{Array}
use denote.Sharing.{nothing}
use denote.Struct.Lending.{lent_at}
use denote.RawPtr.{Ptr, block_ptr, coded_ptr, room_for, lies_at, block_of, count_of}

-- where a block's pages begin, and how many there are
pub record Extent : Type 0 where
  pub ptr : Ptr
  pub count : ℕ

-- it is stored as the pair of its fields
abbrev pub extent_code : Coded Extent
extent_code = code_by (Ptr × ℕ) (coded× coded_ptr coded_ℕ) (λ e. (e.ptr, e.count)) (λ p. record { ptr = p.0; count = p.1 }) (λ _. refl)

-- where an owner's page is, and where the block's first one is
pub record Hold : Type 0 where
  pub page : Ptr
  pub first : Ptr

-- it is stored likewise
abbrev pub hold_code : Coded Hold
hold_code = code_by (Ptr × Ptr) (coded× coded_ptr coded_ptr) (λ h. (h.page, h.first)) (λ p. record { page = p.0; first = p.1 }) (λ _. refl)

-- p points into a block
abbrev pub IsPlaced : Ptr → Type 0
IsPlaced p = p ≡ block_ptr (block_of p) (count_of p)

-- a page, and n pages side by side, as the machine sees them
abbrev pub page_type : Ty
page_type = ty_array (ty_int w8) 4096

abbrev pub pages_type : ℕ → Ty
pages_type n = ty_array page_type n

-- the same page as a type of values
abbrev pub Page : RattleType
Page = Array u8 4096

-- what a room for a page owns: the page, or the room alone while none is written
abbrev pub room_owns : Ptr → Option (List ℕ) → Fml
room_owns p None = room_for page_type p
room_owns p (Some page) = lies_at Page full_share p page

-- what a `&` to it holds: a `&` to the page
abbrev pub room_shares : Ptr → Option (List ℕ) → Lft → Fml
room_shares p None = nothing
room_shares p (Some page) = lent_at Page p page

-- the right to each of n rooms for a τ, once a has ended
abbrev pub lent : ℕ → Ty → ℕ → ℕ → ℕ → Fml
lent a τ zero b o = ftrue
lent a τ (suc n) b o = fsep (flent (a ∷ []) (froom τ b o)) (lent a τ n b (o + size τ))

-- the borrow of each of them
abbrev pub loans : ℕ → Ty → ℕ → ℕ → ℕ → Fml
loans a τ zero b o = ftrue
loans a τ (suc n) b o = fsep (fbor (a ∷ []) (froom τ b o)) (loans a τ n b (o + size τ))

-- what a block owns: the token of a, and its pages once a has ended
abbrev pub block_owns : ℕ → Extent → Fml
block_owns a e = fsep (flft (a ∷ []) full_share) (lent a page_type e.count (block_of e.ptr) (count_of e.ptr))
