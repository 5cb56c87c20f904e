-- A recorded host: its guests, and what each used, epoch by epoch. Memory is in units of the policy.
use Rattle.std.specs.Prelude.{ℕ, ◌+◌, ◌-◌, ◌≤◌, ◌≡◌, All, true, List, [], ◌∷◌, length, map, max, bytes_eq, Option, IfSome}
use Rattle.std.specs.List.{IsDistinct}
use Rattle.vm_samples.specs.Policies.{IsPolicy, PolicyView}
use Rattle.vm_samples.specs.Names.{is_name}
use Rattle.vm_recorded.specs.Traces.{longest_from, steps_from}

pub record GuestView : Type 0 where
  pub name : List ℕ
  pub size : ℕ
  pub min : ℕ
  pub cap : ℕ
  pub shares : ℕ
  -- the first epoch in which it was there
  pub first : ℕ
  -- what it used in each epoch from that one to its last
  pub uses : List (Option ℕ)

pub record HostView : Type 0 where
  pub policy : PolicyView
  -- what all guests together may hold
  pub frames : ℕ
  pub epochs : ℕ
  pub guests : List GuestView

-- the epoch behind its last
abbrev pub end_of : GuestView → ℕ
end_of g = g.first + length g.uses

-- the most steps that an epoch of a guest has, at least 1
abbrev pub quantum_for : List GuestView → ℕ
quantum_for [] = 1
quantum_for (g ∷ guests) = max (longest_from 0 g.uses) (quantum_for guests)

-- what swap can take of all guests
abbrev pub swap_for : List GuestView → ℕ
swap_for [] = 0
swap_for (g ∷ guests) = (g.size - g.min) + swap_for guests

-- ---- ranges

-- what is in range of a guest of a text
pub record IsGuest (epochs : ℕ) (g : GuestView) : Type 0 where
  pub name : is_name g.name ≡ true
  pub some_pages : 1 ≤ g.size
  pub few_pages : g.size ≤ 262144
  pub some_min : 1 ≤ g.min
  pub within_cap : g.min ≤ g.cap
  pub within_size : g.cap ≤ g.size
  pub some_shares : 1 ≤ g.shares
  pub few_shares : g.shares ≤ 1000000
  pub some_epochs : 1 ≤ length g.uses
  pub few_epochs : end_of g ≤ epochs
  pub uses : All (λ used. IfSome used (λ units. units ≤ g.size)) g.uses

-- the names of guests, in order
abbrev pub names_of : List GuestView → List (List ℕ)
names_of guests = map (λ g. g.name) guests

-- what is in range of a host that has a text
pub record IsHost (h : HostView) : Type 0 where
  pub policy : IsPolicy h.policy
  pub some_frames : 1 ≤ h.frames
  pub few_frames : h.frames ≤ 262144
  pub few_epochs : h.epochs ≤ 10000
  pub few_guests : length h.guests ≤ 256
  pub guests : All (IsGuest h.epochs) h.guests
  pub names_differ : IsDistinct bytes_eq (names_of h.guests)
  pub few_steps : All (λ g. steps_from 0 g.uses ≤ 1000000) h.guests
  pub short_epochs : All (λ g. longest_from 0 g.uses ≤ 65536) h.guests
