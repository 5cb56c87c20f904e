-- What is true of a command that was admitted.
use Rattle.std.proofs.Common.{◌≡◌, ◌∙◌, ℕ, ◌≤◌, List, Option, Some, None, Result, Ok, Err, if◌then◌else◌, nat_lt, ⊎_elim, refl, ap, subst}
use Rattle.std.specs.Option.{ok_or}
use Rattle.std.proofs.lemmas.Bool.{cases_lt, cond_above, cond_below}
use Rattle.vm_admission.specs.Accounts.{Accounts, FitsFrames, FitsSwap}
use Rattle.vm_commands.specs.declared.command.Command.TheVariants.{Start, Destroy, SetMemory, SetMinimum, SetShares}
use Rattle.vm_guest.specs.Config.{GuestConfig}
use Rattle.vm_guest.specs.Record.{GuestRecord}
use Rattle.vm_host.specs.declared.boundary.Refusal.{Refusal}
use Rattle.vm_host.specs.Books.{books_of, if_covered}
use Rattle.vm_host.specs.Decisions.{◌>>=◌, booked_minimum, booked_start, decision_on, if_cap, if_minimum, if_stopped, position_in, running_at, stopped_config}
use Rattle.vm_host.specs.World.{World, config_at, guest_at}

-- ---- tests, one after the other

passed : {A B : Type 0} (first : Result A Refusal) (next : A → Result B Refusal) (y : B) → (first >>= next) ≡ Ok y → (x : A) × (first ≡ Ok x) × (next x ≡ Ok y)
passed (Ok x) next y is = (x, refl, is)
passed (Err refusal) next y is = absurd cc

some-passed : {A : Type 0} (o : Option A) (refusal : Refusal) (x : A) → ok_or o refusal ≡ Ok x → o ≡ Some x
some-passed None refusal x is = absurd cc
some-passed (Some y) refusal x is = let same : y ≡ x = cc in ap Some same

-- a number that is below another is refused
unless-below : (a b : ℕ) (refusal : Refusal) (rest : Result ℕ Refusal) (k : ℕ) → (if nat_lt a b then Err refusal else rest) ≡ Ok k → (b ≤ a) × (rest ≡ Ok k)
unless-below a b refusal rest k is =
    ⊎_elim
    (λ below. let no : Err refusal ≡ Ok k = cond_below a b (Err refusal) rest below ∙ is in absurd cc)
    (λ above. (above, cond_above a b (Err refusal) rest rest above refl ∙ is))
    (cases_lt a b)

-- ---- what the books cover

pub record IsCovered (books : Accounts) : Type 0 where
  pub frames : FitsFrames books
  pub swap : FitsSwap books

covered : (books : Accounts) (position k : ℕ) → if_covered books position ≡ Ok k → IsCovered books × (position ≡ k)
covered books position k is =
    let memory = unless-below books.frames books.memory _ _ k is in
    let reserved = unless-below books.swap books.reserved _ _ k memory.1 in
    (record { frames = memory.0; swap = reserved.0 }, (let same : position ≡ k = let e = reserved.1 in cc in same))

-- ---- a guest that starts

pub record StartsAt (w : World) (position : ℕ) : Type 0 where
  pub config : GuestConfig
  pub stopped : guest_at w position ≡ None
  pub here : config_at w position ≡ Some config
  pub covers : IsCovered (booked_start (books_of w) config)

not-running : (guest : Option GuestRecord) (config : Option GuestConfig) (c : GuestConfig) → if_stopped guest config ≡ Ok c → (guest ≡ None) × (config ≡ Some c)
not-running None config c is = (refl, some-passed config _ c is)
not-running (Some g) config c is = absurd cc

pub starts-at : (w : World) (domain : List ℕ) (position : ℕ) → decision_on w (Start domain) ≡ Ok position → StartsAt w position
starts-at w domain position is =
    let found = passed (position_in w domain) (λ p. stopped_config w p >>= (λ config. if_covered (booked_start (books_of w) config) p)) position is in
    let set_up = passed (stopped_config w found.0) (λ config. if_covered (booked_start (books_of w) config) found.0) position found.2 in
    let fits = covered (booked_start (books_of w) set_up.0) found.0 position set_up.2 in
    let stopped = not-running (guest_at w found.0) (config_at w found.0) set_up.0 set_up.1 in
    record {
      config = set_up.0;
      stopped = subst (λ (p : ℕ). guest_at w p ≡ None) fits.1 stopped.0;
      here = subst (λ (p : ℕ). config_at w p ≡ Some set_up.0) fits.1 stopped.1;
      covers = fits.0;
    }

-- ---- a guest that runs

pub record RunsAt (w : World) (position : ℕ) : Type 0 where
  pub guest : GuestRecord
  pub here : guest_at w position ≡ Some guest

runs : (w : World) (domain : List ℕ) (next : ℕ → GuestRecord → Result ℕ Refusal) (position : ℕ)
    → (position_in w domain >>= (λ p. running_at w p >>= next p)) ≡ Ok position → (p : ℕ) × (g : GuestRecord) × (guest_at w p ≡ Some g) × (next p g ≡ Ok position)
runs w domain next position is =
    let found = passed (position_in w domain) (λ p. running_at w p >>= next p) position is in
    let guest = passed (running_at w found.0) (next found.0) position found.2 in
    (found.0, guest.0, some-passed (guest_at w found.0) _ guest.0 guest.1, guest.2)

same-place : (w : World) (p position : ℕ) (g : GuestRecord) → guest_at w p ≡ Some g → p ≡ position → guest_at w position ≡ Some g
same-place w p position g here same = subst (λ (k : ℕ). guest_at w k ≡ Some g) same here

only-runs : (w : World) (domain : List ℕ) (position : ℕ) → (position_in w domain >>= (λ p. running_at w p >>= (λ g. Ok p))) ≡ Ok position → RunsAt w position
only-runs w domain position is =
    let found = runs w domain (λ p g. Ok p) position is in
    let same : found.0 ≡ position = let e = found.3 in cc in
    record { guest = found.1; here = same-place w found.0 position found.1 found.2 same }

pub destroys-at : (w : World) (domain : List ℕ) (position : ℕ) → decision_on w (Destroy domain) ≡ Ok position → RunsAt w position
destroys-at w domain position is = only-runs w domain position is

pub shares-at : (w : World) (domain : List ℕ) (shares position : ℕ) → decision_on w (SetShares domain shares) ≡ Ok position → RunsAt w position
shares-at w domain shares position is = only-runs w domain position is

pub record CapsAt (w : World) (position most : ℕ) : Type 0 where
  pub guest : GuestRecord
  pub here : guest_at w position ≡ Some guest
  pub from : guest.allotment.min ≤ most
  pub to : most ≤ guest.config.size

pub caps-at : (w : World) (domain : List ℕ) (most position : ℕ) → decision_on w (SetMemory domain most) ≡ Ok position → CapsAt w position most
caps-at w domain most position is =
    let found = runs w domain (λ p g. if_cap g most p) position is in
    let g = found.1 in
    let from = unless-below most g.allotment.min _ _ position found.3 in
    let to = unless-below g.config.size most _ _ position from.1 in
    let same : found.0 ≡ position = let e = to.1 in cc in
    record { guest = g; here = same-place w found.0 position g found.2 same; from = from.0; to = to.0 }

pub record RaisesAt (w : World) (position least : ℕ) : Type 0 where
  pub guest : GuestRecord
  pub here : guest_at w position ≡ Some guest
  pub to : least ≤ guest.allotment.cap
  pub covers : IsCovered (booked_minimum (books_of w) guest least)

pub raises-at : (w : World) (domain : List ℕ) (least position : ℕ) → decision_on w (SetMinimum domain least) ≡ Ok position → RaisesAt w position least
raises-at w domain least position is =
    let found = runs w domain (λ p g. if_minimum g least p >>= (λ bounded. if_covered (booked_minimum (books_of w) g least) p)) position is in
    let p = found.0 in
    let g = found.1 in
    let within = passed (if_minimum g least p) (λ bounded. if_covered (booked_minimum (books_of w) g least) p) position found.3 in
    let to = unless-below g.allotment.cap least _ _ within.0 within.1 in
    let fits = covered (booked_minimum (books_of w) g least) p position within.2 in
    record { guest = g; here = same-place w p position g found.2 fits.1; to = to.0; covers = fits.0 }
