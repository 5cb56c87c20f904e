-- What each change that a boundary makes of its pool keeps.
use Rattle.std.proofs.Common.{◌≡◌, ◌∙◌, ℕ, ◌-◌, Bool, List, Option, length, fold, refl, arith}
use Rattle.vm_domains.specs.Machine.{MachineConfig}
use Rattle.vm_guest.specs.Boundary.{revoked, serviced}
use Rattle.vm_guest.specs.Good.{HasNothingPosted}
use Rattle.vm_plan.specs.declared.state.State.{State}
use Rattle.vm_plan.specs.Revocation.{shortfall_of}
use Rattle.vm_plan.proofs.ListLemmas.{grant_list-meets, revocation_list-meets}
use Rattle.vm_plan.proofs.Places.{grants_apply}
use Rattle.vm_pool.specs.CanMove.{CanRevoke}
use Rattle.vm_pool.specs.Changes.{all_changed, changed, taken_at, with_orders, with_spares_back}
use Rattle.vm_pool.specs.Pool.{PoolView, Conserves, EachGuest}
use Rattle.vm_host.proofs.RebalanceLemmas.{can-give}
use Rattle.vm_reclaim.specs.declared.room.Raise.{Raise}
use Rattle.vm_reclaim.specs.Boundary.{pool_balanced, pool_settled}
use Rattle.vm_reclaim.specs.Making.{IsNeededFor}
use Rattle.vm_reclaim.specs.Policy.{Policy}
use Rattle.vm_reclaim.specs.Rebalance.{pool_rebalanced, rebalances_in}
use Rattle.vm_reclaim.specs.Reclaim.{counts_of, grants_in, pool_granted, pool_paged, pool_revoked, revocations_in, blocks_in}
use Rattle.vm_reclaim.specs.Room.{raised, room_made, surplus_counts, revocations_for_room, with_surplus_back}
use Rattle.vm_reclaim.specs.Rows.{plan_pool_of, rows_of}
use Rattle.vm_reclaim.proofs.CanLemmas.{can_revoke}
use Rattle.vm_reclaim.proofs.CarryLemmas.{counts-releasable, length-paging}
use Rattle.vm_reclaim.proofs.RoomLemmas.{list_of_room}
use Rattle.vm_reclaim.proofs.FairLemmas.{fair-boundary, rows-shares}
use Rattle.vm_reclaim.proofs.RowLemmas.{can_grant, length-raised, length-shares, releasable}
use Rattle.vm_reclaim.proofs.TakeLemmas.{can_make}
use Rattle.vm_sound.specs.Books.{accounts_of}
use Rattle.vm_sound.specs.Moves.{CanTake}
use Rattle.vm_sound.specs.Sound.{HasSameSetup, IsSoundPool}
use Rattle.vm_sound.proofs.BooksLemmas.{books-all_granted, books-all_revoked, books-all_taken, books-orders, books-released, books-serviced, books-spares}
use Rattle.vm_sound.proofs.FramesLemmas.{conserves-all_granted, conserves-all_revoked, conserves-all_taken, conserves-orders, conserves-released, conserves-serviced, conserves-spares, setup-all_granted, setup-all_revoked, setup-all_taken}
use Rattle.vm_sound.proofs.ServedLemmas.{served-all_granted, served-all_revoked, served-all_taken, served-orders, served-released, served-serviced, served-spares}
use Rattle.vm_sound.proofs.SoundPoolLemmas.{sound-all_granted, sound-all_revoked, sound-all_taken, sound-orders, sound-released, sound-serviced, sound-spares}
use Rattle.vm_tax.specs.Ratio.{Tax}

-- the pool is sound, and its frames add up
pub record IsWhole (pool : PoolView) : Type 0 where
  pub sound : IsSoundPool pool
  pub adds_up : Conserves pool

-- it still is, set up as before, with the same promises to its guests, and nothing was posted
pub record Keeps (machine : MachineConfig) (old new : PoolView) : Type 0 where
  pub setup : HasSameSetup old new
  pub whole : IsWhole new
  pub booked : accounts_of machine new.guests ≡ accounts_of machine old.guests
  pub served : EachGuest HasNothingPosted old → EachGuest HasNothingPosted new

pub keeps-then : (machine : MachineConfig) (a b c : PoolView) → Keeps machine a b → Keeps machine b c → Keeps machine a c
keeps-then machine a b c first second = record {
  setup = record {
    frames = second.setup.frames ∙ first.setup.frames;
    overhead = second.setup.overhead ∙ first.setup.overhead;
    configs = second.setup.configs ∙ first.setup.configs;
  };
  whole = second.whole;
  booked = second.booked ∙ first.booked;
  served = λ nothing. second.served (first.served nothing);
}

-- ---- before the lines

pub keeps-serviced : (machine : MachineConfig) (pool : PoolView) → IsWhole pool → Keeps machine pool (all_changed serviced pool)
keeps-serviced machine pool whole = record {
  setup = record { frames = refl; overhead = refl; configs = refl };
  whole = record { sound = sound-serviced pool whole.sound; adds_up = conserves-serviced pool whole.adds_up };
  booked = books-serviced machine pool;
  served = λ nothing. served-serviced pool;
}

pub keeps-spares : (machine : MachineConfig) (pool : PoolView) → IsWhole pool → Keeps machine pool (with_spares_back pool)
keeps-spares machine pool whole = record {
  setup = record { frames = refl; overhead = refl; configs = refl };
  whole = record { sound = sound-spares pool whole.sound; adds_up = conserves-spares pool whole.adds_up };
  booked = books-spares machine pool;
  served = served-spares pool;
}

-- ---- room

length-counts : (raise : Option Raise) (needed : ℕ) (pool : PoolView) → length (surplus_counts raise needed pool) ≡ length pool.guests
length-counts raise needed pool = length-shares (needed - pool.free) (raised raise pool).guests ∙ length-raised raise pool

keeps-surplus : (machine : MachineConfig) (raise : Option Raise) (needed : ℕ) (pool : PoolView) → IsWhole pool → Keeps machine pool (with_surplus_back raise needed pool)
keeps-surplus machine raise needed pool whole =
    let counts = surplus_counts raise needed pool in
    let few = releasable raise needed pool in
    record {
      setup = record { frames = refl; overhead = refl; configs = refl };
      whole = record {
        sound = sound-released counts pool few whole.sound;
        adds_up = conserves-released counts pool few (length-counts raise needed pool) whole.adds_up;
      };
      booked = books-released machine counts pool;
      served = served-released counts pool;
    }

keeps-taken : (machine : MachineConfig) (moves : List ℕ) (pool : PoolView) → CanTake pool moves → IsWhole pool → Keeps machine pool (fold taken_at pool moves)
keeps-taken machine moves pool can whole = record {
  setup = setup-all_taken moves pool;
  whole = record { sound = sound-all_taken moves pool can whole.sound; adds_up = conserves-all_taken moves pool can whole.adds_up };
  booked = books-all_taken machine moves pool;
  served = served-all_taken moves pool;
}

pub keeps-room : (machine : MachineConfig) (tax : Tax) (raise : Option Raise) (needed : ℕ) (pool : PoolView) → IsNeededFor raise needed pool → IsWhole pool
    → Keeps machine pool (room_made tax raise needed pool)
keeps-room machine tax raise needed pool is whole =
    let left = with_surplus_back raise needed pool in
    let moves = revocations_for_room tax raise needed pool in
    let list = list_of_room tax raise needed pool whole.sound.good in
    let can = can_make tax raise needed (needed - left.free) pool moves whole.sound.good is (omega arith) list in
    let first = keeps-surplus machine raise needed pool whole in
    keeps-then machine pool left (room_made tax raise needed pool) first (keeps-taken machine moves left can first.whole)

-- ---- after the lines

keeps-fallen : (machine : MachineConfig) (moves : List ℕ) (pool : PoolView) → CanRevoke pool moves → IsWhole pool → Keeps machine pool (fold (changed revoked) pool moves)
keeps-fallen machine moves pool can whole = record {
  setup = setup-all_revoked moves pool;
  whole = record { sound = sound-all_revoked moves pool can whole.sound; adds_up = conserves-all_revoked moves pool whole.adds_up };
  booked = books-all_revoked machine moves pool;
  served = served-all_revoked moves pool;
}

keeps-revoked : (machine : MachineConfig) (policy : Policy) (state : State) (pool : PoolView) → IsWhole pool → Keeps machine pool (pool_revoked policy state pool)
keeps-revoked machine policy state pool whole =
    let moves = revocations_in policy state pool in
    let wanted = shortfall_of state pool.free policy.thresholds (rows_of pool.guests) in
    let list = revocation_list-meets policy.tax wanted (rows_of pool.guests) (rows-shares pool.guests whole.sound.good) in
    keeps-fallen machine moves pool (can_revoke policy.tax pool moves (fair-boundary policy.tax wanted pool moves list)) whole

keeps-paged : (machine : MachineConfig) (policy : Policy) (state : State) (pool : PoolView) → IsWhole pool → Keeps machine pool (pool_paged policy state pool)
keeps-paged machine policy state pool whole =
    let counts = counts_of state policy.page_rate pool.guests in
    let few = counts-releasable state policy.page_rate pool.guests in
    record {
      setup = record { frames = refl; overhead = refl; configs = refl };
      whole = record {
        sound = sound-released counts pool few whole.sound;
        adds_up = conserves-released counts pool few (length-paging state policy.page_rate pool.guests) whole.adds_up;
      };
      booked = books-released machine counts pool;
      served = served-released counts pool;
    }

keeps-granted : (machine : MachineConfig) (policy : Policy) (state : State) (pool : PoolView) → IsWhole pool → Keeps machine pool (pool_granted policy state pool)
keeps-granted machine policy state pool whole =
    let moves = grants_in policy state pool in
    let list = grant_list-meets state policy.thresholds policy.tax (plan_pool_of pool) (rows-shares pool.guests whole.sound.good) in
    let can = can_grant (plan_pool_of pool) pool moves refl (grants_apply state policy.thresholds policy.tax (plan_pool_of pool) moves list.each_next) in
    record {
      setup = setup-all_granted moves pool;
      whole = record { sound = sound-all_granted moves pool can whole.sound; adds_up = conserves-all_granted moves pool can whole.adds_up };
      booked = books-all_granted machine moves pool;
      served = served-all_granted moves pool;
    }

keeps-orders : (machine : MachineConfig) (blocks : Bool) (pool : PoolView) → IsWhole pool → Keeps machine pool (with_orders blocks pool)
keeps-orders machine blocks pool whole = record {
  setup = record { frames = refl; overhead = refl; configs = refl };
  whole = record { sound = sound-orders blocks pool whole.sound; adds_up = conserves-orders blocks pool whole.adds_up };
  booked = books-orders machine blocks pool;
  served = served-orders blocks pool;
}

keeps-rebalanced : (machine : MachineConfig) (policy : Policy) (state : State) (pool : PoolView) → IsWhole pool → Keeps machine pool (pool_rebalanced policy state pool)
keeps-rebalanced machine policy state pool whole = keeps-fallen machine (rebalances_in policy state pool) pool (can-give policy state pool whole.sound.good) whole

-- targets fell, guests gave up frames, and targets rose
pub keeps-settled : (machine : MachineConfig) (policy : Policy) (state : State) (pool : PoolView) → IsWhole pool → Keeps machine pool (pool_settled policy state pool)
keeps-settled machine policy state pool whole =
    let fallen = pool_revoked policy state pool in
    let paged = pool_paged policy state fallen in
    let settled = pool_settled policy state pool in
    let first = keeps-revoked machine policy state pool whole in
    let second = keeps-paged machine policy state fallen first.whole in
    let third = keeps-granted machine policy state paged second.whole in
    keeps-then machine pool fallen settled first (keeps-then machine fallen paged settled second third)

-- then they fell for guests that would pay more, and the guests have their orders
abbrev pub pool_finished : Policy → State → PoolView → PoolView
pool_finished policy state pool = with_orders (blocks_in state) (pool_balanced policy state pool)

pub keeps-finished : (machine : MachineConfig) (policy : Policy) (state : State) (pool : PoolView) → IsWhole pool → Keeps machine pool (pool_finished policy state pool)
keeps-finished machine policy state pool whole =
    let settled = pool_settled policy state pool in
    let balanced = pool_balanced policy state pool in
    let first = keeps-settled machine policy state pool whole in
    let second = keeps-rebalanced machine policy state settled first.whole in
    let third = keeps-orders machine (blocks_in state) balanced second.whole in
    keeps-then machine pool settled (pool_finished policy state pool) first
    (keeps-then machine settled balanced (pool_finished policy state pool) second third)
