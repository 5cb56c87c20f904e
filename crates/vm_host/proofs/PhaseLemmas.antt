-- What the test of a host's phase tells, what a call leaves whose answer was tested, and which answers differ.
use Rattle.std.proofs.Common.{◌≡◌, ◌≢◌, true, false, OnErr, OnOk, Result, Ok, Err, refl}
use Rattle.std.specs.Result.{is_err}
use denote.Enum.Bare.{sameb}
use Rattle.vm_host.specs.contracts.phase.Phase.{the_type}
use Rattle.vm_host.specs.declared.host.HostError.{HostError}
use Rattle.vm_host.specs.declared.host.HostError.TheVariants.{Failed as HasFailed, Memory as NoMemory}
use Rattle.vm_host.specs.declared.phase.Phase.{Phase}
use Rattle.vm_host.specs.declared.phase.Phase.TheVariants.{Waiting, Ready, Failed}

pub is-failed : (phase : Phase) → sameb the_type phase Failed ≡ true → phase ≡ Failed
is-failed Waiting e = absurd cc
is-failed Ready e = absurd cc
is-failed Failed e = refl

pub not-failed : (phase : Phase) → sameb the_type phase Failed ≡ false → phase ≢ Failed
not-failed Waiting e is = absurd cc
not-failed Ready e is = absurd cc
not-failed Failed e is = absurd cc

pub left-ok : {A E : Type 0} (r : Result A E) (P : Type 0) → is_err r ≡ false → OnOk r P → P
left-ok (Ok x) P told is = is
left-ok (Err e) P told is = absurd cc

pub left-err : {A E : Type 0} (r : Result A E) (P : Type 0) → is_err r ≡ true → OnErr r P → P
left-err (Ok x) P told is = absurd cc
left-err (Err e) P told is = is

-- an answer is not another: stated apart, since `cc` reads all that is in scope
pub ok-err : {A E Goal : Type 0} {x : A} {e : E} → ◌≡◌ {A = Result A E} (Ok x) (Err e) → Goal
ok-err is = absurd cc

pub failed-memory : {A Goal : Type 0} → ◌≡◌ {A = Result A HostError} (Err HasFailed) (Err NoMemory) → Goal
failed-memory is = absurd cc

pub memory-failed : {A Goal : Type 0} → ◌≡◌ {A = Result A HostError} (Err NoMemory) (Err HasFailed) → Goal
memory-failed is = absurd cc
