-- Runs of one configuration, round by round.
use Rattle.std.proofs.Common.{◌≡◌, ◌∙◌, ◌<◌, zero, suc, List, [], ◌∷◌, ◌++◌, length, map, sym, subst, arith, refl, IfSome}
use Rattle.std.specs.List.{All}
use Rattle.std.specs.Prelude.{slice_get}
use Rattle.vm_config.specs.declared.config.Config.{Config}
use Rattle.vm_sweep.specs.Combinations.{ValueLists, variants}
use Rattle.vm_sweep.specs.declared.workplace.Workplace.{Workplace}
use Rattle.vm_sweep.specs.declared.outcome.Detail.{Detail}
use Rattle.vm_sweep.specs.declared.variant.Variant.{Variant}
use Rattle.vm_sweep.specs.Orders.{Order, Shape, order_of, shape_of}
use Rattle.vm_sweep.specs.Rounds.{CanRun, IsRunOf, IsUnderWay}
use Rattle.vm_sweep.proofs.ShapeLemmas.{variants-have}
use Rattle.vm_variants.specs.Changes.{Variation}

all-behind : {X : Type 0} (P : X → Type 0) (xs ys : List X) → All P (xs ++ ys) → All P ys
all-behind P [] ys h = h
all-behind P (x ∷ xs) ys h = all-behind P xs ys (λ k d less. h (suc k) d (omega (arith, less)))

all-before : {X : Type 0} (P : X → Type 0) (xs ys : List X) → All P (xs ++ ys) → All P xs
all-before P [] ys h k d less = absurd (omega (arith, less))
all-before P (x ∷ xs) ys h zero d less = h zero d (omega arith)
all-before P (x ∷ xs) ys h (suc k) d less = all-before P xs ys (λ k d less. h (suc k) d (omega (arith, less))) k d (omega (arith, less))

-- what is so of the runs of one configuration that change the same guests
abbrev Serves : Workplace → Order → Type 0
Serves place order = CanRun order.base (shape_of order.variant.changes) place

of-run : (base : Config) (shape : Shape) (order : Order) (place : Workplace) → IsRunOf base shape order → CanRun base shape place → Serves place order
of-run base shape order place is can =
    subst (λ (c : Config). CanRun c (shape_of order.variant.changes) place) (sym is.base)
    (subst (λ (s : Shape). CanRun base s place) (sym is.shape) can)

to-run : (base : Config) (shape : Shape) (order : Order) (place : Workplace) → IsRunOf base shape order → Serves place order → CanRun base shape place
to-run base shape order place is serves =
    subst (λ (s : Shape). CanRun base s place) is.shape (subst (λ (c : Config). CanRun c (shape_of order.variant.changes) place) is.base serves)

-- each thread can do the runs of the next round
pub under-way_serves : (left new round : List Order) (places : List Workplace) → left ≡ round ++ new → IsUnderWay left places
    → All (λ place. All (Serves place) round) places
under-way_serves left new round places is far = λ k d less j e there.
    let same = all-before (IsRunOf far.base far.shape) round new (subst (All (IsRunOf far.base far.shape)) is far.same) in
    of-run far.base far.shape _ _ (same j e there) (far.ready k d less)

-- and what it could it can
pub under-way_next : (left new round : List Order) (places after : List Workplace) → left ≡ round ++ new → 0 < length round → IsUnderWay left places
    → All (λ place. All (Serves place) round) after → IsUnderWay new after
under-way_next left new [] places after is some far serves = absurd (omega (arith, some))
under-way_next left new (order ∷ round) places after is some far serves =
    let same = subst (All (IsRunOf far.base far.shape)) is far.same in
    record {
      base = far.base;
      shape = far.shape;
      same = all-behind (IsRunOf far.base far.shape) (order ∷ round) new same;
      ready = λ k d less. to-run far.base far.shape order _ (same 0 order (omega arith)) (serves k d less 0 order (omega arith));
    }

all-of : (detail : Detail) (config : Config) (shape : Shape) (list : List Variant) → All (λ v. shape_of v.changes ≡ shape) list
    → All (IsRunOf config shape) (map (order_of detail config) list)
all-of detail config shape [] have k d less = absurd (omega (arith, less))
all-of detail config shape (v ∷ list) have zero d less = record { base = refl; shape = have zero v (omega arith) }
all-of detail config shape (v ∷ list) have (suc k) d less =
    all-of detail config shape list (λ k d less. have (suc k) d (omega (arith, less))) k d (omega (arith, less))

-- all are like the first
like-first : (list : List Variant) (shape : Shape) (like : Variation) → All (λ v. shape_of v.changes ≡ shape) list
    → IfSome (slice_get list 0) (λ first. like ≡ first.changes) → All (λ v. shape_of v.changes ≡ shape_of like) list
like-first [] shape like have is = λ k d less. absurd (omega (arith, less))
like-first (v ∷ list) shape like have is = λ k d less. have k d less ∙ sym (have 0 v (omega arith)) ∙ (λ i. shape_of (sym is i))

-- before the first round
pub under-way_first : (detail : Detail) (config : Config) (lists : ValueLists) (list : List Variant) (like : Variation) (left : List Order)
    (places : List Workplace) → list ≡ variants lists config → IfSome (slice_get list 0) (λ first. like ≡ first.changes)
    → left ≡ map (order_of detail config) list → All (CanRun config (shape_of like)) places → IsUnderWay left places
under-way_first detail config lists list like left places are first is ready =
    let have = variants-have lists config in
    let same = like-first list have.0 like (subst (All (λ (v : Variant). shape_of v.changes ≡ have.0)) (sym are) have.1) first in
    record {
      base = config;
      shape = shape_of like;
      same = subst (All (IsRunOf config (shape_of like))) (sym is) (all-of detail config (shape_of like) list same);
      ready = ready;
    }
