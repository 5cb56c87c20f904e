-- Threads with a configuration each, and the runs that are left for them.
use Rattle.std.specs.Prelude.{◌≡◌, List, All, IfSome}
use Rattle.vm_config.specs.declared.config.Config.{Config}
use Rattle.vm_sweep.specs.declared.workplace.Workplace.{Workplace}
use Rattle.vm_sweep.specs.Orders.{IsVaried, Order, Shape, shape_of}

-- the thread can run the configuration with any such changes, or lacks the memory for it
pub record CanRun (base : Config) (alike : Shape) (place : Workplace) : Type 0 where
  pub shape : shape_of place.like ≡ alike
  pub config : IfSome place.config (IsVaried base alike)

-- a run of this configuration, which changes these guests
pub record IsRunOf (config : Config) (alike : Shape) (order : Order) : Type 0 where
  pub base : order.base ≡ config
  pub shape : shape_of order.variant.changes ≡ alike

-- all runs that are left are of one configuration, and change the same guests; each thread can run them
pub record IsUnderWay (left : List Order) (places : List Workplace) : Type 0 where
  pub base : Config
  pub shape : Shape
  pub same : All (IsRunOf base shape) left
  pub ready : All (CanRun base shape) places
