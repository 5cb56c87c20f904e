-- The errors of those that read a log.
use Rattle.vm_samples.specs.declared.fault.PolicyError.{PolicyError}
use Rattle.vm_samples.specs.declared.fault.PolicyError.TheVariants as policy
use Rattle.vm_samples.specs.declared.host_log.LogError.{LogError}
use Rattle.vm_samples.specs.declared.host_log.LogError.TheVariants as log
use Rattle.vm_log.specs.declared.log_error.PlanError.{PlanError}
use Rattle.vm_log.specs.declared.log_error.PlanError.TheVariants.{Policy, Read, TooLong, Memory}

abbrev pub error_of_log : LogError → PlanError
error_of_log log.Read = Read
error_of_log log.TooLong = TooLong
error_of_log log.Memory = Memory

abbrev pub error_of_policy : PolicyError → PlanError
error_of_policy (policy.Fault fault) = Policy fault
error_of_policy policy.Memory = Memory
