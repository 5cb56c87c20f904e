use Rattle.vm_steer.proofs.FieldLemmas.{bare_fields, number_of_fields}
use Rattle.vm_steer.proofs.law.law_records.Goals as goal

pub returns-clause-bare : goal.returns-clause-bare
returns-clause-bare c = bare_fields

pub returns-clause-fields : goal.returns-clause-fields
returns-clause-fields c = number_of_fields
