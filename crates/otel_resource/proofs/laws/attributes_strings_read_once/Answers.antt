use Rattle.otel_resource.proofs.AttributesStringLemmas.{string_reads_some, string_reads_once}
use Rattle.otel_resource.proofs.laws.attributes_strings_read_once.Goals as goal

pub returns-clause-some : goal.returns-clause-some
returns-clause-some c = string_reads_some

pub returns-clause-once : goal.returns-clause-once
returns-clause-once c = string_reads_once
