use Rattle.std.proofs.Common.{◌∙◌, sym}
use Rattle.opentelemetry.specs.Tracestate.{members}
use Rattle.opentelemetry.proofs.Tracestates.{spells_only}
use Rattle.opentelemetry.proofs.laws.tracestates_read_once.Goals as goal

pub returns : goal.returns
returns c = λ text these those first second. (spells_only (members text) these first).1 ∙ sym (spells_only (members text) those second).1
