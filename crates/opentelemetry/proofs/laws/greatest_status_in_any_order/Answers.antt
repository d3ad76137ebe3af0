use Rattle.opentelemetry.proofs.StatusLaws.{greatest_in_any_order}
use Rattle.opentelemetry.proofs.laws.greatest_status_in_any_order.Goals as goal

pub returns : goal.returns
returns c = greatest_in_any_order
