-- The member is there, or not.
use Rattle.std.specs.Prelude.{is_some}
use Rattle.std.proofs.Common.{◌∙◌, ap}
use Rattle.json.specs.Value.{value_view}
use Rattle.otel_otlp_read.specs.Requests.{is_misnamed}
use Rattle.otel_otlp_read.proofs.Items.{some_seen}
use Rattle.otel_otlp_read.proofs.request.is_misnamed.Goals as goal

pub returns : goal.returns
unfolding is_misnamed
returns c = c.is_some.ensures ∙ some_seen (λ v. value_view v.now) c.given.result ∙ ap is_some c.given.ensures
