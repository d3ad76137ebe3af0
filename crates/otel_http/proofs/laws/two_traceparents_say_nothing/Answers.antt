use Rattle.otel_http.proofs.LawLemmas.{two_say_nothing}
use Rattle.otel_http.proofs.laws.two_traceparents_say_nothing.Goals as goal

pub returns : goal.returns
returns c = two_say_nothing
