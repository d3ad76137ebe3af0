use Rattle.std.proofs.Common.{◌≢◌, ℕ, ◌<◌, get_or}
use Rattle.http_header.specs.Token.{lowercase}
use Rattle.otel_http.specs.declared.header_extractor.Repeated.{Repeated}
use Rattle.otel_http.proofs.header_extractor.text_of.Given as goal

abbrev pub invariant-loop-field : goal.invariant-loop-field
invariant-loop-field l =
    (k : ℕ) (d : Repeated) → k < l.field-index → (get_or l.repeated k d).name.now ≢ lowercase l.key
