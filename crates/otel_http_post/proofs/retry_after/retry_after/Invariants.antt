-- No header so far has the name.
use Rattle.std.proofs.Common.{◌≡◌, drop, map}
use Rattle.httparse.specs.Spans.{header_bytes}
use Rattle.otel_http_post.specs.RetryAfter.{retry_after_of}
use Rattle.otel_http_post.proofs.retry_after.retry_after.Given as goal

abbrev pub invariant-loop-header : goal.invariant-loop-header
invariant-loop-header l =
    retry_after_of (map (header_bytes l.text) l.headers)
    ≡ retry_after_of (map (header_bytes l.text) (drop l.header-index l.headers))
