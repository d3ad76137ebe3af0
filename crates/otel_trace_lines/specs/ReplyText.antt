-- The texts of replies. Each reply has a line of its own, or two for headers, after the lines of the spans that were
-- exported.
use Rattle.std.specs.Prelude.{ℕ, List, ◌∷◌, ◌++◌, codes}
use Rattle.otel_propagation.specs.Traceparent.{context_text}
use Rattle.otel_console.specs.SpanText.{line}

-- what answers a start whose span records
abbrev pub started_line : ℕ → ℕ → ℕ → List ℕ
started_line trace_id span_id trace_flags = line (codes "started " ++ context_text trace_id span_id trace_flags)

-- what answers a start whose span does not record
abbrev pub dropped_line : ℕ → ℕ → ℕ → List ℕ
dropped_line trace_id span_id trace_flags = line (codes "dropped " ++ context_text trace_id span_id trace_flags)

-- what answers an edit of a recording span, and a call that went well
abbrev pub ok_line : List ℕ
ok_line = line (codes "ok")

-- the line of a header
abbrev pub header_line : List ℕ → List ℕ → List ℕ
header_line name value = line (name ++ 61 ∷ value)

-- what answers an inject of a span with valid ids: two lines
abbrev pub headers_lines : List ℕ → List ℕ → List ℕ
headers_lines parent state = header_line (codes "traceparent") parent ++ header_line (codes "tracestate") state

-- what answers an inject of another span
abbrev pub no_headers_line : List ℕ
no_headers_line = line (codes "no headers")

-- what answers an edit or an end of a span that does not record
abbrev pub ignored_line : List ℕ
ignored_line = line (codes "ignored")

-- what answers a text that names no span
abbrev pub no_such_span_line : List ℕ
no_such_span_line = line (codes "no such span")

-- what answers a start under a text that names a span already
abbrev pub span_exists_line : List ℕ
span_exists_line = line (codes "span exists")

-- what answers that the name of a recording span be given up
abbrev pub still_open_line : List ℕ
still_open_line = line (codes "still open")

-- what answers an end of a recording span
abbrev pub ended_line : List ℕ
ended_line = line (codes "ended")
