-- After how many seconds to try again, as the headers of an answer say (RFC 9110, section 10.2.3).
use Rattle.std.specs.Prelude.{ℕ, List, [], ◌∷◌, Option, None, codes, if◌then◌else◌}
use Rattle.http1.specs.Fields.{Header, is_named}
use Rattle.otel_http_post.specs.Count.{count_in}

-- what the first header of this name says
abbrev pub retry_after_of : List Header → Option ℕ
retry_after_of [] = None
retry_after_of (h ∷ hs) = if is_named (codes "retry-after") h then count_in h.1 else retry_after_of hs
