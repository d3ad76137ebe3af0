-- Why there is no request.
use Rattle.std.specs.Prelude.{◌≡◌, ℕ, List, Some, codes}
use Rattle.http1.specs.declared.conn.BodySize.TheVariants.{Known}
use Rattle.http1.specs.declared.error.WriteError.{WriteError}
use Rattle.http1.specs.declared.error.WriteError.TheVariants as refusals
use Rattle.http1.specs.Client.{new_client, request_refusal}
use Rattle.http1.specs.Fields.{Header, known_fields}
use Rattle.otel_http_post.specs.declared.error.PostError.{PostError}
use Rattle.otel_http_post.specs.declared.error.PostError.TheVariants as errors
use Rattle.otel_http_post.specs.Endpoint.{PlainEndpoint}
use Rattle.otel_http_post.specs.Request.{LeavesLength, limits, post_headers}

-- what a refusal of http1's client is here
abbrev pub refusal_of : WriteError → PostError
refusal_of refusals.OutOfMemory = errors.OutOfMemory
refusal_of error = errors.Refused error

-- why there is no request with these headers and a body of so many bytes
abbrev pub RefusesHeaders : List ℕ → List Header → ℕ → PostError → Type 0
RefusesHeaders path headers len errors.OutOfMemory = Unit {0}
RefusesHeaders path headers len errors.StatesLength = ¬ LeavesLength (known_fields headers)
RefusesHeaders path headers len (errors.Refused error) =
    request_refusal (new_client limits) (codes "POST") path (Known len) headers ≡ Some error

-- why there is no request to an endpoint
abbrev pub RefusesPost : PlainEndpoint → List ℕ → ℕ → PostError → Type 0
RefusesPost endpoint content_type len error =
    RefusesHeaders endpoint.path (post_headers endpoint content_type) len error
