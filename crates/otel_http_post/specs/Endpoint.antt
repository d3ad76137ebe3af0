-- Where requests go.
use Rattle.std.specs.Prelude.{ℕ, List}
use Rattle.http1.specs.Fields.{Header}

-- the target of a request, the value of its `host`, and further headers
pub record PlainEndpoint : Type 0 where
  pub path : List ℕ
  pub host : List ℕ
  pub headers : List Header
