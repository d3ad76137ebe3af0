-- Why a header is not set.
use Rattle.std.specs.Prelude.{◌≡◌, ◌↔◌, ℕ, List, IsFalse, IsTrue}
use Rattle.http_header.specs.FieldName.{IsFieldName}
use Rattle.http_header.specs.HeaderMap.{RefusesInsert}
use Rattle.http_header.specs.Token.{lowercase}
use Rattle.http_header.specs.declared.map.HeaderMapError.{HeaderMapError}
use Rattle.http_header.specs.declared.map.HeaderMapError.TheVariants.{MaxSizeReached, OutOfMemory}
use Rattle.otel_http.specs.Fields.{is_field_content}
use Rattle.otel_http.specs.Headers.{Headers}
use Rattle.otel_http.specs.declared.header_injector.SetHeaderError.{SetHeaderError}
use Rattle.otel_http.specs.declared.header_injector.SetHeaderError.TheVariants.{Full, Memory, Name, Value}

-- headers refuse a text under a name for this reason: a bad text comes first, then a bad name; they may have too many
-- names; and else there is no memory
pub record Refuses (headers : Headers) (name text : List ℕ) (reason : SetHeaderError) : Type 0 where
  pub is_value : (reason ≡ Value) ↔ IsFalse (is_field_content text)
  pub is_name : (reason ≡ Name) ↔ (IsTrue (is_field_content text) × ¬ (IsFieldName name))
  pub is_full : reason ≡ Full → RefusesInsert headers (lowercase name)

-- a map that is full, or had no memory
abbrev pub of_map_error : HeaderMapError → SetHeaderError
of_map_error MaxSizeReached = Full
of_map_error OutOfMemory = Memory
