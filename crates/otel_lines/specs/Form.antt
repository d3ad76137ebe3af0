-- A form of batches: how each is written, one after the other.
use Rattle.std.specs.Prelude.{ℕ, List, Option}
use Rattle.std.specs.List.{flat_map}
use Rattle.otel_resource.specs.Resource.{PlainResource}
use Rattle.otel_export.specs.PlainSpanData.{PlainSpanData}

-- the bytes of a batch of a resource, and the byte that ends a line, where batches are lines
pub record Form : Type 0 where
  pub bytes : PlainResource → List PlainSpanData → List ℕ
  pub line_end : Option ℕ

-- the bytes of batches of one resource, in order
abbrev pub bytes_in : Form → PlainResource → List (List PlainSpanData) → List ℕ
bytes_in form resource batches = flat_map (form.bytes resource) batches
