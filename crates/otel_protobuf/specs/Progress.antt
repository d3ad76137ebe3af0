-- How far a message has come, of which the last bytes come first.
use Rattle.std.specs.Prelude.{◌≡◌, ℕ, ◌+◌, Bool, List, ◌++◌, length, IsTrue, if◌then◌else◌}
use Rattle.otel_protobuf.specs.Wire.{Field, message_bytes}

-- what stands in front of the message, whether its bytes are only counted, for how many there is room, and which were
-- written, if nothing has gone wrong
pub record Progress : Type 0 where
  pub before : List ℕ
  pub only_counts : Bool
  pub is_whole : Bool
  pub left : ℕ
  pub written : List ℕ

-- these bytes come next, in front of those before, unless something goes wrong; what stands in front of the message
-- stays
pub record Takes (old new : Progress) (bytes : List ℕ) : Type 0 where
  pub before : new.before ≡ old.before
  pub only_counts : new.only_counts ≡ old.only_counts
  pub whole : IsTrue new.is_whole → IsTrue old.is_whole
  pub left : IsTrue new.is_whole → old.left ≡ new.left + length bytes
  pub written : IsTrue new.is_whole → new.written ≡ (if old.only_counts then old.written else bytes ++ old.written)

-- these fields come next
abbrev pub TakesFields : Progress → Progress → List Field → Type 0
TakesFields old new fields = Takes old new (message_bytes fields)
