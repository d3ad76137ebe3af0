-- What a field holds as a program has read it.
use Rattle.std.specs.Prelude.{ℕ, List, Option, option_map}
use Rattle.std.specs.Borrow.{Bor}
use Rattle.otel_protobuf.specs.Reading.{Raw, number, eight, four, sized}
use Rattle.otel_protobuf.specs.declared.reader.Held.{Held}
use Rattle.otel_protobuf.specs.declared.reader.Held.TheVariants as helds

abbrev pub raw_of : Held → Raw
raw_of (helds.Number n) = number n
raw_of (helds.Eight n) = eight n
raw_of (helds.Four n) = four n
raw_of (helds.Sized bs) = sized bs.now

-- a number, and the bytes after it
abbrev pub shown : Option (ℕ × Bor (List ℕ)) → Option (ℕ × List ℕ)
shown read = option_map (λ r. (r.0, r.1.now)) read

-- bytes, and those after them
abbrev pub shown_sized : Option (Bor (List ℕ) × Bor (List ℕ)) → Option (List ℕ × List ℕ)
shown_sized read = option_map (λ r. (r.0.now, r.1.now)) read
