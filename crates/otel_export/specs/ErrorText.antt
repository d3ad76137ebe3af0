-- What the errors of the SDK print.
use Rattle.std.specs.Prelude.{ℕ, zero, suc, ◌+◌, ◌/◌, ◌%◌, ◌^◌, ◌==◌, nat_le, if◌then◌else◌}
use Rattle.std.specs.Prelude.{List, [], ◌∷◌, ◌++◌, string_bytes, codes}
use Rattle.std.specs.Fmt.{decimal}
use Rattle.std.specs.Duration.{as_nanos}
use Rattle.std.specs.declared.time.Duration.{Duration}
use Rattle.std.specs.declared.io.ErrorKind.{ErrorKind}
use Rattle.std.specs.declared.io.ErrorKind.TheVariants as streams
use Rattle.otel_export.specs.declared.error.OTelSdkError.{OTelSdkError}
use Rattle.otel_export.specs.declared.error.OTelSdkError.TheVariants.{AlreadyShutdown, Timeout}
use Rattle.otel_export.specs.declared.error.OTelSdkError.TheVariants.{InternalFailure, OutOfMemory}
use Rattle.otel_export.specs.declared.error.DurationUnit.{DurationUnit}
use Rattle.otel_export.specs.declared.error.DurationUnit.TheVariants.{Seconds, Milliseconds, Microseconds, Nanoseconds}

-- a unit is this power of ten in nanoseconds, and so its fraction has as many places
abbrev pub places : DurationUnit → ℕ
places Seconds = 9
places Milliseconds = 6
places Microseconds = 3
places Nanoseconds = 0

-- `s`, `ms`, `µs` in UTF-8, `ns`
abbrev pub symbol : DurationUnit → List ℕ
symbol Seconds = 115 ∷ []
symbol Milliseconds = 109 ∷ 115 ∷ []
symbol Microseconds = 194 ∷ 181 ∷ 115 ∷ []
symbol Nanoseconds = 110 ∷ 115 ∷ []

-- n in exactly k digits, with zeros in front
unfoldable pub padded_digits : ℕ → ℕ → List ℕ
padded_digits zero n = []
padded_digits (suc k) n = (48 + n / 10 ^ k) ∷ padded_digits k (n % 10 ^ k)

-- a digit in front of a text; a zero in front of nothing falls away
abbrev pub in_front : ℕ → List ℕ → List ℕ
in_front d [] = if d == 48 then [] else d ∷ []
in_front d (e ∷ es) = d ∷ e ∷ es

-- a text of digits without the zeros at its end
unfoldable pub without_trailing_zeros : List ℕ → List ℕ
without_trailing_zeros [] = []
without_trailing_zeros (d ∷ ds) = in_front d (without_trailing_zeros ds)

-- the point and the digits after it; nothing where nothing remains
unfoldable pub fraction_text : ℕ → ℕ → List ℕ
fraction_text k remainder = if remainder == 0 then [] else 46 ∷ without_trailing_zeros (padded_digits k remainder)

-- n nanoseconds in a unit: the whole part, its fraction and the unit's symbol
abbrev pub in_unit : DurationUnit → ℕ → List ℕ
in_unit unit n = decimal (n / 10 ^ places unit) ++ (fraction_text (places unit) (n % 10 ^ places unit) ++ symbol unit)

-- the largest unit of which n nanoseconds hold a whole one; nanoseconds where they are none
abbrev pub largest_unit : ℕ → DurationUnit
largest_unit n =
    if nat_le (10 ^ 9) n then Seconds
    else (if nat_le (10 ^ 6) n then Milliseconds
    else (if nat_le (10 ^ 3) n then Microseconds else Nanoseconds))

-- a duration in its largest unit
abbrev pub duration_text : Duration → List ℕ
duration_text d = in_unit (largest_unit (as_nanos d)) (as_nanos d)

-- what an error prints
abbrev pub error_text : OTelSdkError → List ℕ
error_text AlreadyShutdown = codes "Shutdown already invoked"
error_text (Timeout d) = codes "Operation timed out after " ++ duration_text d
error_text (InternalFailure reason) = codes "Operation failed: " ++ string_bytes reason
error_text OutOfMemory = codes "Operation found no memory"

-- the kind of the stream's error that one becomes
abbrev pub kind_of : OTelSdkError → ErrorKind
kind_of AlreadyShutdown = streams.NotConnected
kind_of (Timeout _) = streams.TimedOut
kind_of (InternalFailure _) = streams.Other
kind_of OutOfMemory = streams.OutOfMemory
