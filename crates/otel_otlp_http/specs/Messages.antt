-- What the other side says of a failure, in the body of its answer (OTLP 1.7, "Failures" and "Partial Success"): a body
-- is read by the encoding of the request, and one that does not read so says nothing.
use Rattle.std.specs.Prelude.{◌≡◌, ◌⊎◌, ◌==◌, ℕ, List, [], ◌∷◌, Option, Some, None, Result, Ok, Err, codes}
use Rattle.std.specs.Prelude.{if◌then◌else◌, option_and_then, option_map}
use Rattle.std.specs.Str.{IsUtf8}
use Rattle.json.specs.Find.{as_str, get}
use Rattle.json.specs.Json.{Json, document}
use Rattle.otel_http_post.specs.declared.error.AnswerError.{AnswerError}
use Rattle.otel_otlp_protobuf.specs.declared.encoding.Encoding.{Encoding}
use Rattle.otel_otlp_protobuf.specs.declared.encoding.Encoding.TheVariants as encodings
use Rattle.otel_protobuf.specs.Reading.{Raw, number, eight, four, sized, fields_in, read_64}
use Rattle.otel_otlp_http.specs.declared.failure.ExportFailure.{ExportFailure}
use Rattle.otel_otlp_http.specs.declared.failure.ExportFailure.TheVariants as failures
use Rattle.otel_otlp_http.specs.declared.message.Message.{Message}
use Rattle.otel_otlp_http.specs.declared.message.Message.TheVariants as messages
use Rattle.otel_otlp_http.specs.Reasons.{shown_reason}

-- which message says why: that of a `google.rpc.Status`, or that of a partial success
abbrev pub message_for : Option ExportFailure → Option Message
message_for None = None
message_for (Some (failures.Retryable status retry_after)) = Some messages.OfStatus
message_for (Some (failures.Refused status)) = Some messages.OfStatus
message_for (Some (failures.PartlyRejected spans)) = Some messages.OfPartialSuccess
message_for (Some (failures.UnreadableSuccess status)) = None
message_for (Some (failures.UnreadSuccess status)) = None
message_for (Some (failures.Unanswered error)) = None
message_for (Some (failures.Unwritten kind)) = None
message_for (Some failures.Closed) = None
message_for (Some (failures.Unmade error)) = None
message_for (Some failures.NoResource) = None
message_for (Some failures.Lost) = None

-- the bytes that a field holds, or those before
abbrev pub bytes_or : List ℕ → Raw → List ℕ
bytes_or before (number n) = before
bytes_or before (eight n) = before
bytes_or before (four n) = before
bytes_or before (sized bs) = bs

-- the bytes after a field, where only fields of one number are wanted, and after fields
abbrev pub bytes_after : ℕ → List ℕ → ℕ × Raw → List ℕ
bytes_after wanted before f = if f.0 == wanted then bytes_or before f.1 else before

abbrev pub last_bytes : ℕ → List ℕ → List (ℕ × Raw) → List ℕ
last_bytes wanted before [] = before
last_bytes wanted before (f ∷ fs) = last_bytes wanted (bytes_after wanted before f) fs

-- the bytes of the last field of this number, in a message that reads
abbrev pub field_bytes : ℕ → List ℕ → Option (List ℕ)
field_bytes wanted bs = option_map (last_bytes wanted []) (fields_in read_64 bs)

-- the message in a body of protobuf: `Status { message = 2 }`, or
-- `ExportTraceServiceResponse { partial_success = 1 { error_message = 2 } }`
abbrev pub protobuf_message : Message → List ℕ → Option (List ℕ)
protobuf_message messages.OfStatus body = field_bytes 2 body
protobuf_message messages.OfPartialSuccess body = option_and_then (field_bytes 2) (field_bytes 1 body)

-- the same in JSON, where its members have these names
abbrev pub json_message : Message → Json → Option (List ℕ)
json_message messages.OfStatus body = option_and_then as_str (get (codes "message") body)
json_message messages.OfPartialSuccess body =
    option_and_then as_str (option_and_then (get (codes "errorMessage")) (get (codes "partialSuccess") body))

-- a text is shown, if there is one
abbrev pub shown_if_any : Option (List ℕ) → List ℕ
shown_if_any None = []
shown_if_any (Some text) = shown_reason text

-- bytes are shown, where they are a text
abbrev pub IsShown : List ℕ → List ℕ → Type 0
IsShown bytes reason = (IsUtf8 bytes × (reason ≡ shown_reason bytes)) ⊎ ((IsUtf8 bytes → ⊥) × (reason ≡ []))

abbrev pub IsShownIfAny : Option (List ℕ) → List ℕ → Type 0
IsShownIfAny None reason = reason ≡ []
IsShownIfAny (Some bytes) reason = IsShown bytes reason

-- what a body of JSON says: its message, or nothing where it is no document
abbrev pub ReadsJson : Message → List ℕ → List ℕ → Type 0
ReadsJson message body reason =
    ((answer : Json) × (document body ≡ Some answer) × (reason ≡ shown_if_any (json_message message answer)))
    ⊎ ((reason ≡ []) × (IsUtf8 body → document body ≡ None))

-- what a body says in its encoding
abbrev pub Reads : Encoding → Message → List ℕ → List ℕ → Type 0
Reads encodings.Protobuf message body reason = IsShownIfAny (protobuf_message message body) reason
Reads encodings.Json message body reason = ReadsJson message body reason

-- what a body says that was read, and one that was not; there may be no memory to read JSON
abbrev pub ReadsBody : Encoding → Message → Result (List ℕ) AnswerError → List ℕ → Type 0
ReadsBody encoding message (Ok body) reason =
    Reads encoding message body reason ⊎ ((encoding ≡ encodings.Json) × (reason ≡ []))
ReadsBody encoding message (Err error) reason = reason ≡ []

-- what is said of a failure
abbrev pub SaysWhy : Encoding → Option Message → Result (List ℕ) AnswerError → List ℕ → Type 0
SaysWhy encoding None body reason = reason ≡ []
SaysWhy encoding (Some message) body reason = ReadsBody encoding message body reason

abbrev pub HasReason : Encoding → Result (List ℕ) AnswerError → Option ExportFailure → List ℕ → Type 0
HasReason encoding body failure reason = SaysWhy encoding (message_for failure) body reason
