-- Reading an answer, a call of http1's client after the other.
use Rattle.std.specs.Prelude.{◌≡◌, ℕ, ◌<◌, ◌≤◌, ◌==◌, Bool, true, false, List, ◌++◌, length, map, drop, Option, IsFalse}
use Rattle.std.specs.Io.KnownBytes.{IsAtEnd}
use Rattle.httparse.specs.Grammar.{ResponseHead, status_code}
use Rattle.httparse.specs.Spans.{name_and_value, span_bytes}
use Rattle.httparse.specs.declared.spans.HeaderSpan.{HeaderSpan}
use Rattle.httparse.specs.declared.spans.ResponseSpans.{ResponseSpans}
use Rattle.http1.specs.Body.{Body}
use Rattle.http1.specs.Client.{ClientReads, HasNoHead, after_head, is_interim}
use Rattle.http1.specs.Conn.{awaits_head}
use Rattle.http1.specs.Decoder.{Completes, HasNoBody, with_front}
use Rattle.http1.specs.Message as message
use Rattle.http1.specs.ServerTrace.{headers_at}
use Rattle.http1.specs.declared.client.Client.{Client}
use Rattle.http1.specs.declared.conn.Event.{Event}
use Rattle.http1.specs.declared.conn.Event.TheVariants.{NeedMore, Head, Informational, Data, End}
use Rattle.http1.specs.declared.conn.Reading.TheVariants as Reads
use Rattle.http1.specs.declared.conn.Writing.TheVariants as Writes
use Rattle.http1.specs.declared.decode.Decoder.{Decoder}
use Rattle.http1.specs.declared.decode.Decoder.TheVariants as Decoding
use Rattle.http1.specs.declared.framing.Framing.{Framing}
use Rattle.http1.specs.declared.framing.MethodKind.TheVariants as Method
use Rattle.otel_http_post.specs.declared.body.BodyStep.{BodyStep}
use Rattle.otel_http_post.specs.declared.body.BodyStep.TheVariants as Piece
use Rattle.otel_http_post.specs.declared.error.AnswerError.{AnswerError}
use Rattle.otel_http_post.specs.declared.error.AnswerError.TheVariants as errors
use Rattle.otel_http_post.specs.declared.head.AnswerHead.{AnswerHead}
use Rattle.otel_http_post.specs.declared.head.HeadStep.{HeadStep}
use Rattle.otel_http_post.specs.declared.head.HeadStep.TheVariants as Step
use Rattle.otel_http_post.specs.Answer.{BeginsInforming, BeginsNothing, max_headers}
use Rattle.otel_http_post.specs.Request.{limits}
use Rattle.otel_http_post.specs.RetryAfter.{retry_after_of}

-- a client that has sent a request, and waits for the head of its answer
pub record IsWaiting (client : Client) : Type 0 where
  pub limits_are : client.limits ≡ limits
  pub reading : client.reading ≡ Reads.Head
  pub writing : client.writing ≡ Writes.Done
  pub method : client.method ≡ Method.Other

-- nothing more came, for no fault of what was said
abbrev pub IsOfStream : AnswerError → Type 0
IsOfStream (errors.Unreadable error) = ⊥
IsOfStream errors.RequestTimeout = ⊥
IsOfStream errors.TooLarge = ⊥
IsOfStream errors.Ended = ⊥
IsOfStream (errors.Stream kind) = Unit {0}
IsOfStream errors.OutOfMemory = Unit {0}

-- one call of `read`: the client and the bytes that were there, the event, the client after it and the bytes left
pub record TakesEvent (old : Client) (input : List ℕ) (spans : List HeaderSpan) (event : Event ResponseSpans)
    (new : Client) (left : List ℕ) : Type 0 where
  pub consumed : ℕ
  pub reads : ClientReads old input spans new (record { consumed = consumed; event = event })
  pub left_is : left ≡ drop consumed input

-- what a step says of an event where a head is due
abbrev pub SaysHead : List ℕ → List HeaderSpan → Event ResponseSpans → HeadStep → Type 0
SaysHead input spans NeedMore Step.More = Unit {0}
SaysHead input spans (Informational r) Step.Informed = Unit {0}
SaysHead input spans (Head r) (Step.Found head) =
    (head.status ≡ r.code) × (head.retry_after ≡ retry_after_of (headers_at input spans r.headers))
SaysHead input spans event step = ⊥

-- what a step takes where a head is due
abbrev pub TakesHead : Client → List ℕ → Client → List ℕ → HeadStep → Type 0
TakesHead old input new left step =
    (spans : List HeaderSpan) × (event : Event ResponseSpans) × TakesEvent old input spans event new left
    × SaysHead input spans event step

-- why a step takes none
abbrev pub RefusesHead : Client → List ℕ → AnswerError → Type 0
RefusesHead client input (errors.Unreadable error) = HasNoHead client input max_headers
RefusesHead client input errors.RequestTimeout = ⊥
RefusesHead client input errors.TooLarge = ⊥
RefusesHead client input errors.Ended = ⊥
RefusesHead client input (errors.Stream kind) = Unit {0}
RefusesHead client input errors.OutOfMemory = Unit {0}

-- what a step says of an event within a body, and what it keeps
abbrev pub SaysPiece : List ℕ → List ℕ → List ℕ → Event ResponseSpans → BodyStep → Type 0
SaysPiece input body kept NeedMore Piece.More = kept ≡ body
SaysPiece input body kept (Data s) Piece.Kept = kept ≡ body ++ span_bytes input s
SaysPiece input body kept (End count) Piece.Ended = kept ≡ body
SaysPiece input body kept event step = ⊥

-- what a step takes within a body
abbrev pub TakesPiece : Client → List ℕ → List ℕ → Client → List ℕ → List ℕ → BodyStep → Type 0
TakesPiece old input body new left kept step =
    (spans : List HeaderSpan) × (event : Event ResponseSpans) × TakesEvent old input spans event new left
    × SaysPiece input body kept event step

-- why a piece is not kept
abbrev pub RefusesKeeping : ℕ → List ℕ → List ℕ → AnswerError → Type 0
RefusesKeeping limit body piece (errors.Unreadable error) = ⊥
RefusesKeeping limit body piece errors.RequestTimeout = ⊥
RefusesKeeping limit body piece errors.TooLarge = limit < length (body ++ piece)
RefusesKeeping limit body piece errors.Ended = ⊥
RefusesKeeping limit body piece (errors.Stream kind) = ⊥
RefusesKeeping limit body piece errors.OutOfMemory = Unit {0}

-- why a step takes nothing of a body, of which some bytes were kept, whatever follows
abbrev pub RefusesPiece : Decoder → List ℕ → List ℕ → ℕ → AnswerError → Type 0
RefusesPiece decoder input kept limit (errors.Unreadable error) = HasNoBody decoder input max_headers
RefusesPiece decoder input kept limit errors.RequestTimeout = ⊥
RefusesPiece decoder input kept limit errors.TooLarge =
    (more : List ℕ) (body : Body) (rest : List ℕ) → Completes decoder (input ++ more) body rest
    → limit < length (kept ++ body.bytes)
RefusesPiece decoder input kept limit errors.Ended = ⊥
RefusesPiece decoder input kept limit (errors.Stream kind) = ⊥
RefusesPiece decoder input kept limit errors.OutOfMemory =
    (more : List ℕ) (body : Body) (rest : List ℕ) → Completes decoder (input ++ more) body rest
    → 0 < length body.bytes

-- whatever more comes, what was received begins with responses that only inform, and then comes what is left
pub record HasInformed (begun : Client) (received : List ℕ) (client : Client) (left : List ℕ) : Type 0 where
  pub informs : (more : List ℕ) → BeginsInforming (received ++ more) (left ++ more)
  pub waits : client ≡ begun

-- the head of a response that does not only inform was read
pub record HasHead (begun : Client) (received : List ℕ) (client : Client) (left : List ℕ) (found : AnswerHead)
    : Type 0 where
  pub start : List ℕ
  pub informs : (more : List ℕ) → BeginsInforming (received ++ more) (start ++ more)
  pub head : ResponseHead
  pub framing : Framing
  pub accepts : (more : List ℕ)
      → message.AcceptsResponse limits Method.Other (start ++ more) head framing (left ++ more)
  pub final : IsFalse (is_interim (status_code head))
  pub status : status_code head ≡ found.status
  pub retry_after : retry_after_of (map name_and_value head.fields) ≡ found.retry_after
  pub moves : client ≡ after_head begun head framing

-- no head was read
abbrev pub HasNone : Client → List ℕ → Option (List ℕ) → AnswerError → Type 0
HasNone begun received left (errors.Unreadable error) = BeginsNothing begun received
HasNone begun received left errors.RequestTimeout = ⊥
HasNone begun received left errors.TooLarge = ⊥
HasNone begun received left errors.Ended = IsAtEnd left
HasNone begun received left (errors.Stream kind) = Unit {0}
HasNone begun received left errors.OutOfMemory = Unit {0}

-- the body runs until the other side closes
abbrev pub runs_on : Decoder → Bool
runs_on (Decoding.Length left) = false
runs_on (Decoding.Chunked chunks max_len) = false
runs_on Decoding.UntilClose = true

-- there is nothing of a body
abbrev pub is_nothing : Decoder → Bool
is_nothing (Decoding.Length left) = left == 0
is_nothing (Decoding.Chunked chunks max_len) = false
is_nothing Decoding.UntilClose = false

-- a client that has read the head of an answer, and waits for its body
pub record IsInBody (client : Client) (decoder : Decoder) : Type 0 where
  pub reading : client.reading ≡ Reads.Body decoder
  pub writing : client.writing ≡ Writes.Done
  pub closes : runs_on decoder ≡ true → client.keep_alive ≡ false

-- whatever more comes, the body is what was kept of it, and then what is left
pub record HasKept (begun : Client) (first : Decoder) (received : List ℕ) (client : Client) (left bytes : List ℕ)
    : Type 0 where
  pub decoder : Decoder
  pub client_is : client ≡ record begun { reading = Reads.Body decoder }
  pub back : (more : List ℕ) (body : Body) (rest : List ℕ) → Completes decoder (left ++ more) body rest
      → Completes first (received ++ more) (with_front bytes body) rest
  pub forth : (more : List ℕ) (whole : Body) (rest : List ℕ) → Completes first (received ++ more) whole rest
      → (body : Body) × (whole ≡ with_front bytes body) × Completes decoder (left ++ more) body rest
  pub runs : runs_on decoder ≡ runs_on first

-- a body was read to its end
pub record HasBody (begun : Client) (first : Decoder) (received : List ℕ) (remaining : Option (List ℕ)) (limit : ℕ)
    (bytes : List ℕ) (client : Client) (left : List ℕ) : Type 0 where
  pub body : Body
  pub completes : Completes first received body left
  pub bytes_are : body.bytes ≡ bytes
  pub within : length bytes ≤ limit
  pub at_close : runs_on first ≡ true → IsAtEnd remaining
  pub is_idle : awaits_head client.writing ≡ begun.keep_alive

-- why a body was not read to its end, whatever follows
abbrev pub HasNoEnd : Decoder → List ℕ → Option (List ℕ) → ℕ → AnswerError → Type 0
HasNoEnd first received left limit (errors.Unreadable error) = HasNoBody first received max_headers
HasNoEnd first received left limit errors.RequestTimeout = ⊥
HasNoEnd first received left limit errors.TooLarge =
    (more : List ℕ) (body : Body) (rest : List ℕ) → Completes first (received ++ more) body rest
    → limit < length body.bytes
HasNoEnd first received left limit errors.Ended = IsAtEnd left
HasNoEnd first received left limit (errors.Stream kind) = Unit {0}
HasNoEnd first received left limit errors.OutOfMemory = Unit {0}

-- there is some of it
abbrev pub LeavesBody : Decoder → List ℕ → Option (List ℕ) → ℕ → AnswerError → Type 0
LeavesBody first received left limit error =
    HasNoEnd first received left limit error × (is_nothing first ≡ false)
