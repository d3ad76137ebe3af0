-- What an answer says of the bytes that were received, by the grammar of HTTP/1.1 (the kit's http1, specs/Message).
use Rattle.std.specs.Prelude.{◌≡◌, ◌⊎◌, ℕ, ◌<◌, ◌≤◌, ◌==◌, Bool, true, false, not, ◌&&◌, List, ◌++◌, length, map, All}
use Rattle.std.specs.Prelude.{Option, Some, None, Result, Ok, Err, IsTrue, if◌then◌else◌}
use Rattle.std.specs.Io.KnownBytes.{IsAtEnd}
use Rattle.httparse.specs.Grammar.{ResponseHead, status_code}
use Rattle.httparse.specs.Spans.{name_and_value}
use Rattle.http1.specs.Body.{Body, ReadsBody}
use Rattle.http1.specs.Client.{HasNoHead, is_interim}
use Rattle.http1.specs.Conn.{is_until_close, keeps_alive}
use Rattle.http1.specs.Message as message
use Rattle.http1.specs.declared.client.Client.{Client}
use Rattle.http1.specs.declared.error.ReadError.TheVariants.{UnexpectedResponse}
use Rattle.http1.specs.declared.framing.Framing.{Framing}
use Rattle.http1.specs.declared.framing.Framing.TheVariants as Framed
use Rattle.http1.specs.declared.framing.MethodKind.TheVariants as Method
use Rattle.otel_http_post.specs.declared.error.AnswerError.{AnswerError}
use Rattle.otel_http_post.specs.declared.error.AnswerError.TheVariants as errors
use Rattle.otel_http_post.specs.Request.{limits}
use Rattle.otel_http_post.specs.RetryAfter.{retry_after_of}

-- how many headers an answer may have, and how many trailers
abbrev pub max_headers : ℕ
max_headers = 64

-- a response that only informs
abbrev pub IsInforming : message.Answer → Type 0
IsInforming answer = (answer.method ≡ Method.Other) × IsTrue (is_interim (status_code answer.response.head))

-- what was received begins with responses that only inform
pub record BeginsInforming (received start : List ℕ) : Type 0 where
  pub informing : List message.Answer
  pub reads : message.ReadsAnswers limits received informing start
  pub informs : All IsInforming informing

-- what was received begins with responses that only inform, and then with the head of another
pub record BeginsBy (received : List ℕ) (head : ResponseHead) (framing : Framing) (after : List ℕ) : Type 0 where
  pub start : List ℕ
  pub informs : BeginsInforming received start
  pub accepts : message.AcceptsResponse limits Method.Other start head framing after

-- why a status is that of no answer: it switches protocols, or says that there was no request in time
abbrev pub unanswered_by : ℕ → Option AnswerError
unanswered_by status =
    if status == 101 then Some (errors.Unreadable UnexpectedResponse)
    else (if status == 408 then Some errors.RequestTimeout else None)

-- a head was read, of a status that is none of an answer
pub record BeginsUnanswered (received : List ℕ) (error : AnswerError) : Type 0 where
  pub head : ResponseHead
  pub framing : Framing
  pub after : List ℕ
  pub begins : BeginsBy received head framing after
  pub error_is : unanswered_by (status_code head) ≡ Some error

-- whatever follows, there is no head after responses that only inform, or it has too many headers
pub record BeginsNothing (client : Client) (received : List ℕ) : Type 0 where
  pub start : List ℕ
  pub informs : BeginsInforming received start
  pub none : HasNoHead client start max_headers

-- why there is no answer in what was received, by the error, with what is left in the stream
abbrev pub HasNoAnswer : Client → List ℕ → Option (List ℕ) → AnswerError → Type 0
HasNoAnswer client received left (errors.Unreadable error) =
    BeginsNothing client received ⊎ BeginsUnanswered received (errors.Unreadable error)
HasNoAnswer client received left errors.RequestTimeout = BeginsUnanswered received errors.RequestTimeout
HasNoAnswer client received left errors.TooLarge = ⊥
HasNoAnswer client received left errors.Ended = IsAtEnd left
HasNoAnswer client received left (errors.Stream kind) = Unit {0}
HasNoAnswer client received left errors.OutOfMemory = Unit {0}

-- a body follows the head, and then the rest; one that runs until the other side closes was read to the stream's end
pub record IsWhole (framing : Framing) (after : List ℕ) (left : Option (List ℕ)) (limit : ℕ) (bytes rest : List ℕ)
    : Type 0 where
  pub body : Body
  pub reads : ReadsBody limits framing after body rest
  pub bytes_are : body.bytes ≡ bytes
  pub within : length bytes ≤ limit
  pub at_close : framing ≡ Framed.UntilClose → IsAtEnd left

-- why a body was left unread, whatever follows what was received of it
abbrev pub IsLeft : Framing → List ℕ → Option (List ℕ) → ℕ → AnswerError → Type 0
IsLeft framing after left limit (errors.Unreadable error) =
    (more : List ℕ) (body : Body) (rest : List ℕ) → ReadsBody limits framing (after ++ more) body rest
    → max_headers < length body.trailers
IsLeft framing after left limit errors.RequestTimeout = ⊥
IsLeft framing after left limit errors.TooLarge =
    (more : List ℕ) (body : Body) (rest : List ℕ) → ReadsBody limits framing (after ++ more) body rest
    → limit < length body.bytes
IsLeft framing after left limit errors.Ended = IsAtEnd left
IsLeft framing after left limit (errors.Stream kind) = Unit {0}
IsLeft framing after left limit errors.OutOfMemory = Unit {0}

-- the head says that there is nothing of a body
abbrev pub has_nothing : Framing → Bool
has_nothing Framed.NoBody = true
has_nothing (Framed.Length len) = len == 0
has_nothing Framed.Chunked = false
has_nothing Framed.UntilClose = false

-- both heads keep the connection, the body did not run until it closed, and nothing follows
abbrev pub keeps_open : Client → ResponseHead → Framing → List ℕ → Bool
keeps_open client head framing rest =
    (client.keep_alive && (keeps_alive head.minor (message.known_of head.fields) && not (is_until_close framing)))
    && (length rest == 0)

-- what is said of the body, and whether another request can be sent: one of nothing is not left
abbrev pub SaysBody : Client → ResponseHead → Framing → List ℕ → Option (List ℕ) → ℕ → Result (List ℕ) AnswerError
    → Bool → Type 0
SaysBody client head framing after left limit (Ok bytes) keeps =
    (rest : List ℕ) × IsWhole framing after left limit bytes rest × (keeps ≡ keeps_open client head framing rest)
SaysBody client head framing after left limit (Err error) keeps =
    IsLeft framing after left limit error × (has_nothing framing ≡ false) × (keeps ≡ false)

-- what was received begins with responses that only inform, and then with the head of the answer, which stands whatever
-- becomes of the body that follows it
pub record AnswersBy (client : Client) (received : List ℕ) (left : Option (List ℕ)) (limit status : ℕ)
    (retry_after : Option ℕ) (body : Result (List ℕ) AnswerError) (keeps : Bool) : Type 0 where
  pub head : ResponseHead
  pub framing : Framing
  pub after : List ℕ
  pub begins : BeginsBy received head framing after
  pub final : 200 ≤ status
  pub answers : unanswered_by status ≡ None
  pub status_is : status_code head ≡ status
  pub retry_after_is : retry_after_of (map name_and_value head.fields) ≡ retry_after
  pub says : SaysBody client head framing after left limit body keeps
