-- One try to send a batch over a stream: its request, and then the answer to it.
use Rattle.std.specs.Prelude.{◌≡◌, ◌⊎◌, ℕ, Bool, false, List, [], Option, Some, None, Result}
use Rattle.std.specs.Bool.{MatchBool}
use Rattle.std.specs.Io.KnownBytes.{Appends, Consumes}
use Rattle.http1.specs.declared.client.Client.{Client}
use Rattle.otel_resource.specs.Resource.{PlainResource}
use Rattle.otel_export.specs.PlainSpanData.{PlainSpanData}
use Rattle.otel_export.specs.Streams.{AppendsBeginning}
use Rattle.otel_http_post.specs.declared.error.AnswerError.{AnswerError}
use Rattle.otel_http_post.specs.declared.error.PostError.{PostError}
use Rattle.otel_http_post.specs.Answer.{AnswersBy, HasNoAnswer}
use Rattle.otel_http_post.specs.Endpoint.{PlainEndpoint}
use Rattle.otel_otlp_protobuf.specs.declared.encoding.Encoding.{Encoding}
use Rattle.otel_otlp_http.specs.declared.failure.ExportFailure.{ExportFailure}
use Rattle.otel_otlp_http.specs.declared.failure.ExportFailure.TheVariants as failures
use Rattle.otel_otlp_http.specs.Messages.{HasReason}
use Rattle.otel_otlp_http.specs.Requests.{Unmakes, batch_client, batch_request}
use Rattle.otel_otlp_http.specs.Verdicts.{Judges}

-- how many bytes of the body of an answer are read, at most
abbrev pub max_answer : ℕ
max_answer = 65536

-- what is sent of a batch, and where: none where its resource found no memory
pub record Asked (R : Type 0) : Type 0 where
  pub endpoint : PlainEndpoint
  pub encoding : Encoding
  pub resource : R
  pub batch : List PlainSpanData

abbrev pub asking : {R : Type 0} → PlainEndpoint → Encoding → R → List PlainSpanData → Asked R
asking endpoint encoding resource batch =
    record { endpoint = endpoint; encoding = encoding; resource = resource; batch = batch }

-- a request that is made: what its answer is read by, and its text
pub record Made : Type 0 where
  pub encoding : Encoding
  pub client : Client
  pub text : List ℕ

abbrev pub made_of : Asked PlainResource → Made
made_of asked = record {
  encoding = asked.encoding;
  client = batch_client asked.endpoint asked.encoding asked.resource asked.batch;
  text = batch_request asked.endpoint asked.encoding asked.resource asked.batch;
}

-- a stream, and whether another request can be sent over it
pub record Connection (S : Type 0) : Type 0 where
  pub stream : S
  pub is_open : Bool

abbrev pub over : {S : Type 0} → S → Bool → Connection S
over stream is_open = record { stream = stream; is_open = is_open }

-- the contents of a stream are the bytes that were written to it, and what remains are the bytes that reads will give
module _ {S : Type 0} (contents remaining : S → Option (List ℕ)) where
  -- the request was written whole, and then the head of its answer was read, and the body or no more of it, which says
  -- what came of the batch, and why; the stream stays open where, and only where, another request can be sent
  pub record IsAnswered (made : Made) (old : S) (failure : Option ExportFailure) (reason : List ℕ)
      (new : Connection S) : Type 0 where
    pub between : S
    pub received : List ℕ
    pub status : ℕ
    pub retry_after : Option ℕ
    pub body : Result (List ℕ) AnswerError
    pub writes : Appends (contents old) (contents between) made.text
    pub reads : Consumes (remaining between) (remaining new.stream) received
    pub answer :
        AnswersBy made.client received (remaining new.stream) max_answer status retry_after body new.is_open
    pub judges : Judges made.encoding status retry_after body failure
    pub says_why : HasReason made.encoding body failure reason

  -- the request was written whole, and there is no answer in what was received, by the error
  pub record IsUnanswered (made : Made) (old : S) (error : AnswerError) (reason : List ℕ) (new : Connection S)
      : Type 0 where
    pub between : S
    pub received : List ℕ
    pub writes : Appends (contents old) (contents between) made.text
    pub reads : Consumes (remaining between) (remaining new.stream) received
    pub why : HasNoAnswer made.client received (remaining new.stream) error
    pub closes : new.is_open ≡ false
    pub silent : reason ≡ []

  -- a beginning of the request was written, or all of it but for its sending on
  pub record IsUnwritten (text : List ℕ) (old : S) (reason : List ℕ) (new : Connection S) : Type 0 where
    pub writes : AppendsBeginning (contents old) (contents new.stream) text
    pub closes : new.is_open ≡ false
    pub silent : reason ≡ []

  -- what became of a request, by the failure, with the reason that the other side has told
  abbrev pub Exchanges : Made → S → Option ExportFailure → List ℕ → Connection S → Type 0
  Exchanges made old (Some (failures.Unanswered error)) reason new = IsUnanswered made old error reason new
  Exchanges made old (Some (failures.Unwritten kind)) reason new = IsUnwritten made.text old reason new
  Exchanges made old failure reason new = IsAnswered made old failure reason new

  -- there is no request of the batch, for a reason that holds, and nothing was sent
  pub record IsUnmade (asked : Asked PlainResource) (old : Connection S) (failure : Option ExportFailure)
      (reason : List ℕ) (new : Connection S) : Type 0 where
    pub unmade : PostError
    pub failure_is : failure ≡ Some (failures.Unmade unmade)
    pub refuses : Unmakes asked.endpoint asked.encoding asked.resource asked.batch unmade
    pub silent : reason ≡ []
    pub untouched : new ≡ old

  -- the request of the batch was sent, or there was none
  abbrev pub Sends : Asked PlainResource → Connection S → Option ExportFailure → List ℕ → Connection S → Type 0
  Sends asked old failure reason new =
      IsUnmade asked old failure reason new ⊎ Exchanges (made_of asked) old.stream failure reason new

  abbrev pub SendsOf : Asked (Option PlainResource) → Option PlainResource → Connection S → Option ExportFailure
      → List ℕ → Connection S → Type 0
  SendsOf asked (Some resource) old failure reason new =
      Sends (asking asked.endpoint asked.encoding resource asked.batch) old failure reason new
  SendsOf asked None old failure reason new = (failure ≡ Some failures.NoResource) × (reason ≡ []) × (new ≡ old)

  -- one try: nothing is sent over a stream that is closed
  abbrev pub Attempts : Asked (Option PlainResource) → Connection S → Option ExportFailure → List ℕ → Connection S
      → Type 0
  Attempts asked old failure reason new =
      MatchBool old.is_open (SendsOf asked asked.resource old failure reason new)
      ((failure ≡ Some failures.Closed) × (reason ≡ []) × (new ≡ old))
