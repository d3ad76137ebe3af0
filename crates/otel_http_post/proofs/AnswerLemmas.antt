-- A head and a body, to a client that has asked, are an answer.
use Rattle.std.proofs.Common.{◌≡◌, inl, inr, ℕ, ◌≤◌, ◌==◌, ◌∙◌, Bool, true, false, not, cond, ◌&&◌, List, [], ◌++◌}
use Rattle.std.proofs.Common.{length, Ok, Err, Some, None, Option, Result, refl, sym, ap, subst, arith, append-nil}
use Rattle.std.specs.Prelude.{codes, nat_lt}
use Rattle.std.proofs.lemmas.Bool.{cond-false}
use Rattle.std.proofs.lemmas.Bool.Decides.{nat_tests}
use Rattle.httparse.specs.Grammar.{status_code}
use Rattle.http1.proofs.OneParse.{body_from_completes, completes_from_body}
use Rattle.http1.specs.Client.{new_client, reading_body, request_plan}
use Rattle.http1.specs.Client.{requesting, switches}
use Rattle.http1.specs.Conn.{Plan, awaits_head, is_connect, is_until_close, keeps_alive}
use Rattle.http1.specs.Decoder.{decoder_for}
use Rattle.http1.specs.Fields.{Header}
use Rattle.http1.specs.Message as message
use Rattle.http1.specs.declared.client.Client.{Client}
use Rattle.http1.specs.declared.conn.BodySize.TheVariants.{Known}
use Rattle.http1.specs.declared.conn.Limits.{Limits}
use Rattle.http1.specs.declared.conn.Reading.TheVariants as Reads
use Rattle.http1.specs.declared.error.ReadError.TheVariants.{UnexpectedResponse}
use Rattle.http1.specs.declared.error.WriteError.{WriteError}
use Rattle.http1.specs.declared.framing.Framing.{Framing}
use Rattle.http1.specs.declared.framing.Framing.TheVariants as Framed
use Rattle.otel_http_post.specs.declared.error.AnswerError.{AnswerError}
use Rattle.otel_http_post.specs.declared.error.AnswerError.TheVariants as errors
use Rattle.otel_http_post.specs.declared.head.AnswerHead.{AnswerHead}
use Rattle.otel_http_post.specs.Answer.{AnswersBy, BeginsBy, BeginsUnanswered, HasNoAnswer, IsLeft}
use Rattle.otel_http_post.specs.Answer.{has_nothing, unanswered_by}
use Rattle.otel_http_post.specs.Following.{HasBody, HasHead, HasNoEnd, HasNone, IsInBody, IsWaiting}
use Rattle.otel_http_post.specs.Following.{LeavesBody, is_nothing, runs_on}
use Rattle.otel_http_post.specs.Request.{HasAsked, asked_by, limits}

asked_by_waits : (headers : List Header) (plan : Result Plan WriteError) (len : ℕ)
    → IsWaiting (asked_by (requesting (new_client limits) (codes "POST") headers plan) len)
asked_by_waits headers (Ok p) len = record { limits_are = refl; reading = refl; writing = refl; method = refl }
asked_by_waits headers (Err e) len = record { limits_are = refl; reading = refl; writing = refl; method = refl }

-- a client that has asked waits
pub asked_waits : (c : Client) → HasAsked c → IsWaiting c
asked_waits c (headers, len, is) =
    subst IsWaiting (sym is) (asked_by_waits headers (request_plan (new_client limits) (codes "POST")
    (Known len) headers) len)

-- no head is no answer
pub none_answers : (c : Client) (received : List ℕ) (left : Option (List ℕ)) (error : AnswerError)
    → HasNone c received left error → HasNoAnswer c received left error
none_answers c received left (errors.Unreadable e) none = inl none
none_answers c received left errors.RequestTimeout none = absurd none
none_answers c received left errors.TooLarge none = none
none_answers c received left errors.Ended none = none
none_answers c received left (errors.Stream kind) none = tt
none_answers c received left errors.OutOfMemory none = tt

runs_as : (framing : Framing) → runs_on (decoder_for limits framing) ≡ is_until_close framing
runs_as Framed.NoBody = refl
runs_as (Framed.Length n) = refl
runs_as Framed.Chunked = refl
runs_as Framed.UntilClose = refl

nothing_as : (framing : Framing) → has_nothing framing ≡ is_nothing (decoder_for limits framing)
nothing_as Framed.NoBody = refl
nothing_as (Framed.Length n) = refl
nothing_as Framed.Chunked = refl
nothing_as Framed.UntilClose = refl

never_again : (a b on : Bool) → on ≡ true → (a && (b && not on)) ≡ false
never_again false b on is = refl
never_again true false on is = refl
never_again true true on is = ap not is

-- why a body was left, by the grammar
left_by : (framing : Framing) (after : List ℕ) (left : Option (List ℕ)) (limit : ℕ) (error : AnswerError)
    → HasNoEnd (decoder_for limits framing) after left limit error → IsLeft framing after left limit error
left_by framing after left limit (errors.Unreadable e) none = λ more body rest reads.
    none more body rest (completes_from_body limits framing (after ++ more) body rest reads)
left_by framing after left limit errors.RequestTimeout none = none
left_by framing after left limit errors.TooLarge none = λ more body rest reads.
    none more body rest (completes_from_body limits framing (after ++ more) body rest reads)
left_by framing after left limit errors.Ended none = none
left_by framing after left limit (errors.Stream kind) none = tt
left_by framing after left limit errors.OutOfMemory none = tt

module _ (begun client : Client) (waits : IsWaiting begun) (received left : List ℕ) (found : AnswerHead)
    (h : HasHead begun received client left found) where
  -- the head, whatever more came after it
  begins : (more : List ℕ) → BeginsBy (received ++ more) h.head h.framing (left ++ more)
  begins more = record {
    start = h.start ++ more;
    informs = h.informs more;
    accepts = h.accepts more;
  }

  begins_here : BeginsBy received h.head h.framing left
  begins_here = subst (λ (bs : List ℕ). BeginsBy bs h.head h.framing left) (append-nil received)
      (subst (λ (bs : List ℕ). BeginsBy (received ++ []) h.head h.framing bs) (append-nil left) (begins []))

  -- a head of no answer
  unanswered : (error : AnswerError) → unanswered_by found.status ≡ Some error → BeginsUnanswered received error
  unanswered error is = record {
    head = h.head;
    framing = h.framing;
    after = left;
    begins = begins_here;
    error_is = ap unanswered_by h.status ∙ is;
  }

  pub answers_none : (remaining : Option (List ℕ)) (error : AnswerError) → unanswered_by found.status ≡ Some error
      → HasNoAnswer begun received remaining error
  answers_none remaining error is =
      by_tests (found.status == 101) (found.status == 408) error is (unanswered error is)
    where
      by_tests : (switches_protocol times_out : Bool) (error : AnswerError)
          → cond switches_protocol (Some (errors.Unreadable UnexpectedResponse))
          (cond times_out (Some errors.RequestTimeout) None) ≡ Some error
          → BeginsUnanswered received error → HasNoAnswer begun received remaining error
      by_tests true times_out error is u =
          let e : errors.Unreadable UnexpectedResponse ≡ error = cc in
          subst (HasNoAnswer begun received remaining) e (inr (subst (BeginsUnanswered received) (sym e) u))
      by_tests false true error is u =
          let e : errors.RequestTimeout ≡ error = cc in
          subst (HasNoAnswer begun received remaining) e (subst (BeginsUnanswered received) (sym e) u)
      by_tests false false error is u = cc

  -- the head of an answer
  module _ (answer : unanswered_by found.status ≡ None) where
    no_switch : (found.status == 101) ≡ false
    no_switch = by_test (found.status == 101) answer
      where
        by_test : (b : Bool) → cond b (Some (errors.Unreadable UnexpectedResponse))
            (cond (found.status == 408) (Some errors.RequestTimeout) None) ≡ None → b ≡ false
        by_test true e = cc
        by_test false e = refl

    final : 200 ≤ found.status
    final =
        let status = h.status in
        let interim = h.final in
        let other = no_switch in
        grind (arith, nat_tests)

    -- the client waits for the body
    moves : client ≡ reading_body begun h.head.minor (message.known_of h.head.fields) h.framing
    moves =
        let status = h.status in
        let other = no_switch in
        let low = final in
        let method : is_connect begun.method ≡ false = ap is_connect waits.method in
        let plain : switches begun (status_code h.head) ≡ false = grind (arith, nat_tests) in
        let high : nat_lt (status_code h.head) 200 ≡ false = grind (arith, nat_tests) in
        h.moves ∙ cond-false _ _ _ plain ∙ cond-false _ _ _ high

    pub awaits_body : IsInBody client (decoder_for limits h.framing)
    awaits_body = record {
      reading = ap (λ (c : Client). c.reading) moves
          ∙ ap (λ (l : Limits). Reads.Body (decoder_for l h.framing)) waits.limits_are;
      writing = ap (λ (c : Client). c.writing) moves ∙ waits.writing;
      closes = λ on. ap (λ (c : Client). c.keep_alive) moves ∙ never_again begun.keep_alive
          (keeps_alive h.head.minor (message.known_of h.head.fields)) (is_until_close h.framing)
          (sym (runs_as h.framing) ∙ on);
    }

    -- a body that was read whole
    pub whole_answer : (second after bytes : List ℕ) (remaining : Option (List ℕ)) (limit : ℕ) (new : Client)
        (keeps : Bool)
        → HasBody client (decoder_for limits h.framing) (left ++ second) remaining limit bytes new after
        → keeps ≡ (awaits_head new.writing && (length after == 0))
        → AnswersBy begun (received ++ second) remaining limit found.status found.retry_after (Ok bytes) keeps
    whole_answer second after bytes remaining limit new keeps b is = record {
      head = h.head;
      framing = h.framing;
      after = left ++ second;
      begins = begins second;
      final = final;
      answers = answer;
      status_is = h.status;
      retry_after_is = h.retry_after;
      says = (
        after,
        record {
          body = b.body;
          reads = body_from_completes limits h.framing (left ++ second) b.body after b.completes;
          bytes_are = b.bytes_are;
          within = b.within;
          at_close = λ closes. b.at_close (runs_as h.framing ∙ ap is_until_close closes);
        },
        is ∙ ap (λ (idle : Bool). idle && (length after == 0))
            (b.is_idle ∙ ap (λ (c : Client). c.keep_alive) moves),
      );
    }

    -- a body that was left unread
    pub unread_answer : (second : List ℕ) (remaining : Option (List ℕ)) (limit : ℕ) (error : AnswerError)
        → LeavesBody (decoder_for limits h.framing) (left ++ second) remaining limit error
        → AnswersBy begun (received ++ second) remaining limit found.status found.retry_after (Err error) false
    unread_answer second remaining limit error none = record {
      head = h.head;
      framing = h.framing;
      after = left ++ second;
      begins = begins second;
      final = final;
      answers = answer;
      status_is = h.status;
      retry_after_is = h.retry_after;
      says = (
        left_by h.framing (left ++ second) remaining limit error none.0,
        nothing_as h.framing ∙ none.1,
        refl,
      );
    }
