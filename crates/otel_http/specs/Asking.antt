-- A request to another service, inside a client's span of a scope.
use Rattle.std.specs.Prelude.{◌≡◌, ℕ, Bool, true, List, Option, Result, Ok, Err, IfOk, IfSome, nat_le}
use Rattle.std.specs.declared.alloc.AllocError.{AllocError}
use Rattle.http.specs.declared.request.Request.{Request}
use Rattle.http.specs.Request.{head_of, with_head}
use Rattle.http_server.specs.declared.response.Response.{Response}
use Rattle.opentelemetry.specs.PlainSpanBuilder.{PlainSpanBuilder}
use Rattle.otel_scope.specs.declared.holds_spans.HoldsSpans.{Ghosts}
use Rattle.otel_http.specs.declared.client.TheConstants.{FIRST_ERROR}
use Rattle.otel_http.specs.Headers.{header_texts}
use Rattle.otel_http.specs.RequestSpans.{IsClientBuilder, attribute_edits}
use Rattle.otel_http.specs.Telling.{StaysHere, TellsHere}

-- whether a request failed for its client: by the status of the reply, or since there was no memory
abbrev pub is_failed : Result Response AllocError → Bool
is_failed (Ok reply) = nat_le FIRST_ERROR reply.status
is_failed (Err _) = true

module _ {B S : Type 0} (scopes : Ghosts S) (answers : B → Request (List ℕ) → Response → B → Type 0) where
  -- a request was sent with what of the current context travels, and the current span was told what came back
  pub record Sends (old : B) (unsent : Request (List ℕ)) (given : S) (reply : Response) (left : S) (new : B)
      : Type 0 where
    pub sent : Request (List ℕ)
    pub carries : scopes.injects given (scopes.current given).cx (header_texts (head_of unsent).headers) (Ok tt)
        (header_texts (head_of sent).headers)
    pub rest : sent ≡ with_head unsent (record (head_of unsent) { headers = (head_of sent).headers })
    pub answered : answers old sent reply new
    pub tells : TellsHere scopes (attribute_edits FIRST_ERROR reply.status) given (Ok tt) left

  -- a start of a client's span was asked for, or none, since there was no memory for what it begins with; the request was
  -- sent with what came of that, or there was no memory for it; and the span ended, as failed at a status from 400 on and
  -- where there was no memory
  pub record Asks (old : B) (unsent : Request (List ℕ)) (scope : S) (answer : Result Response AllocError) (scope' : S)
      (new : B) : Type 0 where
    pub asked : Option PlainSpanBuilder
    pub asks : IfSome asked (IsClientBuilder (head_of unsent))
    pub entered : S
    pub starts : scopes.enters scope asked entered
    pub left : S
    pub sends : IfOk answer (λ reply. Sends old unsent entered reply left new)
    pub stays : StaysHere scopes entered left
    pub ends : scopes.leaves left (scopes.current scope) (is_failed answer) scope'
