-- A request served inside a server's span of a scope, and what is said of the service that serves it.
use Rattle.std.specs.Prelude.{◌≡◌, ◌⊎◌, ℕ, Bool, false, true, List, [], Option, None, Result, Ok, Err, IfSome, codes, is_ok, is_some, nat_le, if◌then◌else◌}
use Rattle.std.specs.declared.alloc.AllocError.{AllocError}
use Rattle.http.specs.declared.request.Request.{Request}
use Rattle.http.specs.Request.{head_of}
use Rattle.http_server.specs.declared.response.Response.{Response}
use Rattle.http_server.specs.Response.{IsResponse}
use Rattle.opentelemetry.specs.Plain.{PlainContext}
use Rattle.opentelemetry.specs.PlainSpanBuilder.{PlainSpanBuilder}
use Rattle.otel_scope.specs.Working.{Becomes}
use Rattle.otel_scope.specs.declared.holds_spans.HoldsSpans.{Ghosts}
use Rattle.otel_http.specs.declared.traced.TheConstants.{FIRST_FAILURE}
use Rattle.otel_http.specs.Headers.{header_texts}
use Rattle.otel_http.specs.Telling.{StaysHere, TellsHere}
pub use Rattle.otel_http.specs.RequestSpans.{IsClientBuilder, IsServerBuilder, attribute_edits, one_more}

-- what a service does with a request in a scope: what it answers and responds, the scope that it leaves, and itself
-- after
abbrev pub Serving : (V S : Type 0) → Type 1
Serving V S = V → Request (List ℕ) → S → Result (Unit {0}) AllocError → Response → S → V → Type 0

-- what answers a request: the service's response, and where the service had no memory a 500 without a body
abbrev pub Responds : Result (Unit {0}) AllocError → Response → Response → Type 0
Responds (Ok _) given response = response ≡ given
Responds (Err _) given response = IsResponse 500 [] [] response

-- a service with the scope that it is traced in; how many requests were served without a span, and how many spans lack
-- what they are told of their response, since there was no memory
pub record TracedState (V S : Type 0) : Type 0 where
  pub service : V
  pub scope : S
  pub is_https : Bool
  pub keeps_query : Bool
  pub untraced : ℕ
  pub unfinished : ℕ

-- a service that has served nothing yet, of requests of http
abbrev pub new_traced : {V S : Type 0} → V → S → TracedState V S
new_traced service scope = record {
  service = service;
  scope = scope;
  is_https = false;
  keeps_query = false;
  untraced = 0;
  unfinished = 0;
}

-- the scheme of requests whose target names none
abbrev pub url_scheme : Bool → List ℕ
url_scheme true = codes "https"
url_scheme false = codes "http"

-- a count, and one more unless that is so
abbrev pub counted_unless : Bool → ℕ → ℕ
counted_unless holds count = if holds then count else one_more count

module _ {V S : Type 0} (scopes : Ghosts S) (serves : Serving V S) where
  -- the service was asked once, in this scope, and its answer is the response; but for edits the span that was current
  -- still is
  pub record ServesOnce (old : V) (request : Request (List ℕ)) (given : S) (response : Response) (left : S) (new : V)
      : Type 0 where
    pub answer : Result (Unit {0}) AllocError
    pub own : Response
    pub served : serves old request given answer own left new
    pub stays : StaysHere scopes given left
    pub responds : Responds answer own response

  -- a start was asked for, the service was asked with what came of that, the span that was current was told of the
  -- response, and ended, as failed at a status from 500 on; what was current before is so again. A request counts as
  -- untraced where no span was current after the start, and as unfinished where there was no memory to tell
  pub record ServesInside (asked : Option PlainSpanBuilder) (old : TracedState V S) (request : Request (List ℕ))
      (response : Response) (new : TracedState V S) : Type 0 where
    pub entered : S
    pub starts : scopes.enters old.scope asked entered
    pub left : S
    pub serves_once : ServesOnce old.service request entered response left new.service
    pub told : Result (Unit {0}) AllocError
    pub said : S
    pub tells : TellsHere scopes (attribute_edits FIRST_FAILURE response.status) left told said
    pub ends : scopes.leaves said (scopes.current old.scope) (nat_le FIRST_FAILURE response.status) new.scope
    pub restores : scopes.current new.scope ≡ scopes.current old.scope
    pub rest : new ≡ record old {
      service = new.service;
      scope = new.scope;
      untraced = counted_unless (is_some (scopes.current entered).span) old.untraced;
      unfinished = counted_unless (is_ok told) old.unfinished;
    }

  -- the same in another context, for a span of what the request's head says; where there was no memory for that none was
  -- asked for
  pub record ServesIn (cx : PlainContext) (old : TracedState V S) (request : Request (List ℕ)) (response : Response)
      (new : TracedState V S) : Type 0 where
    pub asked : Option PlainSpanBuilder
    pub asks : IfSome asked (IsServerBuilder (url_scheme old.is_https) old.keeps_query (head_of request))
    pub placed : S
    pub places : Becomes scopes.current scopes.with_current (record (scopes.current old.scope) { cx = cx }) old.scope
        placed
    pub done : TracedState V S
    pub inside : ServesInside asked (record old { scope = placed }) request response done
    pub back : Becomes scopes.current scopes.with_current (scopes.current old.scope) done.scope new.scope
    pub rest : new ≡ record done { scope = new.scope }

  -- what a request does: it is served in the context that its headers give, read in the current one; where there was no
  -- memory to read them, in the current one, and no span was asked for
  abbrev pub TracesRequest : TracedState V S → Request (List ℕ) → Response → TracedState V S → Type 0
  TracesRequest old request response new =
      ((cx : PlainContext)
      × scopes.extracts old.scope (scopes.current old.scope).cx (header_texts (head_of request).headers) cx
      × ServesIn cx old request response new)
      ⊎ ServesInside None old request response new
