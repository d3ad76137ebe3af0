-- Each answer of a traced shop has the status of its path.
use Rattle.std.proofs.Common.{◌≡◌, ◌⊎◌, ◌==◌, ℕ, Bool, true, false, List, [], ◌∷◌, Option, None, Some, Result, Ok, Err, MatchBool, inl, inr}
use Rattle.std.specs.Prelude.{All}
use Rattle.std.specs.declared.alloc.AllocError.{AllocError}
use Rattle.std.proofs.lemmas.List.Elements.{All-cons, All-nil}
use Rattle.http.specs.declared.request.Request.{Request}
use Rattle.http.specs.Request.{head_of}
use Rattle.http_server.specs.declared.response.Response.{Response}
use Rattle.http_server.specs.Exchange.{Call, Chain}
use Rattle.http_server.specs.Response.{IsResponse}
use Rattle.http_uri.specs.Uri.{uri_path}
use Rattle.otel_scope.specs.declared.holds_spans.HoldsSpans.{Ghosts}
use Rattle.otel_http.specs.Serving.{Responds, ServesOnce, TracedState, TracesRequest}
use Rattle.otel_shop.specs.declared.route.Route.{Route}
use Rattle.otel_shop.specs.declared.route.Route.TheVariants.{Broken, Cart, Price, Slow}
use Rattle.otel_shop.specs.declared.shop.Shop.{Shop}
use Rattle.otel_shop.specs.Routes.{is_read, route_at}
use Rattle.otel_shop.specs.Serving.{AnswersMethod, AnswersPath, AnswersRoute, ServesShop}
use Rattle.otel_shop.specs.Statuses.{IsAnsweredCall, IsReadStatus, IsStatusOf}

-- a cart has one of two statuses
either_status : (shown : Bool) (response : Response) (text other : List ℕ)
    → MatchBool shown (IsResponse 200 [] text response) (IsResponse 502 [] other response)
    → (response.status ≡ 200) ⊎ (response.status ≡ 502)
either_status true response text other is = inl is.status
either_status false response text other is = inr is.status

module _ {B S : Type 0} (scopes : Ghosts S) (answers : B → Request (List ℕ) → Response → B → Type 0) where
  read_status : (route : Route) (old : Shop B) (scope : S) (response : Response) (scope' : S) (new : Shop B)
      → AnswersRoute scopes answers route old scope response scope' new → IsReadStatus route response.status
  read_status Cart old scope response scope' new is =
      either_status (is.reply.status == 200) response _ _ is.follows
  read_status Price old scope response scope' new is = is.0.status
  read_status Broken old scope response scope' new is = is.0.status
  read_status Slow old scope response scope' new is = is.0.status

  route_status : (reads : Bool) (route : Route) (old : Shop B) (scope : S) (response : Response) (scope' : S)
      (new : Shop B) → AnswersMethod scopes answers reads route old scope response scope' new
      → IsStatusOf (Some route) reads response.status
  route_status true route old scope response scope' new is = read_status route old scope response scope' new is
  route_status false route old scope response scope' new is = is.0.status

  path_status : (found : Option Route) (method : List ℕ) (old : Shop B) (scope : S) (response : Response) (scope' : S)
      (new : Shop B) → AnswersPath scopes answers found method old scope response scope' new
      → IsStatusOf found (is_read method) response.status
  path_status None method old scope response scope' new is = is.0.status
  path_status (Some route) method old scope response scope' new is =
      route_status (is_read method) route old is.0 response scope' new is.2

  -- what answers a request, as the client sees it
  seen_status : (answer : Result (Unit {0}) AllocError) (request : Request (List ℕ)) (old : Shop B) (scope : S)
      (own response : Response) (scope' : S) (new : Shop B)
      → ServesShop scopes answers old request scope answer own scope' new → Responds answer own response
      → IsAnsweredCall (request, response)
  seen_status (Ok done) request old scope own response scope' new serves responds =
      rw responds (inl (path_status (route_at (uri_path (head_of request).uri)) (head_of request).method old scope own
      scope' new serves))
  seen_status (Err error) request old scope own response scope' new serves responds = inr responds

  once_status : (old : Shop B) (request : Request (List ℕ)) (scope : S) (response : Response) (scope' : S)
      (new : Shop B) → ServesOnce scopes (ServesShop scopes answers) old request scope response scope' new
      → IsAnsweredCall (request, response)
  once_status old request scope response scope' new once =
      seen_status once.answer request old scope once.own response scope' new once.served once.responds

  traced_status : (old : TracedState (Shop B) S) (request : Request (List ℕ)) (response : Response)
      (new : TracedState (Shop B) S) → TracesRequest scopes (ServesShop scopes answers) old request response new
      → IsAnsweredCall (request, response)
  traced_status old request response new (inl (cx, read, served)) =
      once_status _ request _ response _ _ served.inside.serves_once
  traced_status old request response new (inr inside) = once_status _ request _ response _ _ inside.serves_once

  -- the requests of a connection
  pub all_statuses : (done : List Call) (old new : TracedState (Shop B) S)
      → Chain (TracesRequest scopes (ServesShop scopes answers)) old done new → All IsAnsweredCall done
  all_statuses [] old new chain = All-nil IsAnsweredCall
  all_statuses (call ∷ done) old new chain =
      All-cons IsAnsweredCall call done (traced_status old call.0 call.1 chain.0 chain.1)
      (all_statuses done chain.0 new chain.2)
