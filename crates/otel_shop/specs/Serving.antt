-- What the shop does with a request in a scope.
use Rattle.std.specs.Prelude.{◌≡◌, ℕ, Bool, List, [], ◌∷◌, ◌++◌, ◌⊎◌, Option, None, Some, Result, Ok, Err}
use Rattle.std.specs.Prelude.{MatchBool, alloc_error, decimal}
use Rattle.std.specs.declared.alloc.AllocError.{AllocError}
use Rattle.http.specs.declared.request.Request.{Request}
use Rattle.http.specs.Request.{head_of}
use Rattle.http_server.specs.declared.response.Response.{Response}
use Rattle.http_server.specs.Response.{IsResponse}
use Rattle.http_uri.specs.Uri.{uri_path}
use Rattle.otel_scope.specs.declared.holds_spans.HoldsSpans.{Ghosts}
use Rattle.otel_http.specs.Conventions.{route_edits}
use Rattle.otel_http.specs.Telling.{TellsHere}
use Rattle.otel_shop.specs.declared.route.Route.{Route}
use Rattle.otel_shop.specs.declared.route.Route.TheVariants.{Broken, Cart, Price, Slow}
use Rattle.otel_shop.specs.declared.shop.Shop.{Shop}
use Rattle.otel_shop.specs.Cart.{AsksPrice, CartFollows, TriesPrice}
use Rattle.otel_shop.specs.Primes.{prime_count}
use Rattle.otel_shop.specs.Routes.{is_read, route_at, route_text}
use Rattle.otel_shop.specs.Texts.{allow_field, broken_text, method_text, newline, price_text, unknown_text}

module _ {B S : Type 0} (scopes : Ghosts S) (answers : B → Request (List ℕ) → Response → B → Type 0) where
  -- the cart answers by what the backend said
  pub record AnswersCart (old : Shop B) (scope : S) (response : Response) (scope' : S) (new : Shop B) : Type 0 where
    pub reply : Response
    pub asks : AsksPrice scopes answers old.backend scope (Ok reply) scope' new.backend
    pub follows : CartFollows reply response
    pub rest : new ≡ record old { backend = new.backend }

  -- what a cart is left by that found no memory: it was not asked for to the end, or it was and could not be answered
  pub record TriesCart (old : Shop B) (scope scope' : S) (new : Shop B) : Type 0 where
    pub tries : TriesPrice scopes answers old.backend scope scope' new.backend
        ⊎ ((reply : Response) × AsksPrice scopes answers old.backend scope (Ok reply) scope' new.backend)
    pub rest : new ≡ record old { backend = new.backend }

  -- nothing happened to the shop nor in the scope
  abbrev pub Rests : Shop B → S → S → Shop B → Type 0
  Rests old scope scope' new = (scope' ≡ scope) × (new ≡ old)

  -- what a request that reads a route is answered
  abbrev pub AnswersRoute : Route → Shop B → S → Response → S → Shop B → Type 0
  AnswersRoute Cart old scope response scope' new = AnswersCart old scope response scope' new
  AnswersRoute Price old scope response scope' new =
      IsResponse 200 [] price_text response × Rests old scope scope' new
  AnswersRoute Broken old scope response scope' new =
      IsResponse 500 [] broken_text response × Rests old scope scope' new
  AnswersRoute Slow old scope response scope' new =
      IsResponse 200 [] (decimal (prime_count old.bound) ++ newline) response × Rests old scope scope' new

  -- what it is left by where there was no memory
  abbrev pub TriesRoute : Route → Shop B → S → S → Shop B → Type 0
  TriesRoute Cart old scope scope' new = TriesCart old scope scope' new
  TriesRoute Price old scope scope' new = Rests old scope scope' new
  TriesRoute Broken old scope scope' new = Rests old scope scope' new
  TriesRoute Slow old scope scope' new = Rests old scope scope' new

  -- what a request of a route is answered: one that wants more than to read is refused
  abbrev pub AnswersMethod : Bool → Route → Shop B → S → Response → S → Shop B → Type 0
  AnswersMethod reads route old scope response scope' new = MatchBool reads
      (AnswersRoute route old scope response scope' new)
      (IsResponse 405 (allow_field ∷ []) method_text response × Rests old scope scope' new)

  abbrev pub TriesMethod : Bool → Route → Shop B → S → S → Shop B → Type 0
  TriesMethod reads route old scope scope' new =
      MatchBool reads (TriesRoute route old scope scope' new) (Rests old scope scope' new)

  -- a span was told a route
  abbrev pub TellsRoute : List ℕ → Route → S → Result (Unit {0}) AllocError → S → Type 0
  TellsRoute method route scope answer told =
      TellsHere scopes (route_edits method (route_text route)) scope answer told

  -- what a request is answered by its path: the span is told the route, if there is one
  abbrev pub AnswersPath : Option Route → List ℕ → Shop B → S → Response → S → Shop B → Type 0
  AnswersPath None method old scope response scope' new =
      IsResponse 404 [] unknown_text response × Rests old scope scope' new
  AnswersPath (Some route) method old scope response scope' new = (told : S)
      × TellsRoute method route scope (Ok tt) told × AnswersMethod (is_read method) route old told response scope' new

  -- what it is left by where there was no memory: that ran out before the span was told the route, and nothing else
  -- happened; or it was told
  abbrev pub TriesPath : Option Route → List ℕ → Shop B → S → S → Shop B → Type 0
  TriesPath None method old scope scope' new = Rests old scope scope' new
  TriesPath (Some route) method old scope scope' new =
      (TellsRoute method route scope (Err alloc_error) scope' × (new ≡ old))
      ⊎ ((told : S) × TellsRoute method route scope (Ok tt) told
      × TriesMethod (is_read method) route old told scope' new)

  -- what the shop does with a request, and what it leaves where there is no memory for it
  abbrev pub ServesShop : Shop B → Request (List ℕ) → S → Result (Unit {0}) AllocError → Response → S → Shop B
      → Type 0
  ServesShop old request scope (Ok _) response scope' new =
      AnswersPath (route_at (uri_path (head_of request).uri)) (head_of request).method old scope response scope' new
  ServesShop old request scope (Err _) response scope' new =
      TriesPath (route_at (uri_path (head_of request).uri)) (head_of request).method old scope scope' new
