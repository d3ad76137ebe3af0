-- What the cart's asking comes to, and what a page does, by whether there was memory for it.
use Rattle.std.proofs.Common.{◌≡◌, ℕ, ◌∷◌, Bool, true, false, List, [], Option, Some, Result, Ok, Err, IfOk, OnErr, OnOk, inr, refl, codes}
use Rattle.std.specs.declared.alloc.AllocError.{AllocError}
use Rattle.http.specs.declared.request.Request.{Request}
use Rattle.http.specs.Request.{IsHeadFor, head_of}
use Rattle.http_server.specs.declared.response.Response.{Response}
use Rattle.http_server.specs.Response.{IsResponse}
use Rattle.http_uri.specs.Uri.{Spells, uri_path}
use Rattle.otel_scope.specs.declared.holds_spans.HoldsSpans.{Ghosts}
use Rattle.otel_http.specs.Asking.{Asks}
use Rattle.otel_shop.specs.declared.route.Route.{Route}
use Rattle.otel_shop.specs.declared.shop.Shop.{Shop}
use Rattle.otel_shop.specs.Cart.{AsksPrice, TriesPrice, price_target}
use Rattle.otel_shop.specs.Routes.{is_read, route_at}
use Rattle.otel_shop.specs.Serving.{AnswersRoute, ServesShop, TellsRoute, TriesRoute}
use Rattle.otel_shop.specs.Texts.{allow_field, method_text}

module _ {B S : Type 0} (scopes : Ghosts S) (answers : B → Request (List ℕ) → Response → B → Type 0) where
  module _ (old : B) (unsent : Request (List ℕ)) (is_price : IsHeadFor (codes "GET") (Spells price_target) (head_of unsent))
      (scope scope' : S) (new : B) where
    pub price_asked : (answer : Result Response AllocError) → Asks scopes answers old unsent scope answer scope' new
        → IfOk answer (λ reply. AsksPrice scopes answers old scope (Ok reply) scope' new)
    price_asked (Ok reply) asks = record { unsent = unsent; is_price = is_price; asks = asks }
    price_asked (Err error) asks = tt

    pub price_tried : (answer : Result Response AllocError) → Asks scopes answers old unsent scope answer scope' new
        → OnErr answer (TriesPrice scopes answers old scope scope' new)
    price_tried (Ok reply) asks = tt
    price_tried (Err error) asks = inr (record { unsent = unsent; is_price = is_price; asks = asks })

  module _ (request : Request (List ℕ)) (route : Route) (is : route_at (uri_path (head_of request).uri) ≡ Some route)
      (old : Shop B) (scope told : S)
      (tells : TellsRoute scopes answers (head_of request).method route scope (Ok tt) told) (response : Response) where
    -- a route was read
    pub read_route : (scope' : S) (new : Shop B) (answer : Result (Unit {0}) AllocError)
        → is_read (head_of request).method ≡ true
        → OnOk answer (AnswersRoute scopes answers route old told response scope' new)
        → OnErr answer (TriesRoute scopes answers route old told scope' new)
        → ServesShop scopes answers old request scope answer response scope' new
    read_route scope' new (Ok done) reads answered tried = rw (is, reads) (told, tells, answered)
    read_route scope' new (Err error) reads answered tried = rw (is, reads) (inr (told, tells, tried))

    -- more was wanted than to read
    pub refused_route : (answer : Result (Unit {0}) AllocError) → is_read (head_of request).method ≡ false
        → OnOk answer (IsResponse 405 (allow_field ∷ []) method_text response)
        → ServesShop scopes answers old request scope answer response told old
    refused_route (Ok done) reads refuses = rw (is, reads) (told, tells, (refuses, (refl, refl)))
    refused_route (Err error) reads refuses = rw (is, reads) (inr (told, tells, (refl, refl)))
