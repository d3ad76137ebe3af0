-- The cart asks for the price, inside a span of kind client, and answers by what comes back.
use Rattle.std.specs.Prelude.{◌≡◌, ◌⊎◌, ℕ, ◌==◌, List, [], ◌++◌, Result, Err, MatchBool, alloc_error, codes}
use Rattle.std.specs.declared.alloc.AllocError.{AllocError}
use Rattle.http.specs.declared.request.Request.{Request}
use Rattle.http.specs.Request.{IsHeadFor, head_of}
use Rattle.http_server.specs.declared.response.Response.{Response}
use Rattle.http_server.specs.Response.{IsResponse}
use Rattle.http_uri.specs.Uri.{Spells}
use Rattle.otel_scope.specs.declared.holds_spans.HoldsSpans.{Ghosts}
use Rattle.otel_http.specs.Asking.{Asks}
use Rattle.otel_shop.specs.Texts.{cart_text, unpriced_text}

-- whom the cart asks
abbrev pub price_target : List ℕ
price_target = codes "http://prices/price"

-- the cart's response to what the backend said: its price, and 502 where it says none
abbrev pub CartFollows : Response → Response → Type 0
CartFollows reply response = MatchBool (reply.status == 200)
    (IsResponse 200 [] (cart_text ++ reply.body.items) response)
    (IsResponse 502 [] unpriced_text response)

module _ {B S : Type 0} (scopes : Ghosts S) (answers : B → Request (List ℕ) → Response → B → Type 0) where
  -- a backend was asked for the price, inside a client's span
  pub record AsksPrice (old : B) (scope : S) (answer : Result Response AllocError) (scope' : S) (new : B)
      : Type 0 where
    pub unsent : Request (List ℕ)
    pub is_price : IsHeadFor (codes "GET") (Spells price_target) (head_of unsent)
    pub asks : Asks scopes answers old unsent scope answer scope' new

  -- what is left where there was no memory to ask for the price: nothing happened, or it was asked for in vain
  abbrev pub TriesPrice : B → S → S → B → Type 0
  TriesPrice old scope scope' new =
      ((scope' ≡ scope) × (new ≡ old)) ⊎ AsksPrice old scope (Err alloc_error) scope' new
