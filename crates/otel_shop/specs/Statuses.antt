-- The status of each path, as a client of a traced shop sees it.
use Rattle.std.specs.Prelude.{◌≡◌, ◌⊎◌, ℕ, [], Bool, Option, None, Some, MatchBool}
use Rattle.http.specs.Request.{head_of}
use Rattle.http_server.specs.Exchange.{Call}
use Rattle.http_server.specs.Response.{IsResponse}
use Rattle.http_uri.specs.Uri.{uri_path}
use Rattle.otel_shop.specs.declared.route.Route.{Route}
use Rattle.otel_shop.specs.declared.route.Route.TheVariants.{Broken, Cart, Price, Slow}
use Rattle.otel_shop.specs.Routes.{is_read, route_at}

-- the status of a page that is read
abbrev pub IsReadStatus : Route → ℕ → Type 0
IsReadStatus Cart status = (status ≡ 200) ⊎ (status ≡ 502)
IsReadStatus Price status = status ≡ 200
IsReadStatus Broken status = status ≡ 500
IsReadStatus Slow status = status ≡ 200

-- the status of a path, for a request that reads or wants more
abbrev pub IsStatusOf : Option Route → Bool → ℕ → Type 0
IsStatusOf None reads status = status ≡ 404
IsStatusOf (Some route) reads status = MatchBool reads (IsReadStatus route status) (status ≡ 405)

-- a request was answered with the status of its path, or where there was no memory with a 500 without a body
abbrev pub IsAnsweredCall : Call → Type 0
IsAnsweredCall call =
    IsStatusOf (route_at (uri_path (head_of call.0).uri)) (is_read (head_of call.0).method) call.1.status
    ⊎ IsResponse 500 [] [] call.1
