-- The shop's routes, and the methods that it answers.
use Rattle.std.specs.Prelude.{ℕ, Bool, ◌||◌, List, codes, bytes_eq, Option, None, Some, if◌then◌else◌}
use Rattle.otel_shop.specs.declared.route.Route.{Route}
use Rattle.otel_shop.specs.declared.route.Route.TheVariants.{Broken, Cart, Price, Slow}

-- the text of a route
abbrev pub route_text : Route → List ℕ
route_text Cart = codes "/cart"
route_text Price = codes "/price"
route_text Broken = codes "/broken"
route_text Slow = codes "/slow"

-- the route at a path
abbrev pub route_at : List ℕ → Option Route
route_at path =
    if bytes_eq path (codes "/cart") then Some Cart else (
    if bytes_eq path (codes "/price") then Some Price else (
    if bytes_eq path (codes "/broken") then Some Broken else (
    if bytes_eq path (codes "/slow") then Some Slow else None)))

-- a method only reads
abbrev pub is_read : List ℕ → Bool
is_read method = bytes_eq method (codes "GET") || bytes_eq method (codes "HEAD")
