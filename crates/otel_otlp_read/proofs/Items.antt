-- The items of an array, as a list, whether an object has members, and whether one is there.
use Rattle.std.specs.Prelude.{is_some, option_map}
use Rattle.std.proofs.Common.{◌≡◌, ℕ, List, [], ◌∷◌, Option, None, Some, eqb, length, refl, ap, arith}
use Rattle.std.specs.Borrow.{Bor}
use borrow.Author.Tests.{ne_eqb}
use Rattle.json.specs.Json.{Json, object}
use Rattle.json.specs.Value.{items_of, members_view}
use Rattle.json.specs.declared.value.Value.{Value}
use Rattle.otel_otlp_read.specs.Members.{listed}
use Rattle.otel_otlp_read.specs.Requests.{is_empty_object}

-- what is there, as it is seen
pub some_seen : {X Y : Type 0} (view : X → Y) (found : Option X) → is_some found ≡ is_some (option_map view found)
some_seen view None = refl
some_seen view (Some x) = refl

pub listed_view : (js : List Json) → listed (items_of js) ≡ js
listed_view [] = refl
listed_view (j ∷ js) = ap (λ rest. j ∷ rest) (listed_view js)

pub empty_view : {A : Type 0} (ms : List (Bor (List ℕ) × Value A))
    → eqb (length ms) 0 ≡ is_empty_object (object (members_view ms))
empty_view [] = refl
empty_view (m ∷ ms) = ne_eqb (length (m ∷ ms)) 0 (λ e. omega arith)
