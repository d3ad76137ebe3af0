-- Items joined by commas, the first of them and the others.
use Rattle.std.proofs.Common.{◌≡◌, ◌≤◌, ℕ, List, [], ◌∷◌, Result, Ok, length, get_or, drop, take, map, ◌-◌}
use Rattle.std.proofs.lemmas.List.{take_rest}
use Rattle.std.proofs.Common.{sym, ap, subst, ◌∙◌, arith}
use Rattle.json.specs.Json.{Json}
use Rattle.otel_otlp_read.specs.declared.fault.Fault.{Fault}
use Rattle.otel_otlp_read.specs.declared.fault.ReadError.{ReadError}
use Rattle.otel_otlp_read.specs.AnyValue.{after_comma, comma_joined}
use Rattle.otel_otlp_read.specs.Reading.{Fails, Gives, grown, joined}
use Rattle.otel_otlp_read.proofs.Turns.{grown_fails, grown_then}

module _ {V : Type 0} (view : V → Json) (read : Json → Result (List ℕ) Fault) where
  -- where the first is not read
  pub first_fails : (error : ReadError) (front : List ℕ) (items : List V) (x : V) → 1 ≤ length items
      → x ≡ get_or items 0 x → Fails error (grown front (read (view x)))
      → Fails error (grown front (comma_joined read (map view items)))
  first_fails error front [] x some is h = absurd (omega arith)
  first_fails error front (y ∷ ys) x some is h =
      grown_fails error front (read (view y)) _ (subst (λ (z : V). Fails error (grown front (read (view z)))) is h)

  -- where it is, and then the others
  pub then_others : {X : Type 0} (seen : X → List ℕ) (answer : Result X ReadError) (front now : List ℕ)
      (items : List V) (x : V) → 1 ≤ length items → x ≡ get_or items 0 x → grown front (read (view x)) ≡ Ok now
      → Gives seen answer (grown now (joined (after_comma read) (map view (take (length items - 1) (drop 1 items)))))
      → Gives seen answer (grown front (comma_joined read (map view items)))
  then_others seen answer front now [] x some is e h = absurd (omega arith)
  then_others seen answer front now (y ∷ ys) x some is e h =
      let rest : take (length (y ∷ ys) - 1) ys ≡ ys = take_rest (y ∷ ys) 1 in
      let first : grown front (read (view y)) ≡ Ok now = ap (λ (z : V). grown front (read (view z))) (sym is) ∙ e in
      subst (λ (r : Result (List ℕ) Fault). Gives seen answer r)
      (sym (grown_then front (read (view y)) (joined (after_comma read) (map view ys)) now first))
      (subst (λ (zs : List V). Gives seen answer (grown now (joined (after_comma read) (map view zs)))) rest h)
