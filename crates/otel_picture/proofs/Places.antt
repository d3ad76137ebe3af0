-- One place more, and parents that are in the picture.
use Rattle.std.proofs.Common.{◌≡◌, ◌<◌, ◌==◌, ◌++◌, ◌∷◌, [], ◌+◌, ◌∙◌, ℕ, zero, suc, Bool, true, false, List, length, get_or}
use Rattle.std.proofs.Common.{if◌then◌else◌, sym, ap, add-one, append-nil, map, Option, Some, None, arith}
use Rattle.std.proofs.Common.{position}
use Rattle.std.proofs.lemmas.List.{get_or-map, length-map}
use Rattle.std.proofs.lemmas.List.Quantifiers.{position-Some}
use Rattle.otel_shown.specs.Shown.{PlainShownSpan}
use Rattle.otel_picture.specs.Families.{is_of, parent_in, places_below}
use Rattle.otel_picture.specs.declared.rows.Mark.{Mark}

pub of_at : (spans : List PlainShownSpan) (trace place : ℕ) (span : PlainShownSpan) → place < length spans
    → span ≡ get_or spans place span → is_of spans trace place ≡ (span.trace_id == trace)
of_at spans trace place span there read =
    get_or-map (λ (s : PlainShownSpan). s.trace_id == trace) spans place span false there
    ∙ ap (λ (s : PlainShownSpan). s.trace_id == trace) (sym read)

pub place_more : (passes : ℕ → Bool) (count : ℕ) (places : List ℕ) → passes count ≡ true
    → places ≡ places_below passes count → places ++ count ∷ [] ≡ places_below passes (count + 1)
place_more passes count places e h = rw (add-one, e) (ap (λ (l : List ℕ). l ++ count ∷ []) h)

pub place_stays : (passes : ℕ → Bool) (count : ℕ) (places : List ℕ) → passes count ≡ false
    → places ≡ places_below passes count → places ≡ places_below passes (count + 1)
place_stays passes count places e h = rw (add-one, e) (h ∙ sym (append-nil (places_below passes count)))

below_by : (all : List Mark) (mark : Mark) (parent : ℕ) (none : Bool)
    → (if none then None else position (λ other. other.id == mark.parent) all) ≡ Some parent → parent < length all
below_by all mark parent true e = let no : None ≡ Some parent = e in absurd cc
below_by all mark parent false e = (position-Some (λ other. other.id == mark.parent) all parent mark e).0

some_below : (all marks : List Mark) (span parent : ℕ) → get_or (map (parent_in all) marks) span None ≡ Some parent
    → parent < length all
some_below all [] span parent e = let no : None ≡ Some parent = e in absurd cc
some_below all (mark ∷ marks) zero parent e = below_by all mark parent (mark.parent == 0) e
some_below all (mark ∷ marks) (suc span) parent e = some_below all marks span parent e

pub known_of : (marks : List Mark) (parents : List (Option ℕ)) → parents ≡ map (parent_in marks) marks
    → (span parent : ℕ) → get_or parents span None ≡ Some parent → parent < length parents
known_of marks parents is span parent e =
    let below = some_below marks marks span parent (rw is at e) in
    omega (arith, below, ap length is, length-map marks (parent_in marks))
