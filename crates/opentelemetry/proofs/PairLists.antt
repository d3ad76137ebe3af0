-- Walking over a list of pairs.
use Rattle.std.proofs.Common.{◌≡◌, ℕ, ◌+◌, ◌<◌, Bool, true, false, not, cond, List, [], ◌∷◌, ◌++◌, length, take, drop, get_or, map, Some, refl, sym, ap, ◌∙◌}
use Rattle.std.proofs.lemmas.List.{take-append-drop, take_more, drop_more, map-append}
use Rattle.std.proofs.lemmas.List.Elements.{filter-append}
use Rattle.std.specs.List.{filter}
use Rattle.opentelemetry.specs.Same.{same_text}
use Rattle.opentelemetry.specs.Tracestate.{first_of_two, first_pair_fault, pair_fault, value_of_key, without_key}

module _ {X : Type 0} (t : X → List ℕ × List ℕ) (xs : List X) (i : ℕ) (x : X) (inside : i < length xs) (is : x ≡ get_or xs i x) where
  next_is : drop i xs ≡ x ∷ drop (i + 1) xs
  next_is = drop_more xs i x inside ∙ ap (λ y. y ∷ drop (i + 1) xs) (sym is)

  -- the fault of what is left is that of the next pair, or else of the others
  pub fault_step : first_pair_fault (map t (drop i xs)) ≡ first_of_two (pair_fault (t x)) (first_pair_fault (map t (drop (i + 1) xs)))
  fault_step = ap (λ l. first_pair_fault (map t l)) next_is

  -- the value in what is left is that of the next pair, or else of the others
  pub value_step : (key : List ℕ) → value_of_key key (map t (drop i xs)) ≡ cond (same_text (t x).0 key) (Some (t x).1) (value_of_key key (map t (drop (i + 1) xs)))
  value_step key = ap (λ l. value_of_key key (map t l)) next_is

  -- the next pair comes after those that stayed, unless it has the key
  pub without_step : (key : List ℕ) → without_key key (map t (take i xs)) ++ without_key key (t x ∷ []) ≡ without_key key (map t (take (i + 1) xs))
  without_step key =
      sym (ap (λ l. without_key key (map t l)) (take_more xs i x inside ∙ ap (λ y. take i xs ++ y ∷ []) (sym is))
      ∙ ap (λ l. without_key key l) (map-append t (take i xs) (x ∷ [])) ∙ filter-append _ (map t (take i xs)) (t x ∷ []))

  -- the pairs that stay are those before the next one, that one unless it has the key, and those after it
  pub without_around : (key : List ℕ) → without_key key (map t xs) ≡ without_key key (map t (take i xs)) ++ (without_key key (t x ∷ []) ++ without_key key (map t (drop (i + 1) xs)))
  without_around key =
      ap (λ l. without_key key (map t l)) (sym (take-append-drop i xs) ∙ ap (λ l. take i xs ++ l) next_is)
      ∙ ap (λ l. without_key key l) (map-append t (take i xs) (x ∷ drop (i + 1) xs))
      ∙ filter-append _ (map t (take i xs)) (t x ∷ map t (drop (i + 1) xs))
      ∙ ap (λ l. without_key key (map t (take i xs)) ++ l) (filter-append (λ pair. not (same_text pair.0 key)) (t x ∷ []) (map t (drop (i + 1) xs)))

-- the plain pairs of those that have another key
pub plain_without : {X : Type 0} (t : X → List ℕ × List ℕ) (key : List ℕ) (xs : List X) → map t (filter (λ x. not (same_text (t x).0 key)) xs) ≡ without_key key (map t xs)
plain_without t key [] = refl
plain_without t key (x ∷ xs) = by (not (same_text (t x).0 key)) (plain_without t key xs)
  where
    by : (b : Bool) → map t (filter (λ y. not (same_text (t y).0 key)) xs) ≡ without_key key (map t xs) → map t (cond b (x ∷ filter (λ y. not (same_text (t y).0 key)) xs) (filter (λ y. not (same_text (t y).0 key)) xs)) ≡ cond b (t x ∷ without_key key (map t xs)) (without_key key (map t xs))
    by true rest = ap (λ l. t x ∷ l) rest
    by false rest = rest
