-- A walk over the lines of attributes: what it has found, and what it has put after a text.
use Rattle.std.proofs.Common.{◌≡◌, ℕ, ◌+◌, ◌<◌, List, ◌++◌, length, drop, get_or, Option, Some, None, Bool, true, false}
use Rattle.std.proofs.Common.{cond, refl, sym, ap, ◌∙◌, arith, flat_map, append-nil}
use Rattle.std.proofs.lemmas.List.{at_drop_more, at_drop_all}
use Rattle.std.proofs.lemmas.List.Concat.{flat_map-cons}
use Rattle.std.specs.List.{after_first}
use Rattle.otel_picture.specs.Details.{has_key, is_equals, value_in}
use Rattle.otel_picture.proofs.Joined.{taken}

found_here : (b : Bool) (v w : List ℕ) (rest : Option (List ℕ)) → Some v ≡ cond b (Some w) None → Some v ≡ cond b (Some w) rest
found_here true v w rest h = h
found_here false v w rest h = absurd cc

found_later : (b : Bool) (w : List ℕ) (rest : Option (List ℕ)) → None ≡ cond b (Some w) None → cond b (Some w) rest ≡ rest
found_later true w rest h = absurd cc
found_later false w rest h = refl

value_next : (key : List ℕ) (ls : List (List ℕ)) (n : ℕ) (l : List ℕ) → (n < length ls) × (l ≡ get_or ls n l)
    → value_in key (drop n ls) ≡ cond (has_key key l) (Some (after_first is_equals l)) (value_in key (drop (n + 1) ls))
value_next key ls n l h =
    at_drop_more (value_in key) ls n l h.0
    ∙ ap (λ x. cond (has_key key x) (Some (after_first is_equals x)) (value_in key (drop (n + 1) ls))) (sym h.1)

-- the line of this turn has the key
pub value_here : (key : List ℕ) (ls : List (List ℕ)) (n : ℕ) (l v : List ℕ) → (n < length ls) × (l ≡ get_or ls n l)
    → value_in key (drop n ls) ≡ value_in key ls → Some v ≡ cond (has_key key l) (Some (after_first is_equals l)) None
    → Some v ≡ value_in key ls
value_here key ls n l v turn so_far found =
    found_here (has_key key l) v (after_first is_equals l) (value_in key (drop (n + 1) ls)) found
    ∙ sym (value_next key ls n l turn) ∙ so_far

-- it does not
pub value_later : (key : List ℕ) (ls : List (List ℕ)) (n k : ℕ) (l : List ℕ) → (n < length ls) × (l ≡ get_or ls n l)
    → k ≡ n + 1 → value_in key (drop n ls) ≡ value_in key ls
    → None ≡ cond (has_key key l) (Some (after_first is_equals l)) None → value_in key (drop k ls) ≡ value_in key ls
value_later key ls n k l turn next so_far missing =
    ap (λ i. value_in key (drop i ls)) next
    ∙ sym (found_later (has_key key l) (after_first is_equals l) (value_in key (drop (n + 1) ls)) missing)
    ∙ sym (value_next key ls n l turn) ∙ so_far

-- no line has it
pub value_nowhere : (key : List ℕ) (ls : List (List ℕ)) (n : ℕ) → length ls ≡ n
    → value_in key (drop n ls) ≡ value_in key ls → None ≡ value_in key ls
value_nowhere key ls n all so_far = sym (at_drop_all (value_in key) ls n (omega arith)) ∙ so_far

module _ (f : List ℕ → List ℕ) (ls : List (List ℕ)) (n : ℕ) where
  -- what the line of this turn becomes was put after a text
  pub line_put : (k : ℕ) (l text new whole : List ℕ) → (n < length ls) × (l ≡ get_or ls n l) → k ≡ n + 1
      → new ≡ text ++ f l → text ++ flat_map f (drop n ls) ≡ whole → new ++ flat_map f (drop k ls) ≡ whole
  line_put k l text new whole turn next is so_far =
      ap (λ i. new ++ flat_map f (drop i ls)) next
      ∙ taken text new (f l) (flat_map f (drop (n + 1) ls)) (flat_map f (drop n ls)) whole is
      (at_drop_more (flat_map f) ls n l turn.0 ∙ flat_map-cons f (get_or ls n l) (drop (n + 1) ls)
      ∙ ap (λ x. f x ++ flat_map f (drop (n + 1) ls)) (sym turn.1)) so_far

  -- no line is left
  pub lines_put : (text whole : List ℕ) → length ls ≡ n → text ++ flat_map f (drop n ls) ≡ whole → text ≡ whole
  lines_put text whole all so_far =
      sym (append-nil text) ∙ ap (λ t. text ++ t) (sym (at_drop_all (flat_map f) ls n (omega arith))) ∙ so_far
