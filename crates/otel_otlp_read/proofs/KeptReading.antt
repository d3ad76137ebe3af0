-- Reading items one after the other, as a loop does, and leaving out those that do not read.
use Rattle.std.proofs.Common.{◌≡◌, ◌+◌, ◌<◌, ◌≤◌, ℕ, List, [], ◌∷◌, Result, Ok, length, get_or, drop, map, flat_map}
use Rattle.std.proofs.Common.{refl, ap, sym, ◌∙◌, append_assoc, append-nil}
use Rattle.std.proofs.lemmas.List.{drop_all}
use Rattle.std.proofs.lemmas.List.Concat.{flat_map-cons}
use Rattle.std.specs.List.{AllByRecursion}
use Rattle.json.specs.Json.{Json}
use Rattle.otel_otlp_read.specs.declared.fault.Fault.{Fault}
use Rattle.otel_otlp_read.specs.declared.left_out.ItemList.{ItemList}
use Rattle.otel_otlp_read.specs.Kept.{Kept, and_kept, kept_by, kept_from, of_item}
use Rattle.otel_otlp_read.proofs.Turns.{first_left}

-- all of a list is read, and nothing is left out
abbrev pub all_kept : {A : Type 0} → List A → Kept A
all_kept xs = record { kept = xs; left_out = [] }

module _ {A : Type 0} (read : ℕ → Json → Kept A) where
  -- one item more
  kept_step : (number : ℕ) (j : Json) (js : List Json) (before now total : Kept A)
      → now ≡ and_kept before (read number j)
      → and_kept before (kept_by read number (j ∷ js)) ≡ total
      → and_kept now (kept_by read (number + 1) js) ≡ total
  unfolding kept_by
  kept_step number j js before now total is so_far =
      let first = read number j in
      let others = kept_by read (number + 1) js in
      ap (λ k. and_kept k others) is
      ∙ (λ i. record {
        kept = append_assoc before.kept first.kept others.kept i;
        left_out = append_assoc before.left_out first.left_out others.left_out i;
      })
      ∙ so_far

  -- nothing is left
  kept_none : (number : ℕ) (before total : Kept A) → and_kept before (kept_by read number []) ≡ total
      → before ≡ total
  unfolding kept_by
  kept_none number before total so_far =
      sym (λ i. record { kept = append-nil before.kept i; left_out = append-nil before.left_out i }) ∙ so_far

  module _ {V : Type 0} (view : V → Json) (items : List V) (i : ℕ) (before total : Kept A) where
    pub kept_more : (x : V) (now : Kept A) → i < length items → x ≡ get_or items i x
        → and_kept before (kept_by read (i + 1) (map view (drop i items))) ≡ total
        → now ≡ and_kept before (read (i + 1) (view x))
        → and_kept now (kept_by read (i + 1 + 1) (map view (drop (i + 1) items))) ≡ total
    kept_more x now within is so_far one =
        kept_step (i + 1) (view x) (map view (drop (i + 1) items)) before now total one
        (sym (ap (λ ys. and_kept before (kept_by read (i + 1) (map view ys))) (first_left items i x within is)) ∙ so_far)

    pub kept_ends : length items ≤ i
        → and_kept before (kept_by read (i + 1) (map view (drop i items))) ≡ total → before ≡ total
    kept_ends past so_far =
        kept_none (i + 1) before total
        (sym (ap (λ ys. and_kept before (kept_by read (i + 1) (map view ys))) (drop_all i items past)) ∙ so_far)

  pub kept_back : {X : Type 0} (json : X → Json) (out : X → List A) (P : X → Type 0)
      → ((number : ℕ) (x : X) → P x → read number (json x) ≡ all_kept (out x)) → (number : ℕ) (xs : List X)
      → AllByRecursion P xs → kept_by read number (map json xs) ≡ all_kept (flat_map out xs)
  unfolding kept_by
  kept_back json out P back number [] h = refl
  kept_back json out P back number (x ∷ xs) h =
      ap (λ k. and_kept k (kept_by read (number + 1) (map json xs))) (back number x h.0)
      ∙ ap (and_kept (all_kept (out x))) (kept_back json out P back (number + 1) xs h.1)
      ∙ ap all_kept (sym (flat_map-cons out x xs))

-- an item of a list, by its number there
abbrev pub item_of : {A : Type 0} → (Json → Result (List A) Fault) → ItemList → ℕ → Json → Kept A
item_of read list number j = of_item (record { list = list; number = number }) (read j)

-- the same where each item is read whole or not at all
pub items_back : {A X : Type 0} (read : Json → Result (List A) Fault) (list : ItemList) (json : X → Json)
    (out : X → List A) (P : X → Type 0) → ((x : X) → P x → read (json x) ≡ Ok (out x)) → (xs : List X)
    → AllByRecursion P xs → kept_from read list 1 (map json xs) ≡ all_kept (flat_map out xs)
items_back read list json out P back xs h =
    kept_back (item_of read list) json out P
    (λ number x k. ap (of_item (record { list = list; number = number })) (back x k)) 1 xs h
