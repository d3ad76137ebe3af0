-- Edits that are made up to one that found no memory.
use Rattle.std.proofs.Common.{◌≡◌, ◌<◌, ℕ, ◌-◌, ◌^◌, Bool, true, false, List, [], ◌∷◌, ◌++◌, inl, inr}
use Rattle.std.proofs.Common.{filter, length, map}
use Rattle.std.proofs.Common.{if◌then◌else◌, refl, ap, sym, subst, ◌∙◌, append_assoc, append-nil, arith, length-append}
use Rattle.std.proofs.lemmas.List.Elements.{filter-append}
use Rattle.std.proofs.lemmas.List.{map_push}
use Rattle.opentelemetry.specs.Baggage.{PlainBaggage, PlainBaggageEntry}
use Rattle.opentelemetry.specs.Plain.{PlainContext}
use Rattle.otel_pipeline.specs.SpanHistory.{Edit, PlainSpan, after, edited}
use Rattle.otel_baggage_processor.specs.BaggageEdits.{BaggageProcessor, MakesBeginning, SetsBaggage, SetsOrCounts}
use Rattle.otel_baggage_processor.specs.BaggageEdits.{baggage_edits, counted_up, entry_edit}

after-append : (edits more : List Edit) (span : PlainSpan) → after (edits ++ more) span ≡ after more (after edits span)
after-append [] more span = refl
after-append (edit ∷ edits) more span = after-append edits more (edited edit span)

none_out : (edits : List Edit) → 0 ≡ counted_up 0 (length edits) → edits ≡ []
none_out [] h = refl
none_out (edit ∷ edits) h = absurd (omega arith)

pub none_made : (span : PlainSpan) → MakesBeginning [] span span 0
none_made span = record { made = []; left_out = []; all = refl; span = refl; counted = refl }

-- one more edit is made, or left out
pub one_more : (edits : List Edit) (edit : Edit) (old span new : PlainSpan) (before count : ℕ)
    → MakesBeginning edits old span before → SetsOrCounts edit before span new count
    → MakesBeginning (edits ++ edit ∷ []) old new count
one_more edits edit old span new before count h (inl s) =
    let none : h.left_out ≡ [] = none_out h.left_out (sym s.0 ∙ h.counted) in
    let all : edits ≡ h.made =
    h.all ∙ ap (λ (l : List Edit). h.made ++ l) none ∙ append-nil h.made in
    record {
      made = h.made ++ edit ∷ [];
      left_out = [];
      all = ap (λ (l : List Edit). l ++ edit ∷ []) all ∙ sym (append-nil (h.made ++ edit ∷ []));
      span = s.2 ∙ ap (λ x. edited edit x) h.span ∙ sym (after-append h.made (edit ∷ []) old);
      counted = s.1;
    }
one_more edits edit old span new before count h (inr s) = record {
  made = h.made;
  left_out = h.left_out ++ edit ∷ [];
  all = ap (λ (l : List Edit). l ++ edit ∷ []) h.all ∙ append_assoc h.made h.left_out (edit ∷ []);
  span = s.1 ∙ h.span;
  counted = omega (arith, s.0, h.counted, length-append h.left_out (edit ∷ []));
}

-- the edits of a baggage with one entry more
module _ (takes : List ℕ → Bool) (baggage : PlainBaggage) (entry : PlainBaggageEntry) where
  chosen : (b : Bool) → takes entry.key ≡ b → filter (λ e. takes e.key) (baggage ++ entry ∷ [])
      ≡ filter (λ e. takes e.key) baggage ++ (if b then entry ∷ [] else [])
  chosen b h =
      filter-append (λ (e : PlainBaggageEntry). takes e.key) baggage (entry ∷ [])
      ∙ ap (λ (t : Bool). filter (λ e. takes e.key) baggage ++ (if t then entry ∷ [] else [])) h

  pub taken_more : takes entry.key ≡ true
      → baggage_edits takes (baggage ++ entry ∷ [])
      ≡ baggage_edits takes baggage ++ entry_edit entry.key entry.value ∷ []
  taken_more h =
      ap (λ l. map (λ e. entry_edit e.key e.value) l) (chosen true h)
      ∙ map_push (λ (e : PlainBaggageEntry). entry_edit e.key e.value) (filter (λ e. takes e.key) baggage) entry

  pub refused_more : takes entry.key ≡ false → baggage_edits takes (baggage ++ entry ∷ []) ≡ baggage_edits takes baggage
  refused_more h =
      ap (λ l. map (λ e. entry_edit e.key e.value) l)
      (chosen false h ∙ append-nil (filter (λ e. takes e.key) baggage))

-- an entry that is taken
pub entry_more : (takes : List ℕ → Bool) (baggage : PlainBaggage) (entry : PlainBaggageEntry)
    (old span new : PlainSpan) (before count : ℕ) → takes entry.key ≡ true
    → MakesBeginning (baggage_edits takes baggage) old span before
    → SetsOrCounts (entry_edit entry.key entry.value) before span new count
    → MakesBeginning (baggage_edits takes (baggage ++ entry ∷ [])) old new count
entry_more takes baggage entry old span new before count taken h s =
    subst (λ (edits : List Edit). MakesBeginning edits old new count) (sym (taken_more takes baggage entry taken))
    (one_more (baggage_edits takes baggage) (entry_edit entry.key entry.value) old span new before count h s)

no_items : {X : Type 0} (xs ys : List X) → [] ≡ xs ++ ys → (xs ≡ []) × (ys ≡ [])
no_items [] ys h = (refl, sym h)
no_items (x ∷ xs) ys h = absurd (cc)

module _ {K : Type 0} (takes : K → List ℕ → Bool) (old new : BaggageProcessor K) (before later : PlainSpan)
    (cx : PlainContext) (h : SetsBaggage takes old before cx later new) where
  left_out : new.left_out ≡ counted_up old.left_out h.count
  left_out = ap (λ (p : BaggageProcessor K). p.left_out) h.counted

  pub all_set : old.left_out < 2 ^ 64 - 1 → new.left_out ≡ old.left_out
      → later ≡ after (baggage_edits (takes old.keys) cx.baggage) before
  all_set few same =
      let zero : 0 ≡ h.count = omega (arith, left_out) in
      let none : h.edits.left_out ≡ [] = none_out h.edits.left_out (zero ∙ h.edits.counted) in
      let all : baggage_edits (takes old.keys) cx.baggage ≡ h.edits.made =
      h.edits.all ∙ ap (λ (l : List Edit). h.edits.made ++ l) none ∙ append-nil h.edits.made in
      h.edits.span ∙ ap (λ (l : List Edit). after l before) (sym all)

  pub none_set : old.left_out < 2 ^ 64 → baggage_edits (takes old.keys) cx.baggage ≡ []
      → (later ≡ before) × (new ≡ old)
  none_set few none =
      let nothing = no_items h.edits.made h.edits.left_out (sym none ∙ h.edits.all) in
      let count : h.count ≡ 0 = h.edits.counted ∙ ap (λ (l : List Edit). counted_up 0 (length l)) nothing.1 in
      let same : counted_up old.left_out h.count ≡ old.left_out = omega arith in (
        h.edits.span ∙ ap (λ (l : List Edit). after l before) nothing.0,
        h.counted ∙ ap (λ (n : ℕ). record old { left_out = n }) same,
      )
