-- Whether two plain values are the same, part by part. Each test is true exactly at equal values, so it is an
-- equivalence.
use Rattle.std.specs.Prelude.{◌≡◌, ℕ, Bool, true, false, ◌&&◌, List, [], ◌∷◌, map, nat_eq, refl}
use Rattle.std.specs.Prelude.{◌==◌}
use Rattle.std.specs.Bool.{Decides, beq}
use Rattle.std.specs.Cmp.{IsEquivalence, IsPartialEquivalence, partial_equiv_from_equiv}
use Rattle.std.specs.Cmp.Lexicographic.{pointwise, pointwise_decides, bytes_decides}
use Rattle.std.specs.Ordering.{int_eq}
use Rattle.std.proofs.Common.{ap, sym}
use Rattle.std.proofs.lemmas.Bool.Decides.{same_from_decides, Decides-eqb, Decides-int_eq}
use Rattle.std.proofs.lemmas.Bool.Decides.{Decides-like, Decides-and}
use Rattle.std.specs.Float.Ieee.{Float, nan, inf, fin}
use Rattle.opentelemetry.specs.Plain.{PlainValue, boolean, integer, text, booleans, integers, texts, double, doubles}
use Rattle.opentelemetry.specs.Plain.{PlainKeyValue, PlainSpanContext, PlainStatus, unset, error, ok}

-- a test that is true exactly at equal values is an equivalence
pub equivalence_from_decides : {K : Type 0} (E : K → K → Bool)
    → ((x y : K) → Decides (E x y) (x ≡ y)) → IsEquivalence E
equivalence_from_decides E d = record {
  refl = λ x. (d x x).1 refl;
  symm = λ x y. same_from_decides (E x y) (E y x) (d x y) (Decides-like (E y x) sym sym (d y x));
  congr = λ x y z h. ap (λ w. E w z) ((d x y).0 h);
}

-- the same for the weaker law
pub partial_equivalence_from_decides : {K : Type 0} (E : K → K → Bool)
    → ((x y : K) → Decides (E x y) (x ≡ y)) → IsPartialEquivalence E
partial_equivalence_from_decides E d = partial_equiv_from_equiv (equivalence_from_decides E d)

-- two lists are compared by what h makes of their elements
pub pointwise_map : {A B : Type 0} (h : A → B) (E : B → B → Bool) (xs ys : List A)
    → pointwise E (map h xs) (map h ys) ≡ pointwise (λ a b. E (h a) (h b)) xs ys
pointwise_map h E [] [] = refl
pointwise_map h E [] (y ∷ ys) = refl
pointwise_map h E (x ∷ xs) [] = refl
pointwise_map h E (x ∷ xs) (y ∷ ys) = ap (λ rest. E (h x) (h y) && rest) (pointwise_map h E xs ys)

-- whether two texts are the same
abbrev pub same_text : List ℕ → List ℕ → Bool
same_text = pointwise nat_eq

pub same_text_decides : (a b : List ℕ) → Decides (same_text a b) (a ≡ b)
same_text_decides = bytes_decides

pub same_truth_decides : (a b : Bool) → Decides (beq a b) (a ≡ b)
same_truth_decides true true = (λ _. refl, λ _. refl)
same_truth_decides true false = (λ h. cc, λ e. cc)
same_truth_decides false true = (λ h. cc, λ e. cc)
same_truth_decides false false = (λ _. refl, λ _. refl)

-- whether two floats are the same: of zeros the sign counts, and there is one NaN
abbrev pub same_float : Float → Float → Bool
same_float nan nan = true
same_float (inf s) (inf t) = beq s t
same_float (fin s m e) (fin t n d) = beq s t && ((m == n) && int_eq e d)
same_float _ _ = false

pub same_float_decides : (a b : Float) → Decides (same_float a b) (a ≡ b)
same_float_decides nan nan = (λ _. refl, λ _. refl)
same_float_decides (inf s) (inf t) = Decides-like (beq s t) (ap inf) (λ e. cc) (same_truth_decides s t)
same_float_decides (fin s m e) (fin t n d) =
    Decides-like (same_float (fin s m e) (fin t n d))
    (λ q. λ i. fin (q.0 i) (q.1.0 i) (q.1.1 i))
    (λ q. (cc, (cc, cc)))
    (Decides-and _ _ (same_truth_decides s t) (Decides-and _ _ (Decides-eqb m n) (Decides-int_eq e d)))
same_float_decides _ _ = (λ h. cc, λ e. cc)

-- whether two values of attributes are the same
abbrev pub same_value : PlainValue → PlainValue → Bool
same_value (boolean a) (boolean b) = beq a b
same_value (integer a) (integer b) = int_eq a b
same_value (text a) (text b) = same_text a b
same_value (booleans a) (booleans b) = pointwise beq a b
same_value (integers a) (integers b) = pointwise int_eq a b
same_value (texts a) (texts b) = pointwise same_text a b
same_value (double a) (double b) = same_float a b
same_value (doubles a) (doubles b) = pointwise same_float a b
same_value _ _ = false

pub same_value_decides : (a b : PlainValue) → Decides (same_value a b) (a ≡ b)
same_value_decides (boolean a) (boolean b) = Decides-like (beq a b) (ap boolean) (λ e. cc) (same_truth_decides a b)
same_value_decides (integer a) (integer b) = Decides-like (int_eq a b) (ap integer) (λ e. cc) (Decides-int_eq a b)
same_value_decides (text a) (text b) = Decides-like (same_text a b) (ap text) (λ e. cc) (same_text_decides a b)
same_value_decides (booleans a) (booleans b) =
    Decides-like (pointwise beq a b) (ap booleans) (λ e. cc) (pointwise_decides same_truth_decides a b)
same_value_decides (integers a) (integers b) =
    Decides-like (pointwise int_eq a b) (ap integers) (λ e. cc) (pointwise_decides Decides-int_eq a b)
same_value_decides (texts a) (texts b) =
    Decides-like (pointwise same_text a b) (ap texts) (λ e. cc) (pointwise_decides same_text_decides a b)
same_value_decides (double a) (double b) = Decides-like (same_float a b) (ap double) (λ e. cc) (same_float_decides a b)
same_value_decides (doubles a) (doubles b) =
    Decides-like (pointwise same_float a b) (ap doubles) (λ e. cc) (pointwise_decides same_float_decides a b)
same_value_decides _ _ = (λ h. cc, λ e. cc)

-- whether two attributes are the same
abbrev pub same_attribute : PlainKeyValue → PlainKeyValue → Bool
same_attribute a b = same_text a.key b.key && same_value a.value b.value

pub same_attribute_decides : (a b : PlainKeyValue) → Decides (same_attribute a b) (a ≡ b)
same_attribute_decides a b =
    Decides-like (same_attribute a b)
    (λ e. λ i. record { key = e.0 i; value = e.1 i })
    (λ e. (ap (λ x. x.key) e, ap (λ x. x.value) e))
    (Decides-and _ _ (same_text_decides a.key b.key) (same_value_decides a.value b.value))

-- whether two pairs of texts are the same
abbrev pub same_pair : List ℕ × List ℕ → List ℕ × List ℕ → Bool
same_pair a b = same_text a.0 b.0 && same_text a.1 b.1

pub same_pair_decides : (a b : List ℕ × List ℕ) → Decides (same_pair a b) (a ≡ b)
same_pair_decides a b =
    Decides-like (same_pair a b)
    (λ e. λ i. (e.0 i, e.1 i))
    (λ e. (ap (λ x. x.0) e, ap (λ x. x.1) e))
    (Decides-and (same_text a.0 b.0) (same_text a.1 b.1) (same_text_decides a.0 b.0) (same_text_decides a.1 b.1))

-- whether two lists of pairs are the same
abbrev pub same_pairs : List (List ℕ × List ℕ) → List (List ℕ × List ℕ) → Bool
same_pairs = pointwise same_pair

pub same_pairs_decides : (a b : List (List ℕ × List ℕ)) → Decides (same_pairs a b) (a ≡ b)
same_pairs_decides = pointwise_decides same_pair_decides

-- whether two span contexts are the same
abbrev pub same_span_context : PlainSpanContext → PlainSpanContext → Bool
same_span_context a b = (a.trace_id == b.trace_id) && ((a.span_id == b.span_id) && ((a.trace_flags == b.trace_flags)
    && (beq a.is_remote b.is_remote && same_pairs a.trace_state b.trace_state)))

pub same_span_context_decides : (a b : PlainSpanContext) → Decides (same_span_context a b) (a ≡ b)
same_span_context_decides a b =
    Decides-like (same_span_context a b)
    (λ e. λ i. record {
      trace_id = e.0 i;
      span_id = e.1.0 i;
      trace_flags = e.1.1.0 i;
      is_remote = e.1.1.1.0 i;
      trace_state = e.1.1.1.1 i;
    })
    (λ e. (
      ap (λ x. x.trace_id) e,
      (ap (λ x. x.span_id) e, (ap (λ x. x.trace_flags) e, (ap (λ x. x.is_remote) e, ap (λ x. x.trace_state) e))),
    ))
    (Decides-and _ _ (Decides-eqb a.trace_id b.trace_id)
    (Decides-and _ _ (Decides-eqb a.span_id b.span_id)
    (Decides-and _ _ (Decides-eqb a.trace_flags b.trace_flags)
    (Decides-and _ _ (same_truth_decides a.is_remote b.is_remote) (same_pairs_decides a.trace_state b.trace_state)))))

-- whether two statuses are the same
abbrev pub same_status : PlainStatus → PlainStatus → Bool
same_status unset unset = true
same_status (error a) (error b) = same_text a b
same_status ok ok = true
same_status _ _ = false

pub same_status_decides : (a b : PlainStatus) → Decides (same_status a b) (a ≡ b)
same_status_decides unset unset = (λ _. refl, λ _. refl)
same_status_decides (error a) (error b) = Decides-like (same_text a b) (ap error) (λ e. cc) (same_text_decides a b)
same_status_decides ok ok = (λ _. refl, λ _. refl)
same_status_decides _ _ = (λ h. cc, λ e. cc)
