-- Traces that are chosen, and the longest of them.
use Rattle.std.proofs.Common.{◌≡◌, ◌<◌, ◌≤◌, ◌+◌, ◌==◌, ◌++◌, ◌∷◌, [], ◌∙◌, ℕ, Bool, true, false, List}
use Rattle.std.proofs.Common.{Option, Some, None, ap, arith, get_or, is_lt, length, map, nat_cmp, nat_lt, subst, sym}
use Rattle.std.proofs.Common.{take}
use Rattle.std.proofs.lemmas.List.{get_or-map, length-map, map-append, take-map}
use Rattle.std.proofs.lemmas.List.Elements.{filter-append}
use Rattle.std.proofs.lemmas.List.Sorted.{IsPermutation-map}
use Rattle.std.specs.Prelude.{if◌then◌else◌}
use Rattle.std.specs.List.{filter}
use Rattle.std.specs.List.Sorted.{IsPermutation, IsSortedBy}
use Rattle.std.specs.Ordering.{ordering_then}
use Rattle.otel_picture.specs.Choices.{AreLeft, first_place, is_slower, trace_length}
use Rattle.otel_picture.specs.Traces.{PlainTrace, plain_trace}
use Rattle.otel_picture.specs.declared.trace.Trace.{Trace}
use Rattle.otel_picture.proofs.Ordering.{compared}

-- one more that passes
pub chosen_more : (test : PlainTrace → Bool) (taken yielded new : List Trace) (trace : Trace) → new ≡ taken ++ trace ∷ []
    → map plain_trace taken ≡ filter test (map plain_trace yielded) → test (plain_trace trace) ≡ true
    → map plain_trace new ≡ filter test (map plain_trace (yielded ++ trace ∷ []))
chosen_more test taken yielded new trace e h passes =
    ap (map plain_trace) e ∙ map-append plain_trace taken (trace ∷ []) ∙ ap (λ xs. xs ++ plain_trace trace ∷ []) h
    ∙ ap (λ b. filter test (map plain_trace yielded) ++ (if b then plain_trace trace ∷ [] else [])) (sym passes)
    ∙ sym (ap (filter test) (map-append plain_trace yielded (trace ∷ []))
    ∙ filter-append test (map plain_trace yielded) (plain_trace trace ∷ []))

-- so many of what was sorted
pub left_sorted : (slowest : Option ℕ) (count : ℕ) (chosen : List PlainTrace) (taken sorted left : List Trace)
    → slowest ≡ Some count → map plain_trace taken ≡ chosen → IsPermutation taken sorted
    → IsSortedBy is_slower (map plain_trace sorted) → left ≡ take count sorted
    → AreLeft slowest chosen (map plain_trace left)
left_sorted slowest count chosen taken sorted left asked e same in_order l =
    subst (λ (s : Option ℕ). AreLeft s chosen (map plain_trace left)) (sym asked) (record {
      all = map plain_trace sorted;
      same = subst (λ (xs : List PlainTrace). IsPermutation xs (map plain_trace sorted)) e
          (IsPermutation-map plain_trace taken sorted same);
      sorted = in_order;
      drawn_are = ap (map plain_trace) l ∙ sym (take-map plain_trace count sorted);
    })

-- or all
pub left_all : (slowest : Option ℕ) (chosen : List PlainTrace) (taken : List Trace) → slowest ≡ None
    → map plain_trace taken ≡ chosen → AreLeft slowest chosen (map plain_trace taken)
left_all slowest chosen taken asked e =
    subst (λ (s : Option ℕ). AreLeft s chosen (map plain_trace taken)) (sym asked) e

-- how two keys of a length and a place compare
slower_compared : (trace other : PlainTrace)
    → is_lt (ordering_then (nat_cmp (trace_length other) (trace_length trace))
    (nat_cmp (first_place trace) (first_place other))) ≡ is_slower trace other
slower_compared trace other =
    compared (nat_lt (trace_length other) (trace_length trace)) (trace_length other == trace_length trace)
    (nat_lt (first_place trace) (first_place other)) (first_place trace == first_place other)

-- traces in the order of their keys
pub sorted_plain : (traces : List Trace)
    → ((k : ℕ) (d : Trace) → 0 ≤ k → k + 1 < length traces
    → is_lt (ordering_then (nat_cmp (trace_length (plain_trace (get_or traces k d)))
    (trace_length (plain_trace (get_or traces (k + 1) d))))
    (nat_cmp (first_place (plain_trace (get_or traces (k + 1) d))) (first_place (plain_trace (get_or traces k d)))))
    ≡ false)
    → IsSortedBy is_slower (map plain_trace traces)
sorted_plain [] h k d least l = absurd (omega (arith, l))
sorted_plain (trace ∷ traces) h k d least l =
    let all : List Trace = trace ∷ traces in
    let below : k + 1 < length all = omega (arith, l, length-map all plain_trace) in
    ap (λ one. is_slower one (get_or (map plain_trace all) k d)) (get_or-map plain_trace all (k + 1) trace d below)
    ∙ ap (λ one. is_slower (plain_trace (get_or all (k + 1) trace)) one)
    (get_or-map plain_trace all k trace d (omega (arith, below)))
    ∙ sym (slower_compared (plain_trace (get_or all (k + 1) trace)) (plain_trace (get_or all k trace)))
    ∙ h k trace least below
