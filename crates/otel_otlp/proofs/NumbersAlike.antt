-- Numbers, ids, flags, kinds and statuses that are written alike are the same.
use Rattle.std.proofs.Common.{◌≡◌, ℕ, zero, suc, ◌<◌, ◌^◌, Bool, true, false, cond, List, [], map, length}
use Rattle.std.proofs.Common.{ap, sym, refl, ◌∙◌, arith}
use borrow.Author.Tests.{ne_eqb}
use Rattle.std.proofs.lemmas.Fmt.{decimal_injective}
use Rattle.std.specs.Fmt.{decimal}
use Rattle.opentelemetry.specs.Hex.{hex_text}
use Rattle.opentelemetry.specs.Plain.{PlainStatus, unset, error, ok}
use Rattle.opentelemetry.specs.Tracestate.{ArePairs, members, pair_of, tracestate_text}
use Rattle.opentelemetry.specs.declared.trace.span_kind.SpanKind.{SpanKind}
use Rattle.opentelemetry.specs.declared.trace.span_kind.SpanKind.TheVariants as kinds
use Rattle.opentelemetry.proofs.HexRead.{hex_text_IsHexText, hex_text_injective}
use Rattle.opentelemetry.proofs.Tracestates.{spells_only}
use Rattle.opentelemetry.proofs.WellFormed.{header_reads_back}
use Rattle.otel_otlp.specs.OtlpSpan.{code_number, flags_of, kind_number, message_text, parent_text, status_json}
use Rattle.otel_otlp.proofs.JsonParts.{text_part}

pub counts_same : (m n : ℕ) → m < 2 ^ 32 → n < 2 ^ 32 → decimal m ≡ decimal n → m ≡ n
counts_same m n h k e = decimal_injective m n (omega arith) (omega arith) e

pub trace_ids_same : (m n : ℕ) → m < 2 ^ 128 → n < 2 ^ 128 → hex_text 32 m ≡ hex_text 32 n → m ≡ n
trace_ids_same m n h k e = hex_text_injective 32 m n (omega arith) (omega arith) e

pub span_ids_same : (m n : ℕ) → m < 2 ^ 64 → n < 2 ^ 64 → hex_text 16 m ≡ hex_text 16 n → m ≡ n
span_ids_same m n h k e = hex_text_injective 16 m n (omega arith) (omega arith) e

-- an id has digits, and no parent has none
no_digits : (n : ℕ) → [] ≡ hex_text 16 n → ⊥
no_digits n e = omega (arith, ap length e, (hex_text_IsHexText 16 n).0)

some_parent : (n : ℕ) → parent_text (suc n) ≡ hex_text 16 (suc n)
some_parent n = ap (λ none. cond none [] (hex_text 16 (suc n))) (ne_eqb (suc n) 0 (λ e. omega arith))

pub parents_same : (m n : ℕ) → m < 2 ^ 64 → n < 2 ^ 64 → parent_text m ≡ parent_text n → m ≡ n
parents_same zero zero h k e = refl
parents_same zero (suc n) h k e = absurd (no_digits (suc n) (e ∙ some_parent n))
parents_same (suc m) zero h k e = absurd (no_digits (suc m) (sym e ∙ some_parent m))
parents_same (suc m) (suc n) h k e = span_ids_same (suc m) (suc n) h k (sym (some_parent m) ∙ e ∙ some_parent n)

pub trace_states_same : (p q : List (List ℕ × List ℕ)) → ArePairs p → ArePairs q
    → tracestate_text p ≡ tracestate_text q → p ≡ q
trace_states_same p q h k e =
    (spells_only (members (tracestate_text p)) p (header_reads_back p h)).1
    ∙ ap (λ text. map pair_of (members text)) e
    ∙ sym (spells_only (members (tracestate_text q)) q (header_reads_back q k)).1

pub flags_small : (a : ℕ) (r : Bool) → a < 2 ^ 8 → flags_of a r < 2 ^ 64
flags_small a true h = omega arith
flags_small a false h = omega arith

-- flags say the trace's flags, and whether a context is remote
pub flags_same : (a b : ℕ) (r s : Bool) → a < 2 ^ 8 → b < 2 ^ 8 → decimal (flags_of a r) ≡ decimal (flags_of b s)
    → (a ≡ b) × (r ≡ s)
flags_same a b true true h k e =
    let same = decimal_injective (flags_of a true) (flags_of b true) (omega arith) (omega arith) e in
    (omega arith, refl)
flags_same a b true false h k e =
    absurd (omega (arith, decimal_injective (flags_of a true) (flags_of b false) (omega arith) (omega arith) e))
flags_same a b false true h k e =
    absurd (omega (arith, decimal_injective (flags_of a false) (flags_of b true) (omega arith) (omega arith) e))
flags_same a b false false h k e =
    let same = decimal_injective (flags_of a false) (flags_of b false) (omega arith) (omega arith) e in
    (omega arith, refl)

pub kind_small : (kind : SpanKind) → kind_number kind < 2 ^ 64
kind_small kinds.Internal = omega arith
kind_small kinds.Server = omega arith
kind_small kinds.Client = omega arith
kind_small kinds.Producer = omega arith
kind_small kinds.Consumer = omega arith

kind_by_number : (a b : SpanKind) → kind_number a ≡ kind_number b → a ≡ b
kind_by_number kinds.Internal kinds.Internal e = refl
kind_by_number kinds.Server kinds.Server e = refl
kind_by_number kinds.Client kinds.Client e = refl
kind_by_number kinds.Producer kinds.Producer e = refl
kind_by_number kinds.Consumer kinds.Consumer e = refl
kind_by_number a b e = absurd (omega arith)

pub kinds_same : (a b : SpanKind) → decimal (kind_number a) ≡ decimal (kind_number b) → a ≡ b
kinds_same a b e =
    kind_by_number a b (decimal_injective (kind_number a) (kind_number b) (kind_small a) (kind_small b) e)

pub code_small : (status : PlainStatus) → code_number status < 2 ^ 64
code_small unset = omega arith
code_small ok = omega arith
code_small (error description) = omega arith

-- a status is its code and its message
status_by_code : (a b : PlainStatus) → code_number a ≡ code_number b → message_text a ≡ message_text b → a ≡ b
status_by_code unset unset e m = refl
status_by_code ok ok e m = refl
status_by_code (error description) (error other) e m = ap (λ text. error text) m
status_by_code a b e m = absurd (omega arith)

pub statuses_same : (a b : PlainStatus) → status_json a ≡ status_json b → a ≡ b
statuses_same a b e =
    status_by_code a b
    (decimal_injective (code_number a) (code_number b) (code_small a) (code_small b) (ap (text_part 1) e))
    (ap (text_part 0) e)
