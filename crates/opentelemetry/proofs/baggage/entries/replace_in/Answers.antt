use Rattle.std.proofs.Common.{ℕ, List, String, Global, string_bytes, Some, inl, inr, length, is_some, refl, sym, ap, ◌∙◌, arith, true≢false}
use Rattle.std.specs.Option.{option_map}
use Rattle.std.proofs.lemmas.Map.Steps.{set_value_same}
use Rattle.std.specs.Str.{bytes_eq}
use Rattle.opentelemetry.specs.Baggage.{plain_entries, with_entry, entry_of}
use Rattle.opentelemetry.proofs.BaggageLemmas.{plain-set_value, lookup_at, no_entry_at, is_some-entry_at, replaced_bytes}
use Rattle.opentelemetry.proofs.baggage.entries.replace_in.Goals as goal

pub returns-in_err-kept-clause-refused : goal.returns-in_err-kept-clause-refused
returns-in_err-kept-clause-refused c =
    (λ _. inl (no_entry_at c.args.map.now.entries c.args.name.now (sym c.in_err-kept.ensures.value)), λ _. ap is_some c.from_residual.ensures)

pub overflow_add-before-2 : goal.overflow_add-before-2
overflow_add-before-2 c =
    let fits = replaced_bytes c.args.map.now.entries c.args.name.now c.in_ok-kept.kept.now (c.args.value, c.args.metadata) c.args.bytes c.requires.counted (sym c.in_ok-kept.ensures.value) in
    let text = ap length c.as_str.ensures in
    let small = c.requires.small in
    omega (arith, c.len.ensures)

pub overflow_sub-bytes : goal.overflow_sub-bytes
overflow_sub-bytes c =
    let fits = replaced_bytes c.args.map.now.entries c.args.name.now c.in_ok-kept.kept.now (c.args.value, c.args.metadata) c.args.bytes c.requires.counted (sym c.in_ok-kept.ensures.value) in
    let text = ap length c.as_str.ensures in
    omega (arith, c.len.ensures)

pub returns-then-after-gt-MAX_BYTES-clause-refused : goal.returns-then-after-gt-MAX_BYTES-clause-refused
returns-then-after-gt-MAX_BYTES-clause-refused c =
    let fits = replaced_bytes c.args.map.now.entries c.args.name.now c.in_ok-kept.kept.now (c.args.value, c.args.metadata) c.args.bytes c.requires.counted (sym c.in_ok-kept.ensures.value) in
    let text = ap length c.as_str.ensures in
    let len = c.len.ensures in
    (λ _. inr (omega (arith, c.requires.added)), λ _. refl)

pub returns-then-after-gt-MAX_BYTES-clause-unchanged : goal.returns-then-after-gt-MAX_BYTES-clause-unchanged
returns-then-after-gt-MAX_BYTES-clause-unchanged c =
    let kept = c.in_ok-kept.kept.now in
    ap (λ (es : List (String Global × (String Global × List ℕ))). plain_entries es)
    ((c.get_mut.follows.holds kept).0 ∙ set_value_same (λ k. bytes_eq c.args.name.now (string_bytes k)) c.args.map.now.entries kept (sym c.in_ok-kept.ensures.value))

pub returns-clause-ok : goal.returns-clause-ok
returns-clause-ok c =
    let es = c.args.map.now.entries in
    ap (λ (all : List (String Global × (String Global × List ℕ))). plain_entries all) (c.get_mut.follows.holds c.replace.new.dest).0
    ∙ plain-set_value es c.args.name.now c.in_ok-kept.kept.now c.replace.new.dest (sym c.in_ok-kept.ensures.value)
    ∙ ap (λ (v : String Global × List ℕ). with_entry (plain_entries es) (entry_of c.args.name.now (string_bytes v.0) v.1)) c.replace.ensures.after

pub returns-clause-counted : goal.returns-clause-counted
returns-clause-counted c =
    let fits = replaced_bytes c.args.map.now.entries c.args.name.now c.in_ok-kept.kept.now (c.args.value, c.args.metadata) c.args.bytes c.requires.counted (sym c.in_ok-kept.ensures.value) in
    let text = ap length c.as_str.ensures in
    let len = c.len.ensures in
    omega (arith, c.requires.added)

pub returns-clause-replaced : goal.returns-clause-replaced
returns-clause-replaced c =
    ap (λ (v : String Global × List ℕ). Some (string_bytes v.0, v.1)) c.replace.ensures.value
    ∙ ap (option_map (λ (v : String Global × List ℕ). (string_bytes v.0, v.1))) c.in_ok-kept.ensures.value
    ∙ sym (lookup_at c.args.map.now.entries c.args.name.now)

pub returns-clause-refused : goal.returns-clause-refused
returns-clause-refused c =
    let there = is_some-entry_at c.args.map.now.entries c.args.name.now ∙ ap is_some (sym c.in_ok-kept.ensures.value) in
    let counted = returns-clause-counted c in
    let small = c.if-after-gt-MAX_BYTES.false in (
      λ none. absurd cc,
      λ h. elim h [ inl absent ↦ absurd (true≢false (sym there ∙ ap is_some absent)) | inr large ↦ absurd (omega arith) ],
    )
