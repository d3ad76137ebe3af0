-- The entry that a member says is no longer than the member.
use Rattle.std.proofs.Common.{◌≡◌, ℕ, ◌+◌, ◌≤◌, true, false, List, [], ◌∷◌, length, cond, sum_by, Option, Some, None, refl, ap, subst, ◌∙◌, ◌-◌, arith, length-append}
use Rattle.std.specs.List.{cons_option, filter_map, join_with_byte}
use Rattle.std.specs.Str.{is_utf8, trim}
use Rattle.std.proofs.lemmas.Str.{IsUtf8-from_is_utf8}
use Rattle.std.proofs.lemmas.List.Sums.{sum_by-cons}
use Rattle.std.proofs.lemmas.List.Splits.{join_with_byte-slice_split}
use Rattle.percent_encoding.specs.Percent.{percent_decode}
use Rattle.percent_encoding.proofs.PercentLemmas.{length-percent_decode}
use Rattle.opentelemetry.specs.Baggage.{PlainBaggageEntry, entry_of}
use Rattle.opentelemetry.specs.Members.{equals_sign}
use Rattle.otel_propagation.specs.BaggageHeader.{said_by, metadata_of, named_entry, paired_entry, entry_of_parts, entry_of_member}
use Rattle.otel_propagation.specs.BaggagePieces.{IsNamedWithin}
use Rattle.opentelemetry.specs.Members.{pieces_at, semicolon}
use Rattle.otel_propagation.proofs.TrimLemmas.{length-trim}

-- how long pieces are, each with one byte after it
abbrev pub pieces_bytes : List (List ℕ) → ℕ
pieces_bytes pieces = sum_by (λ piece. length piece + 1) pieces

pub joined_length : (c : ℕ) (ts : List (List ℕ)) → (length (join_with_byte c ts) ≤ pieces_bytes ts) × (pieces_bytes ts ≤ length (join_with_byte c ts) + 1)
joined_length c [] = (omega arith, omega arith)
joined_length c (t ∷ []) = (omega arith, omega arith)
joined_length c (t ∷ s ∷ ts) =
    let rest = joined_length c (s ∷ ts) in
    let text : length (join_with_byte c (t ∷ s ∷ ts)) ≡ length t + (length (join_with_byte c (s ∷ ts)) + 1) = length-append t (c ∷ join_with_byte c (s ∷ ts)) ∙ omega arith in
    let pieces = sum_by-cons (λ (piece : List ℕ). length piece + 1) t (s ∷ ts) in (omega arith, omega arith)

-- the pieces of a text are no longer than it
pub length-pieces_at : (c : ℕ) (text : List ℕ) → pieces_bytes (pieces_at c text) ≤ length text + 1
length-pieces_at c text =
    let all = ap length (join_with_byte-slice_split c text) in
    let bound = (joined_length c (pieces_at c text)).1 in omega arith

-- what a text says is no longer than it
said_length : (text said : List ℕ) → said_by text ≡ Some said → length said ≤ length text
unfolding said_by
said_length text said is = elim (is_utf8 (percent_decode text)) as (λ b. is_utf8 (percent_decode text) ≡ b → cond b (Some (trim (percent_decode text))) None ≡ Some said → length said ≤ length text) [
  | true ↦ λ utf8 e.
      let same : trim (percent_decode text) ≡ said = cc in
      let less = length-trim (percent_decode text) (IsUtf8-from_is_utf8 (percent_decode text) utf8) in
      let shorter = (length-percent_decode text).0 in
      let all = ap length same in omega arith
  | false ↦ λ _ e. absurd (cc)
] refl is

said_first : (t : List ℕ) (said : Option (List ℕ)) (ts said_ts : List (List ℕ)) → said_by t ≡ said → pieces_bytes said_ts ≤ pieces_bytes ts → pieces_bytes (cons_option said said_ts) ≤ length t + 1 + pieces_bytes ts
said_first t None ts said_ts is less = let same : pieces_bytes (cons_option None said_ts) ≡ pieces_bytes said_ts = refl in omega arith
said_first t (Some s) ts said_ts is less =
    let own = said_length t s is in
    let same : pieces_bytes (cons_option (Some s) said_ts) ≡ length s + 1 + pieces_bytes said_ts = sum_by-cons (λ (piece : List ℕ). length piece + 1) s said_ts in omega arith

all_said : (texts : List (List ℕ)) → pieces_bytes (filter_map said_by texts) ≤ pieces_bytes texts
all_said [] = omega arith
all_said (t ∷ ts) =
    let first = said_first t (said_by t) ts (filter_map said_by ts) refl (all_said ts) in
    rw (sum_by-cons (λ (piece : List ℕ). length piece + 1) t ts) first

length-metadata_of : (properties : List (List ℕ)) → length (metadata_of properties) ≤ pieces_bytes properties
unfolding metadata_of
length-metadata_of properties =
    let joined = (joined_length semicolon (filter_map said_by properties)).0 in
    let less = all_said properties in omega arith

named_within : (name value metadata : List ℕ) (key said : Option (List ℕ)) (e : PlainBaggageEntry) → said_by name ≡ key → said_by value ≡ said → named_entry key said metadata ≡ Some e → IsNamedWithin (length name + length value + length metadata) e
named_within name value metadata None said e has reads is = absurd (cc)
named_within name value metadata (Some key) None e has reads is = absurd (cc)
named_within name value metadata (Some []) (Some said) e has reads is = absurd (cc)
named_within name value metadata (Some (b ∷ key)) (Some said) e has reads is =
    let front = said_length name (b ∷ key) has in
    let back = said_length value said reads in
    let same : entry_of (b ∷ key) said metadata ≡ e = cc in
    subst (IsNamedWithin (length name + length value + length metadata)) same (record {
      named = λ none. absurd (cc);
      short = omega arith;
    })

paired_within : (pieces : List (List ℕ)) (metadata : List ℕ) (e : PlainBaggageEntry) → paired_entry pieces metadata ≡ Some e → IsNamedWithin (pieces_bytes pieces - 1 + length metadata) e
paired_within [] metadata e is = absurd (cc)
paired_within (name ∷ []) metadata e is = absurd (cc)
paired_within (name ∷ value ∷ more) metadata e is =
    let own = named_within name value metadata (said_by name) (said_by value) e refl refl is in
    let first = sum_by-cons (λ (piece : List ℕ). length piece + 1) name (value ∷ more) in
    let second = sum_by-cons (λ (piece : List ℕ). length piece + 1) value more in record {
      named = own.named;
      short = let short = own.short in omega arith;
    }

parts_within : (parts : List (List ℕ)) (e : PlainBaggageEntry) → entry_of_parts parts ≡ Some e → IsNamedWithin (pieces_bytes parts - 1) e
parts_within [] e is = absurd (cc)
parts_within (pair ∷ properties) e is =
    let own = paired_within (pieces_at equals_sign pair) (metadata_of properties) e is in
    let cut = length-pieces_at equals_sign pair in
    let metadata = length-metadata_of properties in
    let first = sum_by-cons (λ (piece : List ℕ). length piece + 1) pair properties in record {
      named = own.named;
      short = let short = own.short in omega arith;
    }

-- an entry that a member says has a name and is no longer than the member
pub member_within : (member : List ℕ) (e : PlainBaggageEntry) → entry_of_member member ≡ Some e → IsNamedWithin (length member) e
unfolding entry_of_member
member_within member e is =
    let own = parts_within (pieces_at semicolon member) e is in
    let cut = length-pieces_at semicolon member in record {
      named = own.named;
      short = let short = own.short in omega arith;
    }
