-- What is read from a header is no longer than the header, whichever way its members are read: no limit of a baggage
-- forbids it.
use Rattle.std.proofs.Common.{◌≡◌, ℕ, ◌+◌, ◌<◌, ◌≤◌, List, [], ◌∷◌, ◌++◌, length, take, get_or, is_some, Option, Some, None, refl, sym, ap, ◌∙◌, inl, inr, arith, append-nil}
use Rattle.std.specs.List.{cons_option, filter_map}
use Rattle.std.specs.Option.{option_map_or}
use Rattle.std.proofs.lemmas.Bool.{cond_both}
use Rattle.std.proofs.lemmas.List.{length_push, length-take, length-take-le}
use Rattle.std.proofs.lemmas.List.Elements.{filter_map-append}
use Rattle.std.proofs.lemmas.List.Sums.{sum_by_push, sum_by-take-le, sum_by_more_le}
use Rattle.opentelemetry.specs.Baggage.{PlainBaggage, PlainBaggageEntry, entry_at, entry_bytes, baggage_bytes, with_entry, BreaksLimit}
use Rattle.opentelemetry.specs.Members.{comma, pieces_at}
use Rattle.opentelemetry.proofs.BaggageLemmas.{baggage_bytes-with_entry, length-with_entry}
use Rattle.otel_propagation.specs.BaggageHeader.{one_a_name}
use Rattle.otel_propagation.specs.BaggagePieces.{IsNamedWithin}
use Rattle.otel_propagation.proofs.BaggageBounds.{length-pieces_at, pieces_bytes}
use Rattle.otel_propagation.proofs.BaggageNames.{one_a_name_push}

-- a way to read members
abbrev pub Says : Type 0
Says = List ℕ → Option PlainBaggageEntry

-- an entry that is put adds its bytes at most, and one entry at most
put_bytes : (es : PlainBaggage) (e : PlainBaggageEntry) → baggage_bytes (with_entry es e) ≤ baggage_bytes es + entry_bytes e
put_bytes es e = let all = baggage_bytes-with_entry es e in omega arith

put_length : (es : PlainBaggage) (e : PlainBaggageEntry) → length (with_entry es e) ≤ length es + 1
put_length es e =
    rw (length-with_entry es e) (cond_both (is_some (entry_at es e.key)) 0 1 (λ n. length es + n ≤ length es + 1) (λ _. omega arith) (λ _. omega arith))

-- the bytes of a member are enough for its entry
pub put_within : (es : PlainBaggage) (bound : ℕ) (e : PlainBaggageEntry) → IsNamedWithin bound e → baggage_bytes (with_entry es e) ≤ baggage_bytes es + bound
put_within es bound e is = let own = is.short in let put = put_bytes es e in omega arith

-- the limits allow an entry where there is room for its member
pub no_limit : (es : PlainBaggage) (bound : ℕ) (e : PlainBaggageEntry) → IsNamedWithin bound e → length es < 64 → baggage_bytes es + bound ≤ 8192 → ¬ (BreaksLimit es e)
no_limit es bound e is few small (inl none) = is.named none
no_limit es bound e is few small (inr (inl many)) = let all = put_length es e in absurd (omega arith)
no_limit es bound e is few small (inr (inr large)) = let all = put_within es bound e is in absurd (omega arith)

-- what stands of a header's members, and that it is no longer than they are
pub record IsReadFrom (says : Says) (members : List (List ℕ)) (es : PlainBaggage) : Type 0 where
  pub entries : es ≡ one_a_name (filter_map says members)
  pub bytes : baggage_bytes es ≤ pieces_bytes members
  pub count : length es ≤ length members

pub read_none : (says : Says) (es : PlainBaggage) → es ≡ [] → IsReadFrom says [] es
read_none says es none = record {
  entries = none;
  bytes = rw none (omega arith);
  count = rw none (omega arith);
}

one_more : (says : Says) (members : List (List ℕ)) (member : List ℕ) (said : Option PlainBaggageEntry) → says member ≡ said → filter_map says (members ++ member ∷ []) ≡ filter_map says members ++ cons_option said []
one_more says members member said is = filter_map-append says members (member ∷ []) ∙ ap (λ s. filter_map says members ++ cons_option s []) is

put_entries : (says : Says) (members : List (List ℕ)) (member : List ℕ) (said : Option PlainBaggageEntry) (es : PlainBaggage) → says member ≡ said → es ≡ one_a_name (filter_map says members)
    → option_map_or (λ e. with_entry es e) said es ≡ one_a_name (filter_map says (members ++ member ∷ []))
put_entries says members member None es is so_far = so_far ∙ ap one_a_name (sym (one_more says members member None is ∙ append-nil (filter_map says members)))
put_entries says members member (Some e) es is so_far =
    ap (λ l. with_entry l e) so_far ∙ sym (one_a_name_push (filter_map says members) e) ∙ ap one_a_name (sym (one_more says members member (Some e) is))

put_count : (said : Option PlainBaggageEntry) (es : PlainBaggage) → length (option_map_or (λ e. with_entry es e) said es) ≤ length es + 1
put_count None es = omega arith
put_count (Some e) es = put_length es e

pub read_more : (says : Says) (members : List (List ℕ)) (member : List ℕ) (es next : PlainBaggage) → IsReadFrom says members es → next ≡ option_map_or (λ e. with_entry es e) (says member) es
    → baggage_bytes next ≤ baggage_bytes es + length member → IsReadFrom says (members ++ member ∷ []) next
read_more says members member es next so_far put short = record {
  entries = put ∙ put_entries says members member (says member) es refl so_far.entries;
  bytes = let more = sum_by_push (λ (piece : List ℕ). length piece + 1) members member in let bytes = so_far.bytes in omega arith;
  count =
      let more = length_push members member in
      let added = put_count (says member) es in
      let same = ap length put in
      let count = so_far.count in omega arith;
}

-- there is room for each of the first 64 members of a short header
pub record HasRoomForMember (es : PlainBaggage) (member : List ℕ) : Type 0 where
  pub few : length es < 64
  pub small : baggage_bytes es + length member ≤ 8192

pub room : (says : Says) (header : List ℕ) (n k : ℕ) (members : List (List ℕ)) (member : List ℕ) (es : PlainBaggage) → length header ≤ 8192 → n ≤ 64 → IsReadFrom says members es
    → members ≡ take k (take n (pieces_at comma header)) → k < length (take n (pieces_at comma header)) → member ≡ get_or (take n (pieces_at comma header)) k member → HasRoomForMember es member
room says header n k members member es short within so_far are inside is =
    let pieces = pieces_at comma header in
    let all = length-pieces_at comma header in
    let some = sum_by-take-le (λ (piece : List ℕ). length piece + 1) pieces n in
    let next = sum_by_more_le (λ (piece : List ℕ). length piece + 1) (take n pieces) k member inside in
    let own : length (get_or (take n pieces) k member) ≡ length member = ap length (sym is) in
    let read : pieces_bytes (take k (take n pieces)) ≡ pieces_bytes members = ap pieces_bytes (sym are) in
    let count = length-take n pieces in
    let read_count : length members ≡ k = ap length are ∙ length-take-le k (take n pieces) (omega arith) in
    let bytes = so_far.bytes in
    let entries = so_far.count in record {
      few = omega arith;
      small = omega arith;
    }
