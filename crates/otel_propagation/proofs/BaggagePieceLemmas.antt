-- Texts cut at a byte: by `split_once`, and joined again.
use Rattle.std.proofs.Common.{◌≡◌, ◌≢◌, ℕ, ◌<◌, Bool, true, false, ◌&&◌, is_none, List, [], ◌∷◌, ◌++◌, length, get_or, eqb, All, Option, Some, None, sym, ap, ◌∙◌, ⊎_elim, arith, append-nil, append_assoc, eq-eqb, ne_eqb, refl, subst}
use Rattle.std.specs.Borrow.{Bor}
use Rattle.std.proofs.lemmas.List.Elements.{All-nil, All-cons, All-head, All-tail, All-from_get_or}
use Rattle.std.proofs.lemmas.List.Splits.{slice_split_none, slice_split_at}
use Rattle.std.proofs.lemmas.Str.Pattern.{IsSplitOnceResult, split_parts}
use Rattle.opentelemetry.proofs.Joins.{join_push}
use Rattle.std.proofs.Math.Bool.{and-false, and-true}
use Rattle.std.proofs.lemmas.Bool.{cond-true, cond-false, cases_Bool}
use Rattle.std.proofs.lemmas.List.Elements.{filter_map-append}
use borrow.Author.Tests.{lt-ltb}
use Rattle.std.specs.List.{cons_option, filter_map, join_with_byte, onto_first}
use Rattle.otel_propagation.specs.BaggageHeader.{said_by, metadata_of, entry_of_member, entry_of_parts, paired_entry}
use Rattle.opentelemetry.specs.Members.{pieces_at, semicolon}
use Rattle.opentelemetry.specs.Members.{HasNo, equals_sign}
use Rattle.otel_propagation.specs.BaggagePieces.{next_property, unless_first}

all_others : (c : ℕ) (bs : List ℕ) → ((i : ℕ) → i < length bs → get_or bs i 0 ≢ c) → All (λ b. eqb b c ≡ false) bs
all_others c bs none = All-from_get_or (λ b. eqb b c ≡ false) bs 0 (λ i inside. ne_eqb (get_or bs i 0) c (none i inside))

-- a text that lacks the byte is one piece
pub uncut : (c : ℕ) (bs : List ℕ) → IsSplitOnceResult c bs None → c < 128 → pieces_at c bs ≡ bs ∷ []
uncut c bs h ascii = slice_split_none (λ b. eqb b c) bs (all_others c bs (split_parts c bs None h ascii))

-- a text that was cut once is a piece, and the pieces of what is after the byte
pub cut_once : (c : ℕ) (bs : List ℕ) (before after : Bor (List ℕ)) → IsSplitOnceResult c bs (Some (before, after)) → c < 128 → pieces_at c bs ≡ before.now ∷ pieces_at c after.now
cut_once c bs before after h ascii =
    let parts = split_parts c bs (Some (before, after)) h ascii in
    ap (pieces_at c) parts.0 ∙ slice_split_at (λ b. eqb b c) before.now c after.now (all_others c before.now parts.1) (eq-eqb c c refl)

-- a property that says a text is written after what parts it from the others
pub property_added : (first : Bool) (old between new : List ℕ) (said : Option (List ℕ)) (text : List ℕ) → said ≡ Some text
    → between ≡ old ++ unless_first first (semicolon ∷ []) → new ≡ between ++ text → new ≡ old ++ next_property first said
property_added first old between new said text is parted written =
    written ∙ ap (λ t. t ++ text) parted ∙ append_assoc old (unless_first first (semicolon ∷ [])) text ∙ ap (λ s. old ++ next_property first s) (sym is)

-- no byte of a text is this one
abbrev pub Lacks : ℕ → List ℕ → Type 0
Lacks c bs = All (λ b. eqb b c ≡ false) bs

pub lacks : (c : ℕ) (bs : List ℕ) → HasNo c bs → Lacks c bs
lacks c [] none = All-nil (λ b. eqb b c ≡ false)
lacks c (b ∷ bs) none = All-cons (λ b. eqb b c ≡ false) b bs (ne_eqb b c none.0) (lacks c bs none.1)

-- a byte that a text lacks is in none of its pieces
pub pieces_lack : (c d : ℕ) (text : List ℕ) → HasNo d text → All (HasNo d) (pieces_at c text)
pieces_lack c d [] none = All-cons (HasNo d) [] [] tt (All-nil (HasNo d))
pieces_lack c d (b ∷ bs) none =
    ⊎_elim
    (λ here. subst (All (HasNo d)) (sym (cond-true _ _ _ here)) (All-cons (HasNo d) [] (pieces_at c bs) tt (pieces_lack c d bs none.1)))
    (λ after. subst (All (HasNo d)) (sym (cond-false _ _ _ after)) (onto (pieces_at c bs) (pieces_lack c d bs none.1)))
    (cases_Bool (eqb b c))
  where
    onto : (pieces : List (List ℕ)) → All (HasNo d) pieces → All (HasNo d) (onto_first b pieces)
    onto [] rest = All-cons (HasNo d) (b ∷ []) [] (none.0, tt) rest
    onto (piece ∷ more) rest = All-cons (HasNo d) (b ∷ piece) more (none.0, All-head (HasNo d) piece more rest) (All-tail (HasNo d) piece more rest)

-- no text stands yet
abbrev pub none_yet : List (List ℕ) → Bool
none_yet [] = true
none_yet (t ∷ ts) = false

-- one more text, after what parts it from the others
pub join_last : (c : ℕ) (ts : List (List ℕ)) (t : List ℕ) → join_with_byte c (ts ++ t ∷ []) ≡ join_with_byte c ts ++ (unless_first (none_yet ts) (c ∷ []) ++ t)
join_last c [] t = refl
join_last c (s ∷ ts) t =
    join_push c (s ∷ ts) t ∙ ap (λ l. join_with_byte c (s ∷ ts) ++ l) (cond-true _ _ _ (lt-ltb 0 (length (s ∷ ts)) (omega arith)))

-- metadata of some properties
pub record Gathers (read : List (List ℕ)) (is_first : Bool) (metadata : List ℕ) : Type 0 where
  pub text : metadata ≡ metadata_of read
  pub first : is_first ≡ none_yet (filter_map said_by read)

none_yet_push : (ts : List (List ℕ)) (t : List ℕ) → none_yet (ts ++ t ∷ []) ≡ false
none_yet_push [] t = refl
none_yet_push (s ∷ ts) t = refl

one_more : (read : List (List ℕ)) (property : List ℕ) (said : Option (List ℕ)) → said_by property ≡ said → filter_map said_by (read ++ property ∷ []) ≡ filter_map said_by read ++ cons_option said []
one_more read property said is = filter_map-append said_by read (property ∷ []) ∙ ap (λ s. filter_map said_by read ++ cons_option s []) is

gathers_cases : (read : List (List ℕ)) (property : List ℕ) (is_first : Bool) (said : Option (List ℕ)) (old new : List ℕ) → said_by property ≡ said → Gathers read is_first old
    → new ≡ old ++ next_property is_first said → Gathers (read ++ property ∷ []) (is_first && is_none said) new
unfolding metadata_of
gathers_cases read property is_first None old new is so_far added =
    let same : filter_map said_by (read ++ property ∷ []) ≡ filter_map said_by read = one_more read property None is ∙ append-nil (filter_map said_by read) in record {
      text = added ∙ append-nil old ∙ so_far.text ∙ ap (join_with_byte semicolon) (sym same);
      first = and-true is_first ∙ so_far.first ∙ ap none_yet (sym same);
    }
gathers_cases read property is_first (Some text) old new is so_far added =
    let more = one_more read property (Some text) is in
    let texts = filter_map said_by read in record {
      text = added ∙ (λ i. so_far.text i ++ (unless_first (so_far.first i) (semicolon ∷ []) ++ text)) ∙ sym (join_last semicolon texts text) ∙ ap (join_with_byte semicolon) (sym more);
      first = and-false is_first ∙ sym (none_yet_push texts text) ∙ ap none_yet (sym more);
    }

-- the same of one property more
pub gathers_more : (read : List (List ℕ)) (property : List ℕ) (is_first still : Bool) (old new : List ℕ) → Gathers read is_first old
    → new ≡ old ++ next_property is_first (said_by property) → still ≡ (is_first && is_none (said_by property)) → Gathers (read ++ property ∷ []) still new
gathers_more read property is_first still old new so_far added is =
    subst (λ (b : Bool). Gathers (read ++ property ∷ []) b new) (sym is) (gathers_cases read property is_first (said_by property) old new refl so_far added)

-- before any
pub gathers_none : (metadata : List ℕ) → metadata ≡ [] → Gathers [] true metadata
unfolding metadata_of
gathers_none metadata none = record { text = none; first = refl }

-- what a member says is what its pair says, with the metadata of its properties
pub member_says : (member pair : List ℕ) (properties : List (List ℕ)) → pieces_at semicolon member ≡ pair ∷ properties → entry_of_member member ≡ paired_entry (pieces_at equals_sign pair) (metadata_of properties)
unfolding entry_of_member
member_says member pair properties cut = ap entry_of_parts cut
