-- An input that is read in pieces: what was given of it, and what stands after.
use Rattle.std.proofs.Common.{◌≡◌, ℕ, ◌+◌, ◌-◌, true, false, Bool, List, [], ◌∷◌, ◌++◌, length, get_or, Option, None, Some, inl, inr, refl, sym, ap, subst, ◌∙◌, arith, append_assoc, append-nil, length-append}
use Rattle.std.specs.Prelude.{◌⊎◌}
use Rattle.std.proofs.KnownBytes.{Consumes-trans}
use Rattle.std.proofs.lemmas.List.{get_or-append-add}
use Rattle.std.specs.Io.{IsEmptyOrEndsWith}
use Rattle.std.specs.Io.KnownBytes.{Consumes, IsAtEnd}
use Rattle.otel_trace_session.specs.Pieces.{GivesLines, PlainPieces}
use Rattle.otel_trace_run.specs.Streams.{AreAll}

-- no byte ends as any line does
pub nothing_ends : IsEmptyOrEndsWith [] 10
nothing_ends = λ some. absurd (omega (arith, some))

-- two texts that end as lines do
pub ends_joined : (first second : List ℕ) → IsEmptyOrEndsWith first 10 → IsEmptyOrEndsWith second 10 → IsEmptyOrEndsWith (first ++ second) 10
ends_joined first [] h k = subst (λ (bs : List ℕ). IsEmptyOrEndsWith bs 10) (sym (append-nil first)) h
ends_joined first (b ∷ second) h k = λ some.
    let last : length (first ++ b ∷ second) - 1 ≡ length first + (length (b ∷ second) - 1) = omega (arith, length-append first (b ∷ second)) in
    ap (λ i. get_or (first ++ b ∷ second) i 0) last ∙ get_or-append-add first (b ∷ second) (length (b ∷ second) - 1) 0 ∙ k (omega arith)

-- what is left where so much was read
pub what_is_left : (before after : Option (List ℕ)) (read : List ℕ) → Consumes before after read → (left : List ℕ) × AreAll before (read ++ left) × (IsAtEnd after → left ≡ [])
what_is_left None after read h = ([], tt, λ at_end. refl)
what_is_left (Some all) None read h = absurd h
what_is_left (Some all) (Some left) read h = (left, sym h, λ at_end. at_end)

-- what was read and given, and what a piece more brought
pub read_on_from : (before now after : Option (List ℕ)) (given rest read lines next : List ℕ) → Consumes before now (given ++ rest) → Consumes now after read → rest ++ read ≡ lines ++ next
    → Consumes before after ((given ++ lines) ++ next)
read_on_from before now after given rest read lines next first second joined =
    subst (Consumes before after) (append_assoc given rest read ∙ ap (λ bs. given ++ bs) joined ∙ sym (append_assoc given lines next))
    (Consumes-trans before now after (given ++ rest) read first second)

-- a text in front of all that there is: it ends as a line does, or nothing stands after it
pub record IsCut (input : Option (List ℕ)) (text : List ℕ) : Type 0 where
  pub after : List ℕ
  pub all : AreAll input (text ++ after)
  pub ends : (after ≡ []) ⊎ IsEmptyOrEndsWith text 10

-- what was given is such a text, whatever was read after it
pub cut_given : (before after : Option (List ℕ)) (given rest : List ℕ) → Consumes before after (given ++ rest) → IsEmptyOrEndsWith given 10 → IsCut before given
cut_given before after given rest h ends =
    let left = what_is_left before after (given ++ rest) h in record {
      after = rest ++ left.0;
      all = subst (AreAll before) (append_assoc given rest left.0) left.1;
      ends = inr ends;
    }

-- and so it is with a piece more
pub cut_piece : (before now after : Option (List ℕ)) (given rest : List ℕ) (goes_on : Bool) (piece : PlainPieces) → Consumes before now (given ++ rest) → IsEmptyOrEndsWith given 10
    → GivesLines now after rest goes_on piece → IsCut before (given ++ piece.lines)
cut_piece before now after given rest true piece h ends g =
    cut_given before after (given ++ piece.lines) piece.rest (read_on_from before now after given rest g.read piece.lines piece.rest h g.consumed g.joined) (ends_joined given piece.lines ends (g.some refl).1)
cut_piece before now after given rest false piece h ends g =
    let left = what_is_left before after ((given ++ piece.lines) ++ piece.rest) (read_on_from before now after given rest g.read piece.lines piece.rest h g.consumed g.joined) in
    let none : piece.rest ≡ [] = (g.last refl).0 in
    record {
      after = left.0;
      all = subst (λ (bs : List ℕ). AreAll before (bs ++ left.0)) (ap (λ r. (given ++ piece.lines) ++ r) none ∙ append-nil (given ++ piece.lines)) left.1;
      ends = inl (left.2 (g.last refl).1);
    }

-- at the end of the input it is all that there is
pub cut_last : (before now after : Option (List ℕ)) (given rest : List ℕ) (goes_on : Bool) (piece : PlainPieces) → goes_on ≡ false → Consumes before now (given ++ rest)
    → GivesLines now after rest goes_on piece → AreAll before (given ++ piece.lines) × IsAtEnd after
cut_last before now after given rest true piece is h g = let never : ⊥ = cc in absurd never
cut_last before now after given rest false piece is h g =
    let left = what_is_left before after ((given ++ piece.lines) ++ piece.rest) (read_on_from before now after given rest g.read piece.lines piece.rest h g.consumed g.joined) in
    let none : piece.rest ≡ [] = (g.last refl).0 in
    let nothing : left.0 ≡ [] = left.2 (g.last refl).1 in (
      subst (AreAll before) (ap (λ r. ((given ++ piece.lines) ++ r) ++ left.0) none ∙ ap (λ r. ((given ++ piece.lines) ++ []) ++ r) nothing ∙ append-nil ((given ++ piece.lines) ++ []) ∙ append-nil (given ++ piece.lines)) left.1,
      (g.last refl).1,
    )

-- what holds of a text, and of any that goes on after its last line, holds of all that there is
pub holds_of_all : (P : List ℕ → Type 0) (input : Option (List ℕ)) (text : List ℕ) (cut : IsCut input text) → ((later : List ℕ) → IsEmptyOrEndsWith text 10 → P text → P (text ++ later)) → P text → P (text ++ cut.after)
holds_of_all P input text cut longer h = elim cut.ends [
  | inl none ↦ subst P (sym (ap (λ r. text ++ r) none ∙ append-nil text)) h
  | inr ends ↦ longer cut.after ends h
]
