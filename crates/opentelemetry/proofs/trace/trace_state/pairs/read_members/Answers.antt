use Rattle.std.proofs.Common.{◌≡◌, ◌≢◌, ℕ, List, ◌∷◌, ◌++◌, [], None, map, ap, sym, subst, ◌∙◌, append_assoc, rules}
use Rattle.std.proofs.lemmas.Result.{err_from_is_err_and}
use Rattle.std.specs.List.{filter}
use Rattle.opentelemetry.specs.PlainValues.{plain_pair}
use Rattle.opentelemetry.specs.Tracestate.{first_fault, is_some_text, pair_of, trimmed}
use Rattle.opentelemetry.proofs.PiecesLeft.{cut_pieces, members_left, piece_fault}
use Rattle.opentelemetry.proofs.Pieces.{fault_of_cut, middle_empty, none_of_two, pairs_left, some_piece}
use Rattle.opentelemetry.proofs.trace.trace_state.pairs.read_members.Goals as goal

pub pieces-preserved : goal.pieces-preserved
pieces-preserved c =
    let left : List ℕ = c.in-Some.left.now in
    let piece : List ℕ = c.cut_at_comma.result.0.now in
    let after = c.cut_at_comma.result.1 in
    let old = map plain_pair c.pieces.pairs.items in
    let own = filter is_some_text (trimmed piece ∷ []) in
    let others = members_left after in
    let cut = cut_pieces left piece after c.cut_at_comma.ensures.pieces in
    let none : (piece_fault (trimmed piece) ≡ None) × (first_fault others ≡ None) = none_of_two (piece_fault (trimmed piece)) (first_fault others)
    (sym (fault_of_cut left piece after cut) ∙ ap (λ r. first_fault (members_left r)) (sym c.in-Some.is) ∙ c.pieces.invariant.sound) in
    record {
      is_text = search rules;
      sound = none.1;
      read = ap (λ l. l ++ map pair_of others) (c.in_ok-push_piece.ensures.ok ∙ ap (λ t. old ++ map pair_of (filter is_some_text (t ∷ []))) c.trim_blanks.ensures)
          ∙ append_assoc old (map pair_of own) (map pair_of others) ∙ ap (λ l. old ++ l) (sym (pairs_left c.pieces.rest c.in-Some.left piece after c.in-Some.is cut)) ∙ c.pieces.invariant.read;
    }

pub returns-in_err-push_piece-clause-err : goal.returns-in_err-push_piece-clause-err
returns-in_err-push_piece-clause-err c =
    let left : List ℕ = c.in-Some.left.now in
    let piece : List ℕ = c.cut_at_comma.result.0.now in
    let after = c.cut_at_comma.result.1 in
    let old = map plain_pair c.pieces.pairs.items in
    let own = filter is_some_text (trimmed piece ∷ []) in
    let cut = cut_pieces left piece after c.cut_at_comma.ensures.pieces in
    let some : map pair_of own ≢ [] = subst (λ t. map pair_of (filter is_some_text (t ∷ [])) ≢ []) c.trim_blanks.ensures (some_piece c.trim_blanks.result.now c.in_err-push_piece.ensures.err) in
    let p = err_from_is_err_and c.from_residual.result c.from_residual.ensures.1 in
    rw p.1 (λ none. some (middle_empty old (map pair_of own) (map pair_of (members_left after))
    (ap (λ l. old ++ l) (sym (pairs_left c.pieces.rest c.in-Some.left piece after c.in-Some.is cut)) ∙ c.pieces.invariant.read ∙ ap (map pair_of) none)))
