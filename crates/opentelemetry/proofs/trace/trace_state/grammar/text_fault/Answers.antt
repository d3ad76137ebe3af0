use Rattle.std.proofs.Common.{◌≡◌, ℕ, List, Some, ap, sym, ◌∙◌}
use Rattle.opentelemetry.specs.Tracestate.{first_fault, first_of_two, trimmed}
use Rattle.opentelemetry.proofs.Pieces.{fault_of_cut}
use Rattle.opentelemetry.proofs.PiecesLeft.{cut_pieces, members_left, piece_fault}
use Rattle.opentelemetry.proofs.trace.trace_state.grammar.text_fault.Goals as goal

pub returns-in-Some-piece_fault : goal.returns-in-Some-piece_fault
returns-in-Some-piece_fault c =
    let left : List ℕ = c.in-Some.left.now in
    let piece : List ℕ = c.cut_at_comma.result.0.now in
    let after = c.cut_at_comma.result.1 in
    let here : Some c.in-Some-piece_fault.fault ≡ piece_fault (trimmed piece) = sym c.in-Some-piece_fault.is ∙ c.piece_fault.ensures ∙ ap piece_fault c.trim_blanks.ensures in
    ap (λ f. first_of_two f (first_fault (members_left after))) here
    ∙ sym (fault_of_cut left piece after (cut_pieces left piece after c.cut_at_comma.ensures.pieces))
    ∙ sym (ap (λ r. first_fault (members_left r)) c.in-Some.is) ∙ c.pieces.invariant.same
