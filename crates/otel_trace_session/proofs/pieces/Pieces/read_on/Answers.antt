-- What the buffer had, and what reading brought.
use Rattle.std.proofs.Common.{◌≡◌, Ok, Some, None, ap, ◌∙◌, arith}
use Rattle.otel_trace_session.specs.Pieces.{PlainPieces}
use Rattle.otel_trace_session.proofs.ReadPieces.{always_err, gives_last, gives_lines, keeps_all, no_lines, unended_still}
use Rattle.otel_trace_session.proofs.pieces.Pieces.read_on.Goals as goal

pub invariant_of-self : goal.invariant_of-self
invariant_of-self g c =
    let i = c.self.inside in
    let view = c.self.view_is ∙ c.forget_lines.ensures in
    let zero = no_lines i.buffer.items i.complete i.filled c.self.invariant.0 c.self.invariant.1 (ap (λ (p : PlainPieces). p.lines) view) in
    let read = c.fill_to_line-filled.ensures in (
      omega (arith, zero),
      read.within.1,
      unended_still i.buffer.items c.fill_to_line-filled.new.buffer.items i.complete i.filled c.fill_to_line-filled.result.0 zero read.front read.within.0 c.self.invariant.2 (rw c.in_err-end.was at read.ended),
    )

pub returns-in_err-end-clause-err : goal.returns-in_err-end-clause-err
returns-in_err-end-clause-err g c =
    let i = c.self.inside in
    let view = c.self.view_is ∙ c.forget_lines.ensures in
    let zero = no_lines i.buffer.items i.complete i.filled c.self.invariant.0 c.self.invariant.1 (ap (λ (p : PlainPieces). p.lines) view) in
    let read = c.fill_to_line-filled.ensures in
    always_err c.from_residual.result
    (keeps_all _ _ i.buffer.items c.fill_to_line-filled.new.buffer.items c.args.self.now.rest i.complete i.filled c.fill_to_line-filled.result.0 zero (ap (λ (p : PlainPieces). p.rest) view)
    read.front read.within.0 read.read c.self.invariant.2 (rw c.in_err-end.was at read.ended))

pub returns-in-Some-clause-ok : goal.returns-in-Some-clause-ok
returns-in-Some-clause-ok g c =
    let i = c.self.inside in
    let view = c.self.view_is ∙ c.forget_lines.ensures in
    let zero = no_lines i.buffer.items i.complete i.filled c.self.invariant.0 c.self.invariant.1 (ap (λ (p : PlainPieces). p.lines) view) in
    let read = c.fill_to_line-filled.ensures in
    let found : c.fill_to_line-filled.result.1 ≡ Ok (Some c.in-Some.end) = c.in_ok-end.was ∙ ap Ok c.in-Some.is in
    gives_lines _ _ i.buffer.items c.fill_to_line-filled.new.buffer.items c.args.self.now.rest i.complete i.filled c.fill_to_line-filled.result.0 c.in-Some.end zero (ap (λ (p : PlainPieces). p.rest) view)
    read.front read.within.0 read.read (rw found at read.ended)

pub returns-in-None-clause-ok : goal.returns-in-None-clause-ok
returns-in-None-clause-ok g c =
    let i = c.self.inside in
    let view = c.self.view_is ∙ c.forget_lines.ensures in
    let zero = no_lines i.buffer.items i.complete i.filled c.self.invariant.0 c.self.invariant.1 (ap (λ (p : PlainPieces). p.lines) view) in
    let read = c.fill_to_line-filled.ensures in
    let found : c.fill_to_line-filled.result.1 ≡ Ok None = c.in_ok-end.was ∙ ap Ok c.in-None.is in
    let ended = rw found at read.ended in
    gives_last _ _ i.buffer.items c.fill_to_line-filled.new.buffer.items c.args.self.now.rest i.complete i.filled c.fill_to_line-filled.result.0 zero (ap (λ (p : PlainPieces). p.rest) view)
    read.front read.within.0 read.within.1 read.read ended.0
