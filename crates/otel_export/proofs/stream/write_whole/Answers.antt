-- One write more, or none.
use Rattle.std.proofs.Common.{◌-◌, ◌≤◌, length, take, drop, arith, length-drop, length-take}
use Rattle.std.proofs.KnownBytes.{Appends-kept}
use Rattle.opentelemetry.proofs.Clauses.{always_on_err}
use Rattle.otel_export.proofs.StreamLemmas.{wrote_beginning, write_more}
use Rattle.otel_export.proofs.stream.write_whole.Goals as goal

pub returns-in_err-written-clause-err : goal.returns-in_err-written-clause-err
returns-in_err-written-clause-err g c =
    always_on_err c.from_residual.result
    (wrote_beginning _ _ c.args.bytes.now c.loop.written
    (Appends-kept _ _ _ _ c.loop.invariant.appended c.in_err-written.ensures.err))

pub loop-preserved : goal.loop-preserved
loop-preserved g c =
    let bytes = c.args.bytes.now in
    let written = c.loop.written in
    let left = length bytes - written in
    let h = c.in_ok-written.ensures.ok in
    let most : c.in_ok-written.field-0 ≤ length (take left (drop written bytes)) = h.0 in
    record {
      within = omega (arith, most, length-take left (drop written bytes), length-drop written bytes);
      appended = write_more _ _ _ bytes written c.in_ok-written.field-0 c.loop.invariant.appended h.1;
    }

pub returns-clause-err : goal.returns-clause-err
returns-clause-err g c = wrote_beginning _ _ c.args.bytes.now c.loop.written c.loop.invariant.appended
