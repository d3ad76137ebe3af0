-- One read more.
use Rattle.std.proofs.Common.{arith}
use Rattle.otel_trace_session.proofs.ReadPieces.{ends_in_more, front_kept, none_more, read_more, slice_read}
use Rattle.otel_trace_session.proofs.pieces.fill_to_line.Goals as goal

pub returns-in-Ok-eq0-clause-front : goal.returns-in-Ok-eq0-clause-front
returns-in-Ok-eq0-clause-front g c = front_kept c.args.buffer.now.items c.loop.buffer.items c.read_after.new.buffer.items c.args.filled c.loop.now c.loop.invariant.grown c.loop.invariant.front c.read_after.ensures.front

pub returns-in-Err-clause-front : goal.returns-in-Err-clause-front
returns-in-Err-clause-front g c = front_kept c.args.buffer.now.items c.loop.buffer.items c.read_after.new.buffer.items c.args.filled c.loop.now c.loop.invariant.grown c.loop.invariant.front c.read_after.ensures.front

pub returns-in-Some-clause-front : goal.returns-in-Some-clause-front
returns-in-Some-clause-front g c = front_kept c.args.buffer.now.items c.loop.buffer.items c.read_after.new.buffer.items c.args.filled c.loop.now c.loop.invariant.grown c.loop.invariant.front c.read_after.ensures.front

pub returns-in-Some-clause-read : goal.returns-in-Some-clause-read
returns-in-Some-clause-read g c =
    read_more _ _ _ c.loop.buffer.items c.read_after.new.buffer.items c.args.filled c.loop.now c.in-Ok.count c.loop.invariant.grown c.in-Ok.ensures.within c.read_after.ensures.front c.loop.invariant.read c.in-Ok.ensures.ok.consumed

pub returns-in-Some-clause-ended : goal.returns-in-Some-clause-ended
returns-in-Some-clause-ended g c =
    let h = c.in-Some.ensures in
    ends_in_more c.read_after.new.buffer.items _ c.args.filled c.loop.now c.in-Ok.count c.in-Some.end c.loop.invariant.grown c.in-Ok.ensures.ok.fits
    (slice_read c.read_after.new.buffer.items c.deref.result.now c.loop.now c.in-Ok.count c.deref.ensures.value) h.0 h.1 h.2 h.3

pub loop-preserved : goal.loop-preserved
loop-preserved g c = record {
  grown = omega arith;
  within = c.in-Ok.ensures.ok.fits;
  front = front_kept c.args.buffer.now.items c.loop.buffer.items c.read_after.new.buffer.items c.args.filled c.loop.now c.loop.invariant.grown c.loop.invariant.front c.read_after.ensures.front;
  read = read_more _ _ _ c.loop.buffer.items c.read_after.new.buffer.items c.args.filled c.loop.now c.in-Ok.count c.loop.invariant.grown c.in-Ok.ensures.within c.read_after.ensures.front c.loop.invariant.read c.in-Ok.ensures.ok.consumed;
  none = none_more c.loop.buffer.items c.read_after.new.buffer.items _ c.args.filled c.loop.now c.in-Ok.count c.loop.invariant.grown c.in-Ok.ensures.within c.read_after.ensures.front
      (slice_read c.read_after.new.buffer.items c.deref.result.now c.loop.now c.in-Ok.count c.deref.ensures.value) c.loop.invariant.none c.in_default.ensures;
}
