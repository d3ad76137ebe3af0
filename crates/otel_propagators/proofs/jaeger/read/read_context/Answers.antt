use Rattle.std.proofs.Common.{sym, subst, refl, arith}
use Rattle.otel_propagators.specs.UberTraceId.{SaysContext, SaysField}
use Rattle.otel_propagators.proofs.JaegerLemmas.{above_zero, flags_field, number_small, second_field, third_field}
use Rattle.otel_propagators.proofs.jaeger.read.read_context.Goals as goal

pub returns-in_err-trace_id : goal.returns-in_err-trace_id
returns-in_err-trace_id c = rw c.from_residual.ensures (λ context is. c.in_err-trace_id.ensures context.trace_id is.after_trace is.trace_id)

pub returns-in_err-span_id : goal.returns-in_err-span_id
returns-in_err-span_id c = rw c.from_residual-in_err-span_id.ensures (λ context is.
    c.in_err-span_id.ensures context.span_id is.after_span
    (second_field c.args.escaped c.args.text.now c.in_ok-trace_id.after_trace.now c.in_ok-trace_id.trace_id context is c.in_ok-trace_id.ensures).1)

pub returns-then-trace_id-eq0 : goal.returns-then-trace_id-eq0
returns-then-trace_id-eq0 c = λ context is.
    let same = (second_field c.args.escaped c.args.text.now c.in_ok-trace_id.after_trace.now c.in_ok-trace_id.trace_id context is c.in_ok-trace_id.ensures).0 in
    absurd (omega (arith, is.not_zero.0, same, c.if-trace_id-eq0.true))

pub returns-then-span_id-eq0 : goal.returns-then-span_id-eq0
returns-then-span_id-eq0 c = λ context is.
    let same = (third_field c.args.escaped c.args.text.now c.in_ok-trace_id.after_trace.now c.in_ok-span_id.after_span.now c.in_ok-trace_id.trace_id c.in_ok-span_id.span_id context is c.in_ok-trace_id.ensures
    c.in_ok-span_id.ensures).0 in
    absurd (omega (arith, is.not_zero.1, same, c.if-span_id-eq0.true))

pub returns-in_err-_parent : goal.returns-in_err-_parent
returns-in_err-_parent c = rw c.from_residual-in_err-_parent.ensures (λ context is.
    c.in_err-_parent.ensures is.parent is.flags_text
    (third_field c.args.escaped c.args.text.now c.in_ok-trace_id.after_trace.now c.in_ok-span_id.after_span.now c.in_ok-trace_id.trace_id c.in_ok-span_id.span_id context is c.in_ok-trace_id.ensures
    c.in_ok-span_id.ensures).1)

pub returns-in_err-flags : goal.returns-in_err-flags
returns-in_err-flags c = rw c.from_residual-in_err-flags.ensures (λ context is.
    c.in_err-flags.ensures is.flags
    (flags_field c.args.escaped c.args.text.now c.in_ok-trace_id.after_trace.now c.in_ok-span_id.after_span.now c.in_ok-_parent.flags_text.now c.in_ok-trace_id.trace_id c.in_ok-span_id.span_id
    c.in_ok-_parent._parent context is c.in_ok-trace_id.ensures c.in_ok-span_id.ensures c.in_ok-_parent.ensures))

pub remote_context-requires : goal.remote_context-requires
remote_context-requires c =
    let says : SaysField c.args.escaped 16 c.in_ok-trace_id.after_trace.now c.in_ok-span_id.span_id c.in_ok-span_id.after_span.now = c.in_ok-span_id.ensures in
    number_small 16 says.field c.in_ok-span_id.span_id says.says

pub returns : goal.returns
returns c = subst (SaysContext c.args.escaped c.args.text.now) (sym c.remote_context.ensures) (record {
  after_trace = c.in_ok-trace_id.after_trace.now;
  after_span = c.in_ok-span_id.after_span.now;
  parent = c.in_ok-_parent._parent;
  flags_text = c.in_ok-_parent.flags_text.now;
  flags = c.in_ok-flags.flags;
  trace_id = c.in_ok-trace_id.ensures;
  span_id = c.in_ok-span_id.ensures;
  parent_id = c.in_ok-_parent.ensures;
  says_flags = c.in_ok-flags.ensures;
  not_zero = (above_zero c.in_ok-trace_id.trace_id c.if-trace_id-eq0.false, above_zero c.in_ok-span_id.span_id c.if-span_id-eq0.false);
  trace_flags = refl;
  remote = refl;
  stateless = refl;
})
