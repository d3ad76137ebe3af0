use Rattle.std.proofs.Common.{List, [], ◌++◌, append-nil, append_assoc, ap, option_map, refl, string_bytes, sym, ◌∙◌}
use Rattle.std.proofs.lemmas.Result.{on_err_weaker, on_ok_weaker}
use Rattle.opentelemetry.proofs.Clauses.{always_on_err}
use Rattle.otel_propagation.specs.BaggageHeader.{baggage_field}
use Rattle.otel_propagation.specs.Traceparent.{traceparent_field, tracestate_field}
use Rattle.otel_http.specs.ContextFields.{TextField}
use Rattle.otel_http.specs.ContextTexts.{field_if, fields_in, texts_of}
use Rattle.otel_http.specs.Injection.{headers_of}
use Rattle.otel_http.proofs.ContextFieldsLemmas.{none_set, refused_at, then_set}
use Rattle.otel_http.proofs.context_texts.ContextTexts.set_in.Goals as goal

pub returns-in_err-set_text-clause-err : goal.returns-in_err-set_text-clause-err
returns-in_err-set_text-clause-err c =
    let old = headers_of c.args.headers.now in
    let state : List TextField = field_if tracestate_field (option_map (λ t. string_bytes t) c.args.self.tracestate) in
    let baggage : List TextField = field_if baggage_field (option_map (λ t. string_bytes t) c.args.self.baggage) in
    always_on_err c.from_residual.result
    (refused_at (λ t. string_bytes t) c.args.self.traceparent traceparent_field old old (headers_of c.set_text.new.headers)
    [] (state ++ baggage) (fields_in (texts_of c.args.self)) (none_set old) c.in_err-set_text.ensures.err refl)

pub returns-clause-ok : goal.returns-clause-ok
returns-clause-ok c =
    let old = headers_of c.args.headers.now in
    let first = headers_of c.set_text.new.headers in
    let second = headers_of c.set_text-2.new.headers in
    let third = headers_of c.set_text-3.new.headers in
    let parent : List TextField = field_if traceparent_field (option_map (λ t. string_bytes t) c.args.self.traceparent) in
    let state : List TextField = field_if tracestate_field (option_map (λ t. string_bytes t) c.args.self.tracestate) in
    let baggage : List TextField = field_if baggage_field (option_map (λ t. string_bytes t) c.args.self.baggage) in
    on_ok_weaker c.set_text-3.result
    (λ sets. then_set old first third parent (state ++ baggage) c.in_ok-set_text.ensures.ok
    (then_set first second third state baggage c.in_ok-set_text-2.ensures.ok sets))
    c.set_text-3.ensures.ok

pub returns-clause-err : goal.returns-clause-err
returns-clause-err c =
    let old = headers_of c.args.headers.now in
    let first = headers_of c.set_text.new.headers in
    let second = headers_of c.set_text-2.new.headers in
    let third = headers_of c.set_text-3.new.headers in
    let parent : List TextField = field_if traceparent_field (option_map (λ t. string_bytes t) c.args.self.traceparent) in
    let state : List TextField = field_if tracestate_field (option_map (λ t. string_bytes t) c.args.self.tracestate) in
    let baggage : List TextField = field_if baggage_field (option_map (λ t. string_bytes t) c.args.self.baggage) in
    on_err_weaker c.set_text-3.result
    (λ refused. refused_at (λ t. string_bytes t) c.args.self.baggage baggage_field old second third
    (parent ++ state) [] (fields_in (texts_of c.args.self))
    (then_set old first second parent state c.in_ok-set_text.ensures.ok c.in_ok-set_text-2.ensures.ok) refused
    (ap (λ (fields : List TextField). parent ++ (state ++ fields)) (sym (append-nil baggage)) ∙ sym (append_assoc parent state (baggage ++ []))))
    c.set_text-3.ensures.err
