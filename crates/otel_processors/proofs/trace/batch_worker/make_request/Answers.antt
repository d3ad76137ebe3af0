use Rattle.otel_processors.proofs.RequestCallLemmas.{made_answered, made_closed, made_refused}
use Rattle.otel_processors.proofs.trace.batch_worker.make_request.Goals as goal

pub returns-in-Requested : goal.returns-in-Requested
returns-in-Requested g c =
    let steps = rw (c.in-Requested.is, ← c.post_request.ensures.2) at c.post_request.ensures.1 in
    made_answered g.E.SpanExporter c.args.asked c.args.machine.now c.post_request.new.machine c.answer_request.result
    c.answer_request.new.machine c.is_sound.ensures c.requires steps c.answer_request.ensures

pub returns-in-Closed : goal.returns-in-Closed
returns-in-Closed g c =
    let steps = rw (c.in-Closed.is, ← c.post_request.ensures.2) at c.post_request.ensures.1 in
    made_closed g.E.SpanExporter c.args.asked c.args.machine.now c.post_request.new.machine c.requires steps

pub returns-in_default : goal.returns-in_default
returns-in_default g c =
    let steps = rw (← c.post_request.ensures.2) at c.post_request.ensures.1 in
    made_refused g.E.SpanExporter c.args.asked c.args.machine.now c.post_request.result c.crowded.result
    c.post_request.new.machine c.requires steps c.in_default.not-Requested c.in_default.not-Closed c.crowded.ensures
