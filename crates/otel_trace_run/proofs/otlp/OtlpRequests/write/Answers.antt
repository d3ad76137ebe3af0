-- Nothing to write needs no memory.
use Rattle.otel_trace_run.proofs.Exporting.{no_batch}
use Rattle.otel_trace_run.proofs.otlp.OtlpRequests.write.Goals as goal

pub returns-in-Json-clause-free : goal.returns-in-Json-clause-free
returns-in-Json-clause-free c = λ none.
    c.write_requests.ensures.free
    (no_batch (λ batch. batch.items) c.args.self.now.encoding c.args.self.now.resource c.args.batches.now none)

pub returns-in-Protobuf-clause-free : goal.returns-in-Protobuf-clause-free
returns-in-Protobuf-clause-free c = λ none.
    c.write_delimited_requests.ensures.free
    (no_batch (λ batch. batch.items) c.args.self.now.encoding c.args.self.now.resource c.args.batches.now none)
