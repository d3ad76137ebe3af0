use Rattle.std.proofs.Common.{sym, ◌∙◌}
use Rattle.otel_propagation.proofs.BothLemmas.{same_extraction, span_read, span_written}
use Rattle.otel_pipeline.proofs.laws.lists_of_propagators_pass_on.Goals as goal

pub returns : goal.returns
returns g c sending receiving sender receiver found before headers sent received sends receives sent_is injects extracts received_is =
    let written = span_written g.C.TextMapPropagator.inject_gives sending sender before headers sends injects in
    let read = span_read g.C.TextMapPropagator.extract_gives receiving receiver found headers receives extracts in
    record {
      sender = sender;
      receiver = read.receiver;
      found = read.read;
      before = written.before;
      headers = written.headers;
      sends = sent_is;
      injects = written.injects;
      extracts = same_extraction written.headers headers read.receiver read.read written.same read.extracts;
      receives = sym read.is ∙ received_is;
    }
