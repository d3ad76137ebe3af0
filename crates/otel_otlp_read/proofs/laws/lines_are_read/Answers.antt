-- Each line is read, and the cut at line feeds gives the lines.
use Rattle.otel_otlp.specs.Otlp.{otlp_text, request}
use Rattle.otel_otlp_read.proofs.InputsRead.{each_reads, input_back, json_back}
use Rattle.otel_otlp_read.proofs.laws.lines_are_read.Goals as goal

pub returns : goal.returns
returns c = λ resource batches fits all utf8.
    input_back resource batches
    (each_reads resource batches (λ batch spans text. record {
      json = json_back (otlp_text resource batch) (request resource batch) text
          (c.lines_read_back.ensures.document resource batch (fits, spans));
      spans = c.what_is_written_is_read.ensures.text resource batch fits spans text;
    }) all utf8)
    (c.lines_are_cut.ensures resource batches)
