-- A sheet without where it lies.
use Rattle.otel_picture.specs.PlainSheets.{PlainSheet}
use Rattle.otel_picture.specs.Traces.{plain_trace}
use Rattle.otel_picture.specs.declared.sheet.Sheet.{Sheet}

abbrev pub plain_sheet : Sheet → PlainSheet
plain_sheet sheet = record {
  spans = sheet.spans.now;
  trace = plain_trace sheet.trace.now;
  layout = sheet.layout;
  first = sheet.scale.first;
  last = sheet.scale.last;
  is_mixed = sheet.is_mixed;
}
