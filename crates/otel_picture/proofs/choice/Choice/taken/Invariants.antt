-- Those so far that may be drawn.
use Rattle.std.proofs.Common.{◌≡◌, map}
use Rattle.std.specs.List.{filter}
use Rattle.otel_picture.specs.Choices.{is_chosen}
use Rattle.otel_picture.specs.Traces.{AllHaveSpans, plain_trace}
use Rattle.otel_picture.proofs.choice.Choice.taken.Given as goal

abbrev pub invariant-loop-trace : goal.invariant-loop-trace
invariant-loop-trace l = record {
  is : map plain_trace l.taken.items ≡ filter (is_chosen l.self l.spans) (map plain_trace l.yielded);
  there : AllHaveSpans l.spans l.taken.items;
}
