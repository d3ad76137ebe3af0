-- All that may be drawn, or the longest of it.
use Rattle.std.proofs.Common.{map, refl}
use Rattle.std.specs.List.{filter}
use Rattle.otel_picture.specs.Choices.{is_chosen}
use Rattle.otel_picture.specs.Traces.{plain_trace}
use Rattle.otel_picture.proofs.Choosing.{left_all, left_sorted}
use Rattle.otel_picture.proofs.traces.Traces.chosen.Goals as goal

pub returns-in-Some : goal.returns-in-Some
returns-in-Some c = record {
  spans_are = refl;
  left = left_sorted c.args.choice.slowest c.in-Some.count
      (filter (is_chosen c.args.choice c.args.self.spans.now) (map plain_trace c.args.self.traces.items))
      c.in_ok-taken.taken.items c.sort_by_length.new.traces.items c.truncate.new.self.items c.in-Some.is c.in_ok-taken.ensures.is
      c.sort_by_length.ensures.same c.sort_by_length.ensures.sorted c.truncate.ensures.items;
}

pub returns-in-None : goal.returns-in-None
returns-in-None c = record {
  spans_are = refl;
  left = left_all c.args.choice.slowest
      (filter (is_chosen c.args.choice c.args.self.spans.now) (map plain_trace c.args.self.traces.items))
      c.in_ok-taken.taken.items c.in-None.is c.in_ok-taken.ensures.is;
}
