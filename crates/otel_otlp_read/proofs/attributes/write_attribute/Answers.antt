-- A line feed, and a pair.
use Rattle.std.proofs.Common.{◌≡◌, ◌∷◌, [], ap, false, string_bytes, sym, rules}
use Rattle.json.specs.Value.{value_view}
use Rattle.otel_otlp_read.specs.AnyValue.{shown_pair, shown_value}
use Rattle.otel_otlp_read.specs.Reading.{grown}
use Rattle.otel_otlp_read.specs.SpanLists.{attribute_line}
use Rattle.otel_otlp_read.proofs.Turns.{gives_by}
use Rattle.otel_otlp_read.proofs.attributes.write_attribute.Goals as goal

pub returns : goal.returns
unfolding attribute_line
returns c =
    let read = shown_pair (shown_value 64 false) (value_view c.args.attribute.now) in
    let feed : string_bytes c.push_str.new.self ≡ 10 ∷ [] = search rules in
    gives_by _ c.push_pair.result (grown (string_bytes c.push_str.new.self) read) _
    (ap (λ f. grown f read) (sym feed)) c.push_pair.ensures
