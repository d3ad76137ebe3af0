-- A space is one byte, so that a character begins after it.
use Rattle.std.proofs.Common.{◌≡◌, ◌<◌, length, get_or, arith}
use Rattle.std.proofs.lemmas.Str.{IsCharBoundary-after_ascii}
use Rattle.otel_trace_lines.proofs.fields.split_at_space.Goals as goal

pub range_from-requires : goal.range_from-requires
range_from-requires c = λ positive.
    let text = c.args.text.now in
    let bytes = c.as_bytes.ensures.value in
    let found = c.in_ok-end.ensures in
    let inside : c.in_ok-end.end < length text = rw bytes at found.0 in
    let space : get_or text c.in_ok-end.end 0 ≡ 32 = rw bytes at found.1 in
    IsCharBoundary-after_ascii text c.in_ok-end.end c.utf8.text inside (omega arith)
