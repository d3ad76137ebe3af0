-- A plus is no digit; and what std reads without one is what the sign and the digits write.
use Rattle.std.proofs.Common.{◌≡◌, ◌≢◌, get_or, rules, sym}
use Rattle.otel_trace_lines.proofs.Numerals.{integer_found, no_integer}
use Rattle.otel_trace_lines.proofs.fields.parse_integer.Goals as goal

pub returns-then-starts_with : goal.returns-then-starts_with
returns-then-starts_with c =
    let plus : get_or c.args.digits.now 0 0 ≡ 43 = search rules in
    sym (no_integer c.args.digits.now plus)

pub returns : goal.returns
returns c =
    let plain : get_or c.args.digits.now 0 0 ≢ 43 = search rules in
    search (rules, integer_found c.args.digits.now c.parse.result c.parse.ensures.value.0 plain)
