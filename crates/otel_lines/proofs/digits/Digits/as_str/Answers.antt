use Rattle.std.proofs.Common.{◌-◌, drop, arith, take_all, length-drop}
use Rattle.std.proofs.lemmas.Str.{IsUtf8-from_ascii}
use Rattle.otel_lines.proofs.digits.Digits.as_str.Goals as goal

pub from_utf8_unchecked-requires : goal.from_utf8_unchecked-requires
from_utf8_unchecked-requires c =
    let text = drop c.self.inside.begin c.self.inside.buffer in
    rw (take_all (128 - c.self.inside.begin) text (omega (arith, length-drop c.self.inside.begin c.self.inside.buffer))) (IsUtf8-from_ascii text c.self.invariant.1)
