-- The bytes so far.
use Rattle.std.proofs.Common.{◌≡◌, ◌++◌, take}
use Rattle.otel_picture.specs.HtmlTexts.{safe_bytes}
use Rattle.otel_picture.proofs.html.push_safe.Given as goal

abbrev pub invariant-loop-byte : goal.invariant-loop-byte
invariant-loop-byte l = l.out.items ≡ l.fn.out.items ++ safe_bytes (take l.byte-index l.bytes)
