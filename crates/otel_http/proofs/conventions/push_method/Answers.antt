use Rattle.std.proofs.Common.{append_assoc}
use Rattle.otel_http.proofs.conventions.push_method.Goals as goal

pub returns : goal.returns
returns c =
    rw (c.in_ok-push_text.ensures, c.in_ok-push.ensures.items, c.in_ok-text_attribute.ensures, c.method_value.ensures, c.original_method.ensures)
    (append_assoc c.args.attributes.now.items _ _)
