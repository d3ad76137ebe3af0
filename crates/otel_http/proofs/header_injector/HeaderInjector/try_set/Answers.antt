use Rattle.std.proofs.Common.{string_bytes, ap, sym, ◌∙◌}
use Rattle.otel_http.specs.Fields.{is_field_content}
use Rattle.otel_http.specs.Injection.{headers_of}
use Rattle.otel_http.proofs.HeadersLemmas.{text_is_set}
use Rattle.otel_http.proofs.header_injector.HeaderInjector.try_set.Goals as goal

pub returns-clause-sets : goal.returns-clause-sets
returns-clause-sets c =
    let text = string_bytes c.args.value in
    rw (c.in_ok-insert.ensures.ok, c.in_ok-name.ensures.ok, c.in_ok-value.ensures.ok)
    (text_is_set (headers_of c.args.self.now) c.args.key.now text (ap is_field_content (sym c.as_str.ensures.value) ∙ sym c.if-not-is_field_content.ensures))
