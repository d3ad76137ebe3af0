use Rattle.std.proofs.Common.{Some, ap, sym, ◌∙◌, refl}
use Rattle.http_header.specs.HeaderMap.{get_all}
use Rattle.http_header.specs.Token.{lowercase}
use Rattle.otel_http.proofs.FieldsLemmas.{hidden_single, not_both, shown_single, single_said}
use Rattle.otel_http.proofs.header_extractor.single_text.Goals as goal

pub returns-in-Ok : goal.returns-in-Ok
returns-in-Ok c =
    let v = c.in_ok-get.field-0.now in
    let said = single_said (lowercase c.args.key.now) (get_all c.args.headers.now (lowercase c.args.key.now)) v c.requires (sym c.in_ok-get.ensures.value) in
    let shown = shown_single v (c.in-Ok.ensures.succeeds.0 refl) in
    ap Some c.in-Ok.ensures.ok ∙ sym shown ∙ sym said

pub returns-in-Err : goal.returns-in-Err
returns-in-Err c =
    let v = c.in_ok-get.field-0.now in
    let said = single_said (lowercase c.args.key.now) (get_all c.args.headers.now (lowercase c.args.key.now)) v c.requires (sym c.in_ok-get.ensures.value) in
    let hidden = hidden_single v (λ h. not_both (c.in-Err.ensures.succeeds.1 h)) in
    sym hidden ∙ sym said
