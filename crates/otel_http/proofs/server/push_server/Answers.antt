use Rattle.std.proofs.Common.{◌≡◌, ◌∙◌, [], None, ap, refl, sym, append-nil, codes}
use Rattle.http.specs.Request.{head_of}
use Rattle.http_header.specs.HeaderMap.{get}
use Rattle.http_uri.specs.Uri.{uri_authority}
use Rattle.otel_http.proofs.server.push_server.Goals as goal

pub returns-in-None : goal.returns-in-None
returns-in-None g c =
    let none : uri_authority (head_of c.args.request.now).uri ≡ None =
    ap uri_authority (sym c.uri.ensures) ∙ sym c.in_default.ensures in
    let no_host : get (head_of c.args.request.now).headers (codes "host") ≡ None =
    ap (λ fields. get fields (codes "host")) (sym c.headers.ensures) ∙ sym c.in-None.ensures.value in
    ([], rw (none, no_host) refl, sym (append-nil _))
