use Rattle.std.proofs.Common.{rules, [], inl, inr, refl, sym, append-nil}
use Rattle.opentelemetry.proofs.Clauses.{on_ok_map}
use Rattle.otel_http.proofs.server.push_host.Goals as goal

pub returns-in-Ok : goal.returns-in-Ok
returns-in-Ok c = on_ok_map c.push_authority.result
    (λ pushed. (
      pushed.0,
      inl (rw c.as_bytes.ensures.value at c.in-Ok.ensures.ok.0, rw (c.in-Ok.ensures.ok.1, c.as_bytes.ensures.value) at pushed.1),
      pushed.2,
    ))
    c.push_authority.ensures

pub returns-in-Err-Invalid : goal.returns-in-Err-Invalid
returns-in-Err-Invalid c = ([], inr (search rules, refl), sym (append-nil _))
