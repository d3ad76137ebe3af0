-- The header is the first of its name, or not of it.
use Rattle.std.proofs.Common.{◌∙◌, List, ℕ, ap, sym}
use Rattle.http1.specs.Text.{eq_ignore_case}
use Rattle.std.specs.Prelude.{codes}
use Rattle.otel_http_post.specs.Count.{count_in}
use Rattle.otel_http_post.proofs.RetryLemmas.{retry_here, retry_later}
use Rattle.otel_http_post.proofs.retry_after.retry_after.Goals as goal

pub returns-then-eq_ignore_case : goal.returns-then-eq_ignore_case
returns-then-eq_ignore_case c =
    let named = ap (λ (bs : List ℕ). eq_ignore_case bs (codes "retry-after")) (sym c.of.ensures)
    ∙ sym c.eq_ignore_case.ensures ∙ c.if-eq_ignore_case.true in
    c.read_count.ensures ∙ ap count_in c.of-then-eq_ignore_case.ensures
    ∙ sym (retry_here c.args.text.now c.args.headers.now c.loop-header.header-index _ c.loop-header-test.true named)
    ∙ sym c.loop-header.invariant

pub loop-header-preserved : goal.loop-header-preserved
loop-header-preserved c =
    let named = ap (λ (bs : List ℕ). eq_ignore_case bs (codes "retry-after")) (sym c.of.ensures)
    ∙ sym c.eq_ignore_case.ensures ∙ c.if-eq_ignore_case.false in
    c.loop-header.invariant ∙ retry_later c.args.text.now c.args.headers.now c.loop-header.header-index _
    c.loop-header-test.true named
