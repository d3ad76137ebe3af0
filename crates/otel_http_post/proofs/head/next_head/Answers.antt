-- A head, if it is there.
use Rattle.std.proofs.Common.{◌∙◌, ℕ, List, ap, refl, subst}
use Rattle.http1.specs.Client.{ClientReads}
use Rattle.http1.specs.declared.conn.Event.TheVariants.{NeedMore, Informational, Head}
use Rattle.http1.specs.ServerTrace.{headers_at}
use Rattle.otel_http_post.specs.RetryAfter.{retry_after_of}
use Rattle.otel_http_post.proofs.EventLemmas.{takes_as}
use Rattle.otel_http_post.proofs.head.next_head.Goals.{in-NeedMore, in-Informational, in-Head}
use Rattle.otel_http_post.proofs.head.next_head.Goals as goal

pub returns-clause-ok : goal.returns-clause-ok
returns-clause-ok c =
    let takes = takes_as c.args.inbox.now.client c.read.new.self c.args.inbox.now.input.items
    c.advance.new.self.items c.read.new.headers c.in-Ok.read in
    let found = subst (λ (bs : List ℕ). ClientReads c.args.inbox.now.client bs c.read.new.headers c.read.new.self
    c.in-Ok.read) c.as_slice.ensures c.in-Ok.ensures.ok in
    elim c.match-read-2.branch [
      | in-NeedMore w ↦ rw w.step-is (
        c.read.new.headers,
        NeedMore,
        takes NeedMore found w.in-NeedMore.is c.advance.ensures.items,
        tt,
      )
      | in-Informational w ↦ rw w.step-is (
        c.read.new.headers,
        Informational w.in-Informational.field-0,
        takes (Informational w.in-Informational.field-0) found w.in-Informational.is c.advance.ensures.items,
        tt,
      )
      | in-Head w ↦ rw w.step-is (
        c.read.new.headers,
        Head w.in-Head.head,
        takes (Head w.in-Head.head) found w.in-Head.is c.advance.ensures.items,
        (
          refl,
          w.retry_after.ensures ∙ ap (λ (bs : List ℕ). retry_after_of
              (headers_at bs c.read.new.headers w.in-Head.head.headers)) w.as_slice-in-Head.ensures,
        ),
      )
    ]
