-- A call of `read`, by its event.
use Rattle.std.proofs.Common.{◌≡◌, ℕ, List, drop, subst}
use Rattle.httparse.specs.declared.spans.HeaderSpan.{HeaderSpan}
use Rattle.httparse.specs.declared.spans.ResponseSpans.{ResponseSpans}
use Rattle.http1.specs.Client.{ClientReads}
use Rattle.http1.specs.declared.client.Client.{Client}
use Rattle.http1.specs.declared.conn.Event.{Event}
use Rattle.http1.specs.declared.conn.Progress.{Progress}
use Rattle.otel_http_post.specs.Following.{TakesEvent}

pub takes_as : (old new : Client) (input left : List ℕ) (spans : List HeaderSpan) (read : Progress ResponseSpans)
    (event : Event ResponseSpans)
    → ClientReads old input spans new read → read.event ≡ event → left ≡ drop read.consumed input
    → TakesEvent old input spans event new left
takes_as old new input left spans read event found is left_is = record {
  consumed = read.consumed;
  reads = subst (λ (e : Event ResponseSpans). ClientReads old input spans new
      (record { consumed = read.consumed; event = e })) is found;
  left_is = left_is;
}
