-- A head and a body are an answer.
use Rattle.std.proofs.Common.{◌++◌, ◌∙◌, ℕ, List, subst, sym}
use Rattle.std.proofs.KnownBytes.{Consumes-trans}
use Rattle.http1.specs.Decoder.{decoder_for}
use Rattle.otel_http_post.specs.Following.{HasHead, HasNone}
use Rattle.otel_http_post.specs.Request.{HasAsked, limits}
use Rattle.otel_http_post.proofs.AnswerLemmas.{answers_none, asked_waits, awaits_body, none_answers, unread_answer}
use Rattle.otel_http_post.proofs.AnswerLemmas.{whole_answer}
use Rattle.otel_http_post.proofs.ResultLemmas.{match_error}
use Rattle.otel_http_post.proofs.answer.read_answer.Goals.{in-Ok, in-Err}
use Rattle.otel_http_post.proofs.answer.read_answer.Goals as goal

pub returns-clause-read : goal.returns-clause-read
returns-clause-read g c =
    let head = c.in_ok-head.ensures.read in
    let begun = c.args.post.client in
    let inbox = c.read_head.new.inbox in
    let found = c.in_ok-head.head in
    let first = λ (asked : HasAsked begun). subst (λ (bs : List ℕ).
    HasHead begun (bs ++ head.0) inbox.client inbox.input.items found) c.new.ensures.items (head.2
    (asked_waits begun asked)) in
    let answer = sym c.no_answer_by.ensures ∙ c.in_default.is in
    elim c.match-read_body.branch [
      | in-Ok w ↦
          let body = w.in-Ok.ensures.read in
          let new = c.read_body.new.inbox in
          rw w.body-is (
            head.0 ++ body.0,
            Consumes-trans _ _ _ head.0 body.0 head.1 body.1,
            λ asked.
                let h = first asked in
                let waits = asked_waits begun asked in
                whole_answer begun inbox.client waits head.0 inbox.input.items found h answer body.0 new.input.items
                w.in-Ok.body.items (g.R.Read.remaining c.read_body.new.reader) c.args.limit new.client
                w.is_idle.result (body.2 (decoder_for limits h.framing)
                (awaits_body begun inbox.client waits head.0 inbox.input.items found h answer)) w.is_idle.ensures,
          )
      | in-Err w ↦
          let body = w.in-Err.ensures.read in
          rw w.body-is (
            head.0 ++ body.0,
            Consumes-trans _ _ _ head.0 body.0 head.1 body.1,
            λ asked.
                let h = first asked in
                let waits = asked_waits begun asked in
                unread_answer begun inbox.client waits head.0 inbox.input.items found h answer body.0
                (g.R.Read.remaining c.read_body.new.reader) c.args.limit w.in-Err.error
                (body.2 (decoder_for limits h.framing)
                (awaits_body begun inbox.client waits head.0 inbox.input.items found h answer)),
          )
    ]

pub returns-in_err-head-clause-read : goal.returns-in_err-head-clause-read
returns-in_err-head-clause-read g c =
    let head = c.in_err-head.ensures.read in
    let begun = c.args.post.client in (
      head.0,
      head.1,
      λ asked. match_error c.from_residual.result c.in_err-head.field-0.0 _ _ c.from_residual.ensures.1
          (none_answers begun head.0 (g.R.Read.remaining c.read_head.new.reader) c.in_err-head.field-0.0
          (subst (λ (bs : List ℕ). HasNone begun (bs ++ head.0) (g.R.Read.remaining c.read_head.new.reader)
          c.in_err-head.field-0.0) c.new.ensures.items (head.2 (asked_waits begun asked)))),
    )

pub returns-in-Some-clause-read : goal.returns-in-Some-clause-read
returns-in-Some-clause-read g c =
    let head = c.in_ok-head.ensures.read in
    let begun = c.args.post.client in
    let inbox = c.read_head.new.inbox in
    let found = c.in_ok-head.head in (
      head.0,
      head.1,
      λ asked.
          let waits = asked_waits begun asked in
          let h = subst (λ (bs : List ℕ). HasHead begun (bs ++ head.0) inbox.client inbox.input.items found)
          c.new.ensures.items (head.2 waits) in
          answers_none begun inbox.client waits head.0 inbox.input.items found h
          (g.R.Read.remaining c.read_head.new.reader) c.in-Some.error
          (sym c.no_answer_by.ensures ∙ c.in-Some.is),
    )
