-- An answer was read.
use Rattle.std.proofs.Common.{ℕ, List, subst}
use Rattle.std.specs.Io.KnownBytes.{Appends}
use Rattle.std.specs.Result.{result_map_both}
use Rattle.otel_otlp_http.proofs.AttemptLemmas.{answered_exchange}
use Rattle.otel_otlp_http.specs.Attempts.{Connection, Made}
use Rattle.otel_otlp_http.proofs.attempt.exchange.Goals as goal

pub returns-in-Ok : goal.returns-in-Ok
returns-in-Ok g c = λ asked.
    let read = c.in-Ok.ensures.read in
    let answer = c.in-Ok.answer in
    let sent = λ (bs : List ℕ).
    Appends (g.S.Write.contents c.args.stream.now) (g.S.Write.contents c.write_whole.new.writer) bs in
    let made : Made = record {
      encoding = c.args.encoding;
      client = c.args.post.client;
      text = c.args.post.text.items;
    } in
    let left : Connection _ = record { stream = c.read_answer.new.reader; is_open = answer.keeps } in
    answered_exchange g.S.Write.contents g.S.Read.remaining made c.args.stream.now c.reason_for-reason.result.bytes left
    c.judge-failure.result (record {
      between = c.write_whole.new.writer;
      received = read.0;
      status = answer.status;
      retry_after = answer.retry_after;
      body = result_map_both (λ body. body.items) (λ error. error) answer.body;
      writes = subst sent c.deref.ensures.value c.in_default.ensures.ok;
      reads = read.1;
      answer = read.2 asked;
      judges = c.judge-failure.ensures;
      says_why = c.reason_for-reason.ensures;
    })
