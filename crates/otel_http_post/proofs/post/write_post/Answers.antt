-- The three calls have appended the request.
use Rattle.std.proofs.Common.{◌≡◌, ◌++◌, ◌∙◌, ◌^◌, ◌<◌, ℕ, List, [], length, ap, arith, subst}
use Rattle.std.specs.Prelude.{Ok, codes}
use Rattle.http1.specs.declared.client.Client.{Client}
use Rattle.http1.specs.declared.conn.BodySize.{BodySize}
use Rattle.http1.specs.declared.conn.BodySize.TheVariants.{Known}
use Rattle.http1.specs.Fields.{Header}
use Rattle.http1.specs.Client.{after_request, new_client, planned_request, request_refusal, with_writing, writing}
use Rattle.http1.specs.Conn.{after_data, data_text, finish_text}
use Rattle.http1.specs.Head.{is_request_line, pairs}
use Rattle.std.specs.Vec.{vec_capacity, vec_len}
use Rattle.std.specs.Prelude.{Result}
use Rattle.http1.specs.declared.error.WriteError.{WriteError}
use Rattle.std.proofs.Common.{◌-◌}
use Rattle.http1.specs.Output.{GivesOrRefuses}
use Rattle.otel_http_post.specs.Request.{limits}
use Rattle.otel_http_post.specs.Refusal.{RefusesHeaders, refusal_of}
use Rattle.std.specs.Prelude.{Err}
use Rattle.http1.specs.Conn.{data_refusal, finish_refusal}
use Rattle.otel_http_post.proofs.ResultLemmas.{if_err}
use Rattle.otel_http_post.proofs.PostLemmas.{body_refuses, end_refuses, head_refuses, post_is}
use Rattle.otel_http_post.proofs.post.write_post.Goals as goal

pub returns-clause-text : goal.returns-clause-text
returns-clause-text c = λ free.
    let headers : List Header = pairs c.args.headers.now in
    let body : List ℕ = c.args.body.now in
    let path : List ℕ = c.args.path.now in
    let begun : Client = new_client limits in
    let size : BodySize = Known (length body) in
    let post : List ℕ = codes "POST" in
    let is_new : c.new-client.result ≡ begun = c.new-client.ensures in
    let none : c.new-text.result.items ≡ [] = c.new-text.ensures.items in
    let asked : c.write_request.new.self ≡ after_request c.new-client.result post size headers =
    c.in_ok-write_request.ensures.next in
    let sent : c.write_data.new.self ≡ with_writing c.write_request.new.self (after_data
    (writing c.write_request.new.self) (length body)) = c.in_ok-write_data.ensures.counted in
    let head : c.write_request.new.output.items ≡ c.new-text.result.items ++ planned_request c.new-client.result
    post path size headers = c.in_ok-write_request.ensures.ok in
    let piece : c.write_data.new.output.items ≡ c.write_request.new.output.items ++ data_text
    (writing c.write_request.new.self) body = c.in_ok-write_data.ensures.ok in
    let end : c.write_end.new.output.items ≡ c.write_data.new.output.items ++ finish_text
    (writing c.write_data.new.self) [] = c.in_ok-write_end.ensures.ok in
    let spare : ℕ = vec_capacity c.new-text.result - vec_len c.new-text.result in
    let len : ℕ = length (planned_request c.new-client.result post path size headers) in
    let done : Result (Unit {0}) WriteError = Ok c.in_ok-write_request.field-0 in
    let outcome : GivesOrRefuses (request_refusal c.new-client.result post path size headers) spare len done =
    c.in_ok-write_request.ensures.outcome in
    let accepted = subst (λ (client : Client). GivesOrRefuses
    (request_refusal client post path size headers) spare len done) is_new outcome in
    let fits : length body < 2 ^ 64 = omega arith in
    let client : c.write_request.new.self ≡ after_request begun post size headers =
    asked ∙ ap (λ (x : Client). after_request x post size headers) is_new in
    let first : c.write_request.new.output.items ≡ planned_request begun post path size headers =
    head ∙ ap (λ (bs : List ℕ). bs ++ planned_request c.new-client.result post path size headers) none
    ∙ ap (λ (x : Client). planned_request x post path size headers) is_new in
    let whole : c.write_data.new.self ≡ with_writing (after_request begun post size headers) (after_data (writing
    (after_request begun post size headers)) (length body)) =
    sent ∙ ap (λ (x : Client). with_writing x (after_data (writing x) (length body))) client in
    let both : c.write_data.new.output.items ≡ planned_request begun post path size headers ++ data_text (writing
    (after_request begun post size headers)) body =
    piece ∙ (λ i. first i ++ data_text (writing (client i)) body) in
    end ∙ (λ i. both i ++ finish_text (writing (whole i)) [])
    ∙ post_is headers path body (is_request_line post path 1) spare len c.in_ok-write_request.field-0 accepted fits
    free

pub returns-in_err-write_request-clause-err : goal.returns-in_err-write_request-clause-err
returns-in_err-write_request-clause-err c = λ free.
    let headers : List Header = pairs c.args.headers.now in
    let body : List ℕ = c.args.body.now in
    let path : List ℕ = c.args.path.now in
    let size : BodySize = Known (length body) in
    let post : List ℕ = codes "POST" in
    let why : WriteError = c.in_err-write_request.field-0.0 in
    let failed : Result (Unit {0}) WriteError = Err why in
    let spare : ℕ = vec_capacity c.new-text.result - vec_len c.new-text.result in
    let len : ℕ = length (planned_request c.new-client.result post path size headers) in
    let outcome : GivesOrRefuses (request_refusal c.new-client.result post path size headers) spare len failed =
    c.in_err-write_request.ensures.outcome in
    let refuses = head_refuses headers path body c.new-client.result c.new-client.ensures spare len why outcome in
    if_err c.from_residual.result (refusal_of why) (RefusesHeaders path headers (length body))
    c.from_residual.ensures.1 refuses

pub returns-in_err-write_data-clause-err : goal.returns-in_err-write_data-clause-err
returns-in_err-write_data-clause-err c = λ free.
    let headers : List Header = pairs c.args.headers.now in
    let body : List ℕ = c.args.body.now in
    let path : List ℕ = c.args.path.now in
    let size : BodySize = Known (length body) in
    let post : List ℕ = codes "POST" in
    let sent : Client = c.write_request.new.self in
    let why : WriteError = c.in_err-write_data.field-0.0 in
    let failed : Result (Unit {0}) WriteError = Err why in
    let done : Result (Unit {0}) WriteError = Ok c.in_ok-write_request.field-0 in
    let spare : ℕ = vec_capacity c.new-text.result - vec_len c.new-text.result in
    let len : ℕ = length (planned_request c.new-client.result post path size headers) in
    let gives : GivesOrRefuses (request_refusal c.new-client.result post path size headers) spare len done =
    c.in_ok-write_request.ensures.outcome in
    let room : ℕ = vec_capacity c.write_request.new.output - vec_len c.write_request.new.output in
    let need : ℕ = length (data_text (writing sent) body) in
    let outcome : GivesOrRefuses (data_refusal (writing sent) (length body)) room need failed =
    c.in_err-write_data.ensures.outcome in
    let small : length body < 2 ^ 64 = omega arith in
    let refuses =
    body_refuses headers path body c.new-client.result c.new-client.ensures sent
    c.in_ok-write_request.ensures.next spare len c.in_ok-write_request.field-0 gives small free room need why
    outcome in
    if_err c.from_residual-in_err-write_data.result (refusal_of why) (RefusesHeaders path headers (length body))
    c.from_residual-in_err-write_data.ensures.1 refuses

pub returns-in_err-write_end-clause-err : goal.returns-in_err-write_end-clause-err
returns-in_err-write_end-clause-err c = λ free.
    let headers : List Header = pairs c.args.headers.now in
    let body : List ℕ = c.args.body.now in
    let path : List ℕ = c.args.path.now in
    let size : BodySize = Known (length body) in
    let post : List ℕ = codes "POST" in
    let sent : Client = c.write_request.new.self in
    let whole : Client = c.write_data.new.self in
    let why : WriteError = c.in_err-write_end.field-0.0 in
    let failed : Result (Unit {0}) WriteError = Err why in
    let done : Result (Unit {0}) WriteError = Ok c.in_ok-write_request.field-0 in
    let spare : ℕ = vec_capacity c.new-text.result - vec_len c.new-text.result in
    let len : ℕ = length (planned_request c.new-client.result post path size headers) in
    let gives : GivesOrRefuses (request_refusal c.new-client.result post path size headers) spare len done =
    c.in_ok-write_request.ensures.outcome in
    let room : ℕ = vec_capacity c.write_data.new.output - vec_len c.write_data.new.output in
    let need : ℕ = length (finish_text (writing whole) []) in
    let outcome : GivesOrRefuses (finish_refusal (writing whole) []) room need failed =
    c.in_err-write_end.ensures.outcome in
    let small : length body < 2 ^ 64 = omega arith in
    let refuses =
    end_refuses headers path body c.new-client.result c.new-client.ensures sent
    c.in_ok-write_request.ensures.next spare len c.in_ok-write_request.field-0 gives small free whole
    c.in_ok-write_data.ensures.counted room need why outcome in
    if_err c.from_residual-in_err-write_end.result (refusal_of why) (RefusesHeaders path headers (length body))
    c.from_residual-in_err-write_end.ensures.1 refuses
