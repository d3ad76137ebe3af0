-- A member is cut at its first equals sign, if it has one.
use Rattle.std.proofs.Common.{◌≢◌, ◌∙◌, Some, [], inr, lit<, rules, sym}
use Rattle.std.proofs.lemmas.List.Elements.{All-from_get_or}
use Rattle.std.proofs.lemmas.Str.Pattern.{split_parts}
use Rattle.otel_trace_run.proofs.GivenLemmas.{read_by_key, some_bytes, unread_alone}
use Rattle.otel_trace_run.proofs.given_attributes.reads_member.Goals as goal

pub returns-in-Some : goal.returns-in-Some
returns-in-Some c =
    let member = c.args.member.now in
    let parts = split_parts 61 member (Some (c.in-Some.key, c.in-Some.field-0-1)) c.in-Some.ensures.cases (lit< tt) in
    let key = some_bytes c.trim.result.now c.is_empty-in-Some.result c.is_empty-in-Some.ensures in
    let some : member ≢ [] = (some_bytes member c.is_empty.result c.is_empty.ensures).0 (search rules) in (
      λ h. inr (
        c.in-Some.key.now,
        c.in-Some.field-0-1.now,
        parts.0,
        All-from_get_or (λ b. b ≢ 61) c.in-Some.key.now 0 parts.1,
        λ none. key.0 h (c.trim.ensures.trim ∙ none),
      ),
      λ reads. key.1 (λ none.
          read_by_key member c.in-Some.key c.in-Some.field-0-1 c.in-Some.ensures.cases some reads (sym c.trim.ensures.trim ∙ none)),
    )

pub returns-in-None : goal.returns-in-None
returns-in-None c =
    let member = c.args.member.now in
    let some : member ≢ [] = (some_bytes member c.is_empty.result c.is_empty.ensures).0 (search rules) in
    (λ h. absurd (search rules), λ reads. absurd (unread_alone member c.in-None.ensures.cases some reads))
