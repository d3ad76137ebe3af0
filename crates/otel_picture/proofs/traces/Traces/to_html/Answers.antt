-- The data between the fixed texts, and what they are read as.
use Rattle.std.proofs.Common.{◌≡◌, ◌++◌, ◌∙◌, ℕ, List, [], ap, append_assoc, map, sym}
use Rattle.json.specs.Lex.{tokens}
use Rattle.json.specs.Print.{print}
use Rattle.json.specs.Tree.{json_tokens}
use Rattle.otel_picture.specs.Drawn.{plain_traces}
use Rattle.otel_picture.specs.HtmlJson.{html_json}
use Rattle.otel_picture.specs.HtmlRows.{html_tokens}
use Rattle.otel_picture.specs.HtmlTexts.{safe_bytes}
use Rattle.otel_picture.specs.Traces.{plain_trace}
use Rattle.otel_picture.specs.declared.trace.Trace.{Trace}
use Rattle.otel_picture.proofs.HtmlReads.{safe_reads}
use Rattle.otel_picture.proofs.HtmlWritten.{data_read, data_written}
use Rattle.otel_picture.proofs.traces.Traces.to_html.Goals as goal

-- three pieces, one after another
whole : (empty begun middle ended first second third : List ℕ) → empty ≡ [] → begun ≡ empty ++ first
    → middle ≡ begun ++ second → ended ≡ middle ++ third → ended ≡ first ++ (second ++ third)
whole empty begun middle ended first second third e b m w =
    w
    ∙ ap (λ (t : List ℕ). t ++ third)
    (m ∙ ap (λ (t : List ℕ). t ++ second) (b ∙ ap (λ (t : List ℕ). t ++ first) e)) ∙ append_assoc first second third

pub returns-clause-written : goal.returns-clause-written
returns-clause-written c =
    let drawn = plain_traces c.args.self.now in
    let spans = c.args.self.now.spans.now in
    let printed : c.deref-2.result.now ≡ print (json_tokens (html_json drawn)) =
    c.deref-2.ensures.value ∙ c.in_ok-data.ensures.written
    ∙ ap (λ (traces : List Trace). print (html_tokens spans (map plain_trace traces))) c.deref.ensures.value
    ∙ ap print (sym (data_written drawn)) in
    whole c.new-text.result.items c.push_begin.new.out.items c.push_safe.new.out.items c.push_end.new.out.items _ _ _
    c.new-text.ensures.items c.in_ok-push_begin.ensures
    (c.in_ok-push_safe.ensures ∙ ap (λ (bytes : List ℕ). c.push_begin.new.out.items ++ safe_bytes bytes) printed)
    c.in_ok-push_end.ensures

pub returns-clause-reads_back : goal.returns-clause-reads_back
returns-clause-reads_back c =
    let drawn = plain_traces c.args.self.now in
    let spans = c.args.self.now.spans.now in
    let all = ap (λ (traces : List Trace). html_tokens spans (map plain_trace traces)) c.deref.ensures.value in
    let printed : c.in_ok-data.data.items ≡ print (json_tokens (html_json drawn)) =
    c.in_ok-data.ensures.written ∙ ap print (all ∙ sym (data_written drawn)) in
    data_read drawn (safe_reads (json_tokens (html_json drawn))
    (ap tokens (sym printed) ∙ c.in_ok-data.ensures.reads_back ∙ all ∙ sym (data_written drawn)))
