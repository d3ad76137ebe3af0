-- One part, or each by itself.
use Rattle.std.proofs.Common.{◌≡◌, ◌∙◌, IfOk, sym, subst, true, false}
use Rattle.std.specs.Prelude.{◌||◌}
use Rattle.otel_otlp_read.specs.Inputs.{PlainReadText, begins_with_json, is_json, text_lines}
use Rattle.otel_otlp_read.proofs.PartReading.{input_parts, input_whole, or_first, or_none, or_second}
use Rattle.otel_otlp_read.proofs.input.read_unmarked.Goals as goal
use Rattle.otel_otlp_read.proofs.input.read_unmarked.Goals.{then-branch-via-then-branch, then-branch-via-else-branch+in_ok-is_json+then-branch-2}

pub returns-then-branch : goal.returns-then-branch
returns-then-branch c =
    let text = c.args.text.now in
    let begins = begins_with_json (text_lines text) in
    let why : (begins || is_json text) ≡ true =
    elim c.then-branch.branch [
      | then-branch-via-then-branch w ↦
          or_first begins (is_json text) (sym (c.in_ok-begins_with_json.ensures {u = tt}) ∙ w.if-branch.true)
      | then-branch-via-else-branch+in_ok-is_json+then-branch-2 w ↦
          or_second begins (is_json text) (sym (w.in_ok-is_json.ensures {u = tt}) ∙ w.if-branch-2.true)
    ] in
    subst (λ (p : PlainReadText). IfOk c.read_whole.result (λ read. read ≡ p)) (sym (input_whole text why))
    c.read_whole.ensures

pub returns : goal.returns
returns c =
    let text = c.args.text.now in
    let begins = begins_with_json (text_lines text) in
    let why : (begins || is_json text) ≡ false =
    or_none begins (is_json text) (sym (c.in_ok-begins_with_json.ensures {u = tt}) ∙ c.if-branch.false)
    (sym (c.in_ok-is_json.ensures {u = tt}) ∙ c.if-branch-2.false) in
    subst (λ (p : PlainReadText). IfOk c.read_parts.result (λ read. read ≡ p)) (sym (input_parts text why))
    c.read_parts.ensures
