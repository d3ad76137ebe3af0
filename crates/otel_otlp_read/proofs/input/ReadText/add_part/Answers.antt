-- Line by line, or as one document.
use Rattle.std.specs.Prelude.{◌||◌, OnOk, not}
use Rattle.std.proofs.Common.{◌≡◌, ◌∙◌, ap, sym, subst, true, false}
use Rattle.otel_otlp_read.specs.Inputs.{PlainReadText, and_read, begins_with_json, is_json, text_lines}
use Rattle.otel_otlp_read.proofs.PartReading.{or_first, or_none, or_second, part_lines, part_whole}
use Rattle.otel_otlp_read.proofs.input.ReadText.add_part.Goals as goal
use Rattle.otel_otlp_read.proofs.input.ReadText.add_part.Goals.{then-branch-via-then-branch, then-branch-via-else-branch+in_ok-is_json+then-not-branch}

pub returns-then-branch : goal.returns-then-branch
returns-then-branch c =
    let text = c.args.text.now in
    let begins = begins_with_json (text_lines text) in
    let why : (begins || not (is_json text)) ≡ true =
    elim c.then-branch.branch [
      | then-branch-via-then-branch w ↦
          or_first begins (not (is_json text)) (sym (c.in_ok-begins_with_json.ensures {u = tt}) ∙ w.if-branch.true)
      | then-branch-via-else-branch+in_ok-is_json+then-not-branch w ↦
          or_second begins (not (is_json text)) (ap not (sym (w.in_ok-is_json.ensures {u = tt}) ∙ w.if-not-branch.true))
    ] in
    subst (λ (p : PlainReadText). OnOk c.add_lines.result (c.add_lines.new.self ≡ and_read c.args.self.now p))
    (sym (part_lines c.args.number text why)) c.add_lines.ensures

pub returns : goal.returns
returns c =
    let text = c.args.text.now in
    let begins = begins_with_json (text_lines text) in
    let why : (begins || not (is_json text)) ≡ false =
    or_none begins (not (is_json text)) (sym (c.in_ok-begins_with_json.ensures {u = tt}) ∙ c.if-branch.false)
    (ap not (sym (c.in_ok-is_json.ensures {u = tt}) ∙ c.if-not-branch.false)) in
    subst (λ (p : PlainReadText). OnOk c.add.result (c.add.new.self ≡ and_read c.args.self.now p))
    (sym (part_whole c.args.number text why)) c.add.ensures
