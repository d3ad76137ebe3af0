-- One row more, which those after it go with.
use Rattle.std.proofs.Common.{◌≡◌, ◌<◌, ◌+◌, ◌++◌, ◌∙◌, ◌∷◌, List, ap, append-nil, arith, drop, get_or, length, rules, subst, sym}
use Rattle.std.proofs.lemmas.List.{drop_all, drop_more}
use Rattle.json.specs.Token.{Token}
use Rattle.otel_picture.specs.HtmlRows.{row_tokens, rows_tokens}
use Rattle.otel_picture.specs.PlainSheets.{row_span}
use Rattle.otel_picture.specs.Sheets.{plain_sheet}
use Rattle.otel_picture.specs.declared.rows.Row.{Row}
use Rattle.otel_picture.proofs.Joined.{taken}
use Rattle.otel_picture.proofs.sheet.Sheet.push_json_row_items.Goals as goal

pub loop-row-preserved : goal.loop-row-preserved
loop-row-preserved c =
    let sheet = plain_sheet c.args.self.now in
    let rows = c.args.self.now.trace.now.rows.items in
    let index = c.loop-row.row-index in
    let none : Row = record { span = 0; level = 0 } in
    let row = get_or rows index none in
    let after = drop (index + 1) rows in
    let old = c.loop-row.before.now in
    let new = c.in_ok-own.own.now in
    let here = c.deref-row-items.ensures.value in
    let below = subst (λ (xs : List Row). index < length xs) here c.loop-row-test.true in
    record {
      text = search rules;
      before = c.in_ok-own.ensures.before ∙ c.loop-row.invariant.before;
      written = taken c.loop-row.out.tokens c.push_json_row.new.out.tokens (row_tokens sheet old row)
          (rows_tokens sheet new after) (rows_tokens sheet old (drop index rows)) _
          (c.in_ok-own.ensures.written
          ∙ ap (λ (xs : List Row). c.loop-row.out.tokens ++ row_tokens sheet old (get_or xs index none)) here)
          (ap (rows_tokens sheet old) (drop_more rows index none below)
          ∙ ap (λ text. row_tokens sheet old row ++ rows_tokens sheet text after)
          (sym (c.in_ok-own.ensures.attributes
          ∙ ap (λ (xs : List Row). (row_span sheet (get_or xs index none)).resource) here)))
          c.loop-row.invariant.written;
    }

pub returns-clause-written : goal.returns-clause-written
returns-clause-written c =
    let sheet = plain_sheet c.args.self.now in
    let rows = c.args.self.now.trace.now.rows.items in
    sym (append-nil c.loop-row.out.tokens)
    ∙ sym (ap (λ (left : List Row). c.loop-row.out.tokens ++ rows_tokens sheet c.loop-row.before.now left)
    (drop_all c.loop-row.row-index rows (omega arith)))
    ∙ c.loop-row.invariant.written
