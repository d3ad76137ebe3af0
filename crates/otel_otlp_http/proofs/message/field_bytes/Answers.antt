-- One field more.
use Rattle.std.proofs.Common.{◌≡◌, ◌∙◌, ℕ, ◌-◌, ◌<◌, List, ap, arith, length, sym}
use Rattle.std.proofs.lemmas.Bool.Decides.{nat_tests}
use Rattle.std.proofs.lemmas.List.{nil_from_length}
use Rattle.std.specs.Borrow.{Bor}
use Rattle.std.specs.Prelude.{option_map}
use Rattle.otel_protobuf.proofs.Stepping.{all_read, first_read, none_read, too_many}
use Rattle.otel_protobuf.specs.Reading.{read_64, read_fields}
use Rattle.otel_otlp_http.proofs.MessageLemmas.{bytes_more}
use Rattle.otel_otlp_http.specs.Messages.{last_bytes}
use Rattle.otel_otlp_http.proofs.message.field_bytes.Goals as goal

pub returns-then-more-eq0 : goal.returns-then-more-eq0
returns-then-more-eq0 c =
    let there : 0 < length c.fields.rest.now = grind (arith, nat_tests) in
    let none : c.fields.more ≡ 0 = grind (arith, nat_tests) in
    sym (c.fields.invariant
    ∙ ap (option_map (last_bytes c.args.wanted c.fields.last.now))
    (too_many read_64 c.fields.more c.fields.rest.now none there))

pub returns-in_err-number : goal.returns-in_err-number
returns-in_err-number c =
    let there : 0 < length c.fields.rest.now = grind (arith, nat_tests) in
    ap (option_map (λ (bs : Bor (List ℕ)). bs.now)) c.from_residual.ensures
    ∙ sym (c.fields.invariant
    ∙ ap (option_map (last_bytes c.args.wanted c.fields.last.now))
    (none_read read_64 c.fields.more c.fields.rest.now there (sym c.in_err-number.ensures)))

pub fields-preserved : goal.fields-preserved
fields-preserved c =
    let there : 0 < length c.fields.rest.now = grind (arith, nat_tests) in
    let some : 0 < c.fields.more = grind (arith, nat_tests) in
    let left = read_fields read_64 (c.fields.more - 1) c.in_ok-number.after.now in
    c.fields.invariant
    ∙ ap (option_map (last_bytes c.args.wanted c.fields.last.now))
    (first_read read_64 c.fields.more c.fields.rest.now _ _ some there (sym c.in_ok-number.ensures))
    ∙ bytes_more c.args.wanted c.fields.last.now _ left
    ∙ ap (λ (bs : List ℕ). option_map (last_bytes c.args.wanted bs) left) (sym c.bytes_after-last.ensures)

pub returns : goal.returns
returns c =
    let none : length c.fields.rest.now ≡ 0 = grind (arith, nat_tests) in
    sym (c.fields.invariant
    ∙ ap (option_map (last_bytes c.args.wanted c.fields.last.now))
    (all_read read_64 c.fields.more c.fields.rest.now (nil_from_length c.fields.rest.now none)))
