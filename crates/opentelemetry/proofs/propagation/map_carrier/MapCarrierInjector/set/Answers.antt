use Rattle.std.proofs.Common.{◌≡◌, string_bytes, sym, ap, ◌∙◌, subst}
use Rattle.std.specs.FinMap as fin
use Rattle.std.specs.Str.{str_to_ascii_lowercase}
use Rattle.opentelemetry.specs.Carrier.{SameTexts}
use Rattle.opentelemetry.specs.TextMap.{TextMap, text_map, texts_of, IsLowerName}
use Rattle.opentelemetry.proofs.Clauses.{always_on_err}
use Rattle.opentelemetry.proofs.TextMapLemmas.{text_map-insert, same_text_map, texts_of-insert, AllLowerNames-insert_entry, IsLowerName-lowercase, no_text}
use Rattle.opentelemetry.proofs.propagation.map_carrier.MapCarrierInjector.set.Goals as goal

pub returns-in_default-clause-ok : goal.returns-in_default-clause-ok
returns-in_default-clause-ok c =
    let key = c.args.key.now in
    let low : IsLowerName key = c.in_default.ensures.found c.self.invariant in
    texts_of-insert c.args.self.now (text_map c.put_in_place.new.texts) key (string_bytes c.args.value)
    (c.in_default.ensures.put
    ∙ ap (λ s. fin.insert (text_map c.self.inside.texts) s (string_bytes c.args.value)) (sym low)
    ∙ ap (λ (m : TextMap). fin.insert m (str_to_ascii_lowercase key) (string_bytes c.args.value)) c.self.view_is)

pub returns-in_err-name-clause-free : goal.returns-in_err-name-clause-free
returns-in_err-name-clause-free c low there = absurd (no_text c.self.inside.texts c.args.self.now c.args.key.now c.self.view_is low c.in-Some.ensures.absent there)

same : (c : goal.After-from_residual-in_err-insert) → text_map c.insert.new.self ≡ c.args.self.now
same c =
    same_text_map c.put_in_place.new.texts c.insert.new.self c.in_err-insert.ensures.err
    ∙ same_text_map c.self.inside.texts c.put_in_place.new.texts c.in-Some.ensures.back.1 ∙ c.self.view_is

pub returns-in_err-insert-clause-err : goal.returns-in_err-insert-clause-err
returns-in_err-insert-clause-err c = always_on_err {P = SameTexts (texts_of c.args.self.now) (texts_of (text_map c.insert.new.self))} _ (λ name. ap (λ (m : TextMap). texts_of m name) (same c))

pub returns-in_err-insert-clause-free : goal.returns-in_err-insert-clause-free
returns-in_err-insert-clause-free c low there = absurd (no_text c.self.inside.texts c.args.self.now c.args.key.now c.self.view_is low c.in-Some.ensures.absent there)

pub invariant_of-self-2 : goal.invariant_of-self-2
invariant_of-self-2 c =
    let low : IsLowerName (string_bytes c.in_ok-name.name) = subst IsLowerName (sym c.in_ok-name.ensures.ok) (IsLowerName-lowercase c.args.key.now) in
    rw c.in_ok-insert.ensures.entries (AllLowerNames-insert_entry c.put_in_place.new.texts.entries c.in_ok-name.name c.in-Some.value low (c.in-Some.ensures.lower c.self.invariant))

inserted : (c : goal.Joined-branch-3) → text_map c.insert.new.self ≡ fin.insert c.args.self.now (str_to_ascii_lowercase c.args.key.now) (string_bytes c.args.value)
inserted c =
    text_map-insert c.put_in_place.new.texts c.insert.new.self (string_bytes c.in_ok-name.name) c.in-Some.value c.in_ok-insert.ensures.updates
    ∙ ap (λ s. fin.insert (text_map c.put_in_place.new.texts) s (string_bytes c.in-Some.value)) c.in_ok-name.ensures.ok
    ∙ ap (λ v. fin.insert (text_map c.put_in_place.new.texts) (str_to_ascii_lowercase c.args.key.now) v) c.in-Some.ensures.back.0
    ∙ ap (λ (m : TextMap). fin.insert m (str_to_ascii_lowercase c.args.key.now) (string_bytes c.args.value))
    (same_text_map c.self.inside.texts c.put_in_place.new.texts c.in-Some.ensures.back.1 ∙ c.self.view_is)

pub returns-clause-inserted : goal.returns-clause-inserted
returns-clause-inserted c = inserted c

pub returns-clause-ok : goal.returns-clause-ok
returns-clause-ok c = texts_of-insert c.args.self.now (text_map c.insert.new.self) c.args.key.now (string_bytes c.args.value) (inserted c)
