-- A text has one first field, so what stands after it is determined.
use Rattle.std.proofs.Common.{◌≡◌, ◌≢◌, ℕ, ℤ, Bool, true, List, [], ◌∷◌, ◌++◌, Option, None, Some, All, IsUtf8, codes, refl, sym, ap, subst, ◌∙◌, arith, rules}
use Rattle.std.specs.Float.{Float}
use Rattle.std.proofs.lemmas.List.Elements.{All-tail, All-from_recursion}
use Rattle.otel_trace_lines.specs.Commands.{PlainCommand, plain_command, start, child, remote, attr, event, status, inject, end, flush, run, shutdown, set_int, set_bool, set_float, link, exception, event_with, has_more}
use Rattle.opentelemetry.specs.Plain.{PlainStatus, unset, error, ok}
use Rattle.otel_trace_lines.specs.declared.command.Command.{Command}
use Rattle.otel_trace_lines.specs.Lines.{IsField, IsStatus, LineForm, start_form, field, last_field, time, outcome, rest_of_line, whole, truth, float, instant, IsOfForm, form_of, word_of}
use Rattle.otel_trace_lines.specs.Found.{LineGives, HasFields, AreFields, AreFieldsIn, IsCommand, FieldsGive, FieldsGiveIn, WordGives}
use Rattle.opentelemetry.specs.declared.trace.span_kind.SpanKind.{SpanKind}
use Rattle.std.specs.Option.{is_some}
use Rattle.otel_trace_lines.specs.Dialects.{HasFixedFields, HasWord, MayHave}
use Rattle.otel_trace_lines.specs.declared.dialect.Dialect.{Dialect}
use Rattle.otel_trace_lines.specs.declared.dialect.Dialect.TheVariants as dialects
use Rattle.otel_trace_lines.specs.Numbers.{decimal_in}
use Rattle.otel_trace_lines.proofs.Cuts.{no_field}
use Rattle.otel_trace_lines.proofs.Numerals.{number_is_field}

-- what stands in front of the first space, and after it, is determined
same_parts : (front rest other more : List ℕ) → All (λ b. b ≢ 32) front → All (λ b. b ≢ 32) other → front ++ 32 ∷ rest ≡ other ++ 32 ∷ more → (front ≡ other) × (rest ≡ more)
same_parts [] rest [] more f g e = (refl, cc)
same_parts [] rest (c ∷ other) more f g e = absurd (g 0 0 (omega arith) cc)
same_parts (b ∷ front) rest [] more f g e = absurd (f 0 0 (omega arith) cc)
same_parts (b ∷ front) rest (c ∷ other) more f g e =
    let tail : front ++ 32 ∷ rest ≡ other ++ 32 ∷ more = cc in
    let same = same_parts front rest other more (All-tail (λ x. x ≢ 32) b front f) (All-tail (λ x. x ≢ 32) c other g) tail in
    let heads : b ≡ c = cc in
    (cc, same.1)

-- the same of fields
pub same_field : (text first rest other more : List ℕ) → IsField first → IsField other → text ≡ first ++ 32 ∷ rest → text ≡ other ++ 32 ∷ more → (first ≡ other) × (rest ≡ more)
same_field text first rest other more f g e d = same_parts first rest other more f.1 g.1 (sym e ∙ d)

-- where a text begins with a field, a form that it is of goes on in what stands after
pub after_field : (text first rest : List ℕ) → IsField first → text ≡ first ++ 32 ∷ rest → (other : List ℕ) (after : LineForm) → IsOfForm text (field other after) → IsOfForm rest after
after_field text first rest is e other after h = rw (same_field text first rest other h.1.0 is h.0 e h.1.1).1 h.1.2

-- a text is no status where it is neither `ok` nor begins with `error` and a space
pub no_status : (text : List ℕ) → (text ≡ codes "ok" → ⊥) → ((description : List ℕ) → text ≡ codes "error" ++ 32 ∷ description → ⊥) → (how : PlainStatus) → IsStatus text how → ⊥
no_status text not_ok not_error unset h = h
no_status text not_ok not_error (error description) h = not_error description h
no_status text not_ok not_error ok h = not_ok h

-- `error` is a field
pub error_is_field : IsField (codes "error")
error_is_field = (omega arith, All-from_recursion (λ b. b ≢ 32) (codes "error") (search rules))

-- a field that is all of a text is not one that ends at a space
pub no_last_field : (text last first rest : List ℕ) → IsField last → text ≡ last → text ≡ first ++ 32 ∷ rest → ⊥
no_last_field text last first rest is e d = no_field last first rest (λ i h. is.1 i 0 h) (sym e ∙ d)

-- after `start` stand the fields of no other command than a start; and so on, word by word
pub only_start : (dialect : Dialect) (fields : List ℕ) → ((s n : List ℕ) (m : ℕ) (k : Option SpanKind) → IsOfForm fields (field s (field n (start_form m k))) → MayHave dialect (is_some k) → ⊥) → (command : PlainCommand) → HasFields (codes "start") fields (form_of command) → MayHave dialect (has_more command) → ⊥
only_start dialect fields none (start s n m k) h may = none s n m k h.1 may
only_start dialect fields none _ h may = search rules

pub only_child : (dialect : Dialect) (fields : List ℕ) → ((s p n : List ℕ) (m : ℕ) (k : Option SpanKind) → IsOfForm fields (field s (field p (field n (start_form m k)))) → MayHave dialect (is_some k) → ⊥) → (command : PlainCommand) → HasFields (codes "child") fields (form_of command) → MayHave dialect (has_more command) → ⊥
only_child dialect fields none (child s p n m k) h may = none s p n m k h.1 may
only_child dialect fields none _ h may = search rules

pub only_remote : (dialect : Dialect) (fields : List ℕ) → ((s h n : List ℕ) (m : ℕ) (k : Option SpanKind) → IsOfForm fields (field s (field h (field n (start_form m k)))) → MayHave dialect (is_some k) → ⊥) → (command : PlainCommand) → HasFields (codes "remote") fields (form_of command) → MayHave dialect (has_more command) → ⊥
only_remote dialect fields none (remote s h n m k) w may = none s h n m k w.1 may
only_remote dialect fields none _ w may = search rules

pub only_attr : (fields : List ℕ) → ((s k v : List ℕ) → IsOfForm fields (field s (field k (rest_of_line v))) → ⊥) → (command : PlainCommand) → HasFields (codes "attr") fields (form_of command) → ⊥
only_attr fields none (attr s k v) h = none s k v h.1
only_attr fields none _ h = search rules

-- after `attr` two fields and a rest are of an attribute
pub attr_there : (fields span rest key value : List ℕ) → IsField span × (fields ≡ span ++ 32 ∷ rest) → IsField key × (rest ≡ key ++ 32 ∷ value) → AreFields (codes "attr") fields
attr_there fields span rest key value first second = (attr span key value, (refl, (first.0, (rest, first.1, (second.0, (value, second.1, refl))))))

pub only_event : (dialect : Dialect) (fields : List ℕ) → ((s n : List ℕ) (m : ℕ) → IsOfForm fields (field s (field n (time m))) → ⊥)
    → ((s n : List ℕ) (m : ℕ) (k v : List ℕ) → IsOfForm fields (field s (field n (instant m (field k (rest_of_line v))))) → MayHave dialect true → ⊥)
    → (command : PlainCommand) → HasFields (codes "event") fields (form_of command) → MayHave dialect (has_more command) → ⊥
only_event dialect fields bare more (event s n m) h may = bare s n m h.1
only_event dialect fields bare more (event_with s n m k v) h may = more s n m k v h.1 may
only_event dialect fields bare more _ h may = search rules

pub only_status : (fields : List ℕ) → ((s : List ℕ) (how : PlainStatus) → IsOfForm fields (field s (outcome how)) → ⊥) → (command : PlainCommand) → HasFields (codes "status") fields (form_of command) → ⊥
only_status fields none (status s how) h = none s how h.1
only_status fields none _ h = search rules

pub only_inject : (fields : List ℕ) → ¬ (IsField fields) → (command : PlainCommand) → HasFields (codes "inject") fields (form_of command) → ⊥
only_inject fields none (inject s) h = none (subst IsField (sym h.1.1) h.1.0)
only_inject fields none _ h = search rules

pub only_end : (fields : List ℕ) → ((s : List ℕ) (m : ℕ) → IsOfForm fields (field s (time m)) → ⊥) → (command : PlainCommand) → HasFields (codes "end") fields (form_of command) → ⊥
only_end fields none (end s m) h = none s m h.1
only_end fields none _ h = search rules

pub only_run : (fields : List ℕ) → ((m : ℕ) → IsOfForm fields (time m) → ⊥) → (command : PlainCommand) → HasFields (codes "run") fields (form_of command) → ⊥
only_run fields none (run m) h = none m h.1
only_run fields none _ h = search rules

pub only_int : (fields : List ℕ) → ((s k : List ℕ) (n : ℤ) → IsOfForm fields (field s (field k (whole n))) → ⊥) → (command : PlainCommand) → HasFields (codes "int") fields (form_of command) → ⊥
only_int fields none (set_int s k n) h = none s k n h.1
only_int fields none _ h = search rules

pub only_bool : (fields : List ℕ) → ((s k : List ℕ) (b : Bool) → IsOfForm fields (field s (field k (truth b))) → ⊥) → (command : PlainCommand) → HasFields (codes "bool") fields (form_of command) → ⊥
only_bool fields none (set_bool s k b) h = none s k b h.1
only_bool fields none _ h = search rules

pub only_float : (fields : List ℕ) → ((s k : List ℕ) (x : Float) → IsOfForm fields (field s (field k (float x))) → ⊥) → (command : PlainCommand) → HasFields (codes "float") fields (form_of command) → ⊥
only_float fields none (set_float s k x) h = none s k x h.1
only_float fields none _ h = search rules

pub only_link : (fields : List ℕ) → ((s t : List ℕ) → IsOfForm fields (field s (last_field t)) → ⊥) → (command : PlainCommand) → HasFields (codes "link") fields (form_of command) → ⊥
only_link fields none (link s t) h = none s t h.1
only_link fields none _ h = search rules

pub only_exception : (fields : List ℕ) → ((s k : List ℕ) (m : ℕ) (t : List ℕ) → IsOfForm fields (field s (field k (instant m (rest_of_line t)))) → ⊥) → (command : PlainCommand) → HasFields (codes "exception") fields (form_of command) → ⊥
only_exception fields none (exception s k m t) h = none s k m t h.1
only_exception fields none _ h = search rules

-- two fields and a rest, of which the rest is an integer, or a truth value
pub ends_as : (text s k : List ℕ) (form : LineForm) → IsOfForm text (field s (field k form)) → (rest : List ℕ) × IsOfForm text (field s (field k (rest_of_line rest))) × IsOfForm rest form
ends_as text s k form h = (h.1.2.1.0, (h.0, (h.1.0, h.1.1, (h.1.2.0, (h.1.2.1.0, h.1.2.1.1, refl)))), h.1.2.1.2)

pub ends_with : (text s k rest : List ℕ) (form : LineForm) → IsOfForm text (field s (field k (rest_of_line rest))) → IsOfForm rest form → IsOfForm text (field s (field k form))
ends_with text s k rest form h is = (h.0, (h.1.0, h.1.1, (h.1.2.0, (h.1.2.1.0, h.1.2.1.1, rw h.1.2.1.2 is))))

-- what stands after two fields is determined
pub one_rest : (text s k rest s' k' rest' : List ℕ) → IsOfForm text (field s (field k (rest_of_line rest))) → IsOfForm text (field s' (field k' (rest_of_line rest'))) → rest' ≡ rest
one_rest text s k rest s' k' rest' f g =
    let first = same_field text s f.1.0 s' g.1.0 f.0 g.0 f.1.1 g.1.1 in
    let second = same_field f.1.0 k f.1.2.1.0 k' g.1.2.1.0 f.1.2.0 g.1.2.0 f.1.2.1.1 (rw first.1 g.1.2.1.1) in
    sym g.1.2.1.2 ∙ sym second.1 ∙ f.1.2.1.2

-- the same of three fields
pub ends_as_three : (text s p k : List ℕ) (form : LineForm) → IsOfForm text (field s (field p (field k form))) → (rest : List ℕ) × IsOfForm text (field s (field p (field k (rest_of_line rest)))) × IsOfForm rest form
ends_as_three text s p k form h =
    let inner = ends_as h.1.0 p k form h.1.2 in (inner.0, (h.0, (h.1.0, h.1.1, inner.1)), inner.2)

pub ends_with_three : (text s p k rest : List ℕ) (form : LineForm) → IsOfForm text (field s (field p (field k (rest_of_line rest)))) → IsOfForm rest form → IsOfForm text (field s (field p (field k form)))
ends_with_three text s p k rest form h is = (h.0, (h.1.0, h.1.1, ends_with h.1.0 p k rest form h.1.2 is))

pub one_rest_of_three : (text s p k rest s' p' k' rest' : List ℕ) → IsOfForm text (field s (field p (field k (rest_of_line rest)))) → IsOfForm text (field s' (field p' (field k' (rest_of_line rest')))) → rest' ≡ rest
one_rest_of_three text s p k rest s' p' k' rest' f g =
    let first = same_field text s f.1.0 s' g.1.0 f.0 g.0 f.1.1 g.1.1 in
    one_rest f.1.0 p k rest p' k' rest' f.1.2 (rw first.1 g.1.2)

-- no space stands among digits
pub moment_alone : (text digits rest : List ℕ) (moment : ℕ) → decimal_in text ≡ Some moment → text ≡ digits ++ 32 ∷ rest → ⊥
moment_alone text digits rest moment is e = no_last_field text text digits rest (number_is_field text moment is) refl e

-- after the word of a line stand the fields of each command as which it reads
fields_after : (line word fields : List ℕ) → IsField word → line ≡ word ++ 32 ∷ fields → (command : PlainCommand) → IsOfForm line (form_of command) → HasFields word fields (form_of command)
fields_after line word fields is e flush h = no_last_field line (codes "flush") word fields h.0 h.1 e
fields_after line word fields is e shutdown h = no_last_field line (codes "shutdown") word fields h.0 h.1 e
fields_after line word fields is e _ h =
    let same = same_field line word fields _ h.1.0 is h.0 e h.1.1 in
    (sym same.0, rw same.1 h.1.2)

-- a word, a space and fields
with_fields : (line word fields : List ℕ) → IsField word → line ≡ word ++ 32 ∷ fields → (form : LineForm) → HasFields word fields form → IsOfForm line form
with_fields line word fields is e (field front after) h = (rw h.0 is, (fields, rw h.0 e, h.1))
with_fields line word fields is e _ h = absurd h

-- the word in front of fields is that of the form
word_there : (word fields : List ℕ) (form : LineForm) → HasFields word fields form → word_of form ≡ word
word_there word fields (field front after) h = h.0
word_there word fields _ h = absurd h

-- so it is a word of the dialect where that has the one of the form, and the other way round
with_word : (dialect : Dialect) (word fields : List ℕ) (form : LineForm) → HasFields word fields form → HasWord dialect word → HasWord dialect (word_of form)
with_word dialect word fields form h has = subst (HasWord dialect) (sym (word_there word fields form h)) has

-- each dialect may have the commands of words after which the fields are fixed
may_have_other : (dialect : Dialect) (word fields : List ℕ) → HasFixedFields word → (command : PlainCommand) → HasFields word fields (form_of command) → MayHave dialect (has_more command)
may_have_other dialect word fields other (start s n m k) h = absurd (other.0 (sym h.0))
may_have_other dialect word fields other (child s p n m k) h = absurd (other.1 (sym h.0))
may_have_other dialect word fields other (remote s t n m k) h = absurd (other.2 (sym h.0))
may_have_other dialect word fields other (event_with s n m k v) h = absurd (other.3 (sym h.0))
may_have_other dialect word fields other _ h = tt

pub others_give : (dialect : Dialect) (word fields : List ℕ) → HasFixedFields word → (found : Option Command) → FieldsGive word fields found → FieldsGiveIn dialect word fields found
others_give dialect word fields other None h = λ command there may. h command there
others_give dialect word fields other (Some command) h = (h, may_have_other dialect word fields other (plain_command command) h)

pub others_are : (dialect : Dialect) (word fields : List ℕ) → HasFixedFields word → AreFields word fields → AreFieldsIn dialect word fields
others_are dialect word fields other h = (h.0, h.1, may_have_other dialect word fields other h.0 h.1)

-- what is found after the word is found in the line
pub fields_give_line : (dialect : Dialect) (line word fields : List ℕ) → HasWord dialect word → IsUtf8 line → IsField word → line ≡ word ++ 32 ∷ fields → (found : Option Command) → FieldsGiveIn dialect word fields found → LineGives dialect line found
fields_give_line dialect line word fields has text is e None h = λ command reads. h command (fields_after line word fields is e command reads.1) reads.3
fields_give_line dialect line word fields has text is e (Some command) h =
    let form = form_of (plain_command command) in
    (text, with_fields line word fields is e form h.0, with_word dialect word fields form h.0 has, h.1)

-- fields of a command after the word make the line one
pub fields_make_line : (dialect : Dialect) (line word fields : List ℕ) → HasWord dialect word → IsUtf8 line → IsField word → line ≡ word ++ 32 ∷ fields → AreFieldsIn dialect word fields → IsCommand dialect line
fields_make_line dialect line word fields has text is e h = (h.0, (text, with_fields line word fields is e (form_of h.0) h.1, with_word dialect word fields (form_of h.0) h.1 has, h.2))

-- where the dialect does not have the word, nothing is found
pub no_word_gives_line : (dialect : Dialect) (line word fields : List ℕ) → ¬ (HasWord dialect word) → IsField word → line ≡ word ++ 32 ∷ fields → LineGives dialect line None
no_word_gives_line dialect line word fields lacks is e = λ command reads.
    lacks (subst (HasWord dialect) (word_there word fields (form_of command) (fields_after line word fields is e command reads.1)) reads.2)

-- a line in which no field is followed by a space is the word of each command as which it reads
word_alone : (line : List ℕ) → ((first rest : List ℕ) → IsField first → line ≡ first ++ 32 ∷ rest → ⊥) → (command : PlainCommand) → IsOfForm line (form_of command) → form_of command ≡ last_field line
word_alone line none flush h = ap last_field (sym h.1)
word_alone line none shutdown h = ap last_field (sym h.1)
word_alone line none _ h = search rules

-- a word that is all of a line
alone_reads : (line : List ℕ) (command : PlainCommand) → form_of command ≡ last_field line → IsOfForm line (form_of command)
alone_reads line flush e = ((omega arith, All-from_recursion (λ b. b ≢ 32) (codes "flush") (search rules)), cc)
alone_reads line shutdown e = ((omega arith, All-from_recursion (λ b. b ≢ 32) (codes "shutdown") (search rules)), cc)
alone_reads line _ e = cc

-- each dialect has the words that stand alone
alone_has : (dialect : Dialect) (word : List ℕ) (command : PlainCommand) → form_of command ≡ last_field word → HasWord dialect (word_of (form_of command))
alone_has dialects.Extended word command e = tt
alone_has dialects.Plain word flush e = search rules
alone_has dialects.Plain word shutdown e = search rules
alone_has dialects.Plain word _ e = cc

-- each dialect may have the commands of such words
alone_may : (dialect : Dialect) (word : List ℕ) (command : PlainCommand) → form_of command ≡ last_field word → MayHave dialect (has_more command)
alone_may dialect word flush e = tt
alone_may dialect word shutdown e = tt
alone_may dialect word _ e = cc

-- what is found of the word is found in the line
pub word_gives_line : (dialect : Dialect) (line : List ℕ) → IsUtf8 line → ((first rest : List ℕ) → IsField first → line ≡ first ++ 32 ∷ rest → ⊥) → (found : Option Command) → WordGives line found → LineGives dialect line found
word_gives_line dialect line text none None h = λ command reads. h command (word_alone line none command reads.1)
word_gives_line dialect line text none (Some command) h = (text, alone_reads line (plain_command command) h, alone_has dialect line (plain_command command) h, alone_may dialect line (plain_command command) h)
