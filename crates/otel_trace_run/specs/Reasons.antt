-- Why lines read as no commands of the extended grammar, and how that is said.
use Rattle.std.specs.Prelude.{◌≡◌, ◌≢◌, ◌⊎◌, ℕ, zero, suc, ◌+◌, List, [], ◌∷◌, ◌++◌, Bool, true, false, Option, Some, None, IsUtf8, codes, length}
use Rattle.std.specs.Fmt.{decimal}
use Rattle.std.specs.Str.Lines.{lines}
use Rattle.otel_trace_lines.specs.Lines.{IsField}
use Rattle.otel_trace_lines.specs.Numbers.{decimal_in}
use Rattle.otel_trace_run.specs.Arguments.{bad_line_text}
use Rattle.otel_trace_run.specs.declared.reason.Reason.{Reason}
use Rattle.otel_trace_run.specs.declared.reason.Reason.TheVariants as reasons

-- what may stand after the moment of a start
abbrev pub maybe_kind : List ℕ
maybe_kind = codes ", and maybe internal, server, client, producer or consumer"

-- how a reason is said
abbrev pub reason_text : Reason → List ℕ
reason_text reasons.NotUtf8 = codes "its bytes are not UTF-8"
reason_text reasons.NoCommand = codes "no command has this word"
reason_text reasons.Start = codes "start wants a span, a name, a moment" ++ maybe_kind
reason_text reasons.Child = codes "child wants a span, a parent, a name, a moment" ++ maybe_kind
reason_text reasons.Remote = codes "remote wants a span, a traceparent, a name, a moment" ++ maybe_kind
reason_text reasons.Attr = codes "attr wants a span, a key and a value"
reason_text reasons.Event = codes "event wants a span, a name, a moment, and maybe a key and a value"
reason_text reasons.Status = codes "status wants a span, and ok, or error and a text"
reason_text reasons.Inject = codes "inject wants a span"
reason_text reasons.End = codes "end wants a span and a moment"
reason_text reasons.Run = codes "run wants a moment"
reason_text reasons.Int = codes "int wants a span, a key and an integer of 64 bits"
reason_text reasons.Bool = codes "bool wants a span, a key, and true or false"
reason_text reasons.Float = codes "float wants a span, a key and a number, maybe with a point and an exponent"
reason_text reasons.Link = codes "link wants a span, and the span that it points to"
reason_text reasons.Exception = codes "exception wants a span, a type, a moment and a text"
reason_text reasons.Forget = codes "forget wants a span"
reason_text reasons.Number = codes "a moment is digits alone, at most 18446744073709551615"
reason_text reasons.FieldTooMany = codes "a field too many"
reason_text reasons.SpaceTooMany = codes "a space too many"

-- a text begins with a space, or has two in a row or one at its end after its first field
abbrev pub HasSpareSpace : List ℕ → Type 0
HasSpareSpace text = ((more : List ℕ) × (text ≡ 32 ∷ more))
    ⊎ ((field : List ℕ) × (after : List ℕ) × (text ≡ field ++ 32 ∷ after)
    × ((after ≡ []) ⊎ ((more : List ℕ) × (after ≡ 32 ∷ more))))

-- a reason that does not depend on the command, where a field is to stand last
abbrev pub ExplainsRest : List ℕ → Reason → Type 0
ExplainsRest rest reasons.FieldTooMany =
    (field : List ℕ) × (after : List ℕ) × IsField field × (rest ≡ field ++ 32 ∷ after)
ExplainsRest rest reasons.SpaceTooMany = HasSpareSpace rest
ExplainsRest rest _ = ⊥

-- fields end in these: they are all, or others stand in front of them
abbrev pub EndsIn : List ℕ → List ℕ → Type 0
EndsIn fields rest = (fields ≡ rest) ⊎ ((front : List ℕ) × (fields ≡ front ++ 32 ∷ rest))

-- so many fields stand in front of a rest, each before a space
abbrev pub StandBefore : ℕ → List ℕ → List ℕ → Type 0
StandBefore zero fields rest = fields ≡ rest
StandBefore (suc count) fields rest = (field : List ℕ) × (middle : List ℕ) × StandBefore count fields middle
    × (middle ≡ field ++ 32 ∷ rest)

-- what stands in the place of a moment, after so many fields, does not begin with one
pub record MisreadsMoment (count : ℕ) (fields : List ℕ) : Type 0 where
  pub rest : List ℕ
  pub place : StandBefore count fields rest
  pub unread : decimal_in rest ≡ None

-- how many fields stand before the moment that a command wants, if it wants one; the command by what it wants
abbrev pub moment_place : Reason → Option ℕ
moment_place reasons.Run = Some 0
moment_place reasons.End = Some 1
moment_place reasons.Start = Some 2
moment_place reasons.Event = Some 2
moment_place reasons.Child = Some 3
moment_place reasons.Remote = Some 3
moment_place _ = None

-- something is missing among the fields of a command, which is said so; or such a reason holds of the last of them
abbrev pub ExplainsFields : List ℕ → Reason → Reason → Type 0
ExplainsFields fields wants reason =
    (reason ≡ wants) ⊎ ((rest : List ℕ) × EndsIn fields rest × ExplainsRest rest reason)

-- the same where a moment is wanted after so many fields, which may be misread
abbrev pub ExplainsMoment : ℕ → List ℕ → Reason → Reason → Type 0
ExplainsMoment count fields wants reason =
    ExplainsFields fields wants reason ⊎ ((reason ≡ reasons.Number) × MisreadsMoment count fields)

-- the reason that a word gives: that of its command, that nothing may stand after it, or that it is no command's
abbrev pub ExplainsWord : List ℕ → Reason → Type 0
ExplainsWord word reasons.Start = word ≡ codes "start"
ExplainsWord word reasons.Child = word ≡ codes "child"
ExplainsWord word reasons.Remote = word ≡ codes "remote"
ExplainsWord word reasons.Attr = word ≡ codes "attr"
ExplainsWord word reasons.Event = word ≡ codes "event"
ExplainsWord word reasons.Status = word ≡ codes "status"
ExplainsWord word reasons.Inject = word ≡ codes "inject"
ExplainsWord word reasons.End = word ≡ codes "end"
ExplainsWord word reasons.Run = word ≡ codes "run"
ExplainsWord word reasons.Int = word ≡ codes "int"
ExplainsWord word reasons.Bool = word ≡ codes "bool"
ExplainsWord word reasons.Float = word ≡ codes "float"
ExplainsWord word reasons.Link = word ≡ codes "link"
ExplainsWord word reasons.Exception = word ≡ codes "exception"
ExplainsWord word reasons.Forget = word ≡ codes "forget"
ExplainsWord word reasons.NoCommand = (word ≢ codes "start") × (word ≢ codes "child") × (word ≢ codes "remote")
    × (word ≢ codes "attr") × (word ≢ codes "event") × (word ≢ codes "status") × (word ≢ codes "inject")
    × (word ≢ codes "end") × (word ≢ codes "run") × (word ≢ codes "flush") × (word ≢ codes "shutdown")
    × (word ≢ codes "int") × (word ≢ codes "bool") × (word ≢ codes "float") × (word ≢ codes "link")
    × (word ≢ codes "exception") × (word ≢ codes "forget")
ExplainsWord word reasons.FieldTooMany = (word ≡ codes "flush") ⊎ (word ≡ codes "shutdown")
ExplainsWord word _ = ⊥

-- a word's command wants a moment, and what stands in its place is none
abbrev pub MisreadsAfter : List ℕ → List ℕ → Type 0
MisreadsAfter word fields = (wants : Reason) × (count : ℕ) × ExplainsWord word wants
    × (moment_place wants ≡ Some count) × MisreadsMoment count fields

-- the reason for a word and the fields after it: that of its command, one that holds of the last of the fields, or that
-- the moment of the command is none
abbrev pub ExplainsAfter : List ℕ → List ℕ → Reason → Type 0
ExplainsAfter word fields reason = ExplainsWord word reason
    ⊎ (((rest : List ℕ) × EndsIn fields rest × ExplainsRest rest reason)
    ⊎ ((reason ≡ reasons.Number) × MisreadsAfter word fields))

-- why a text is no line of a command
abbrev pub ExplainsText : List ℕ → Reason → Type 0
ExplainsText text reason = ExplainsWord text reason
    ⊎ (((more : List ℕ) × (text ≡ 32 ∷ more) × (reason ≡ reasons.SpaceTooMany))
    ⊎ ((word : List ℕ) × (fields : List ℕ) × IsField word × (text ≡ word ++ 32 ∷ fields)
    × ExplainsAfter word fields reason))

-- why a line reads as no command
abbrev pub Explains : List ℕ → Reason → Type 0
Explains line reason = ((reason ≡ reasons.NotUtf8) × ¬ IsUtf8 line) ⊎ (IsUtf8 line × ExplainsText line reason)

-- line n of a text, counted from 1
pub record IsLineAt (text : List ℕ) (n : ℕ) (line : List ℕ) : Type 0 where
  pub before : List (List ℕ)
  pub after : List (List ℕ)
  pub parts : lines text ≡ before ++ line ∷ after
  pub number : n ≡ length before + 1

-- why line n of a text reads as no command
pub record IsReasonAt (text : List ℕ) (n : ℕ) (reason : Reason) : Type 0 where
  pub line : List ℕ
  pub at : IsLineAt text n line
  pub explains : Explains line reason

-- what is said of a bad line, with the reason
abbrev pub reasoned_text : ℕ → Reason → List ℕ
reasoned_text line reason = codes "line " ++ (decimal line ++ (codes ": " ++ (reason_text reason ++ 10 ∷ [])))

-- this is said of a bad line, with its reason where reasons are said and it has one
abbrev pub IsFault : (says_reasons : Bool) → ℕ → Option Reason → List ℕ → Type 0
IsFault false line reason text = text ≡ bad_line_text line
IsFault true line None text = text ≡ bad_line_text line
IsFault true line (Some reason) text = text ≡ reasoned_text line reason
