-- A stream of steps: what was answered so far, and what a piece more does.
use Rattle.std.proofs.Common.{◌≡◌, ℕ, ◌+◌, Bool, true, false, List, [], ◌++◌, length, Option, None, Some, inl, inr, refl, sym, ap, subst, ◌∙◌, arith, append-nil, length-append}
use Rattle.std.specs.Prelude.{◌⊎◌, IfOk, OnErr, Result, Ok, Err}
use Rattle.std.proofs.KnownBytes.{Appends-nil, Appends-trans, Consumes-nil}
use Rattle.std.specs.Io.{IsEmptyOrEndsWith}
use Rattle.std.specs.Io.KnownBytes.{Appends, Consumes, IsAtEnd}
use Rattle.std.specs.Str.Lines.{lines}
use Rattle.otel_batch.specs.MachineState.{Machine}
use Rattle.otel_export.specs.StoredBatches.{StoredBatches}
use Rattle.otel_trace_lines.proofs.JoinedLines.{lines_joined}
use Rattle.otel_export.specs.Streams.{AppendsBeginning}
use Rattle.otel_export.proofs.StreamLemmas.{appends_after, appends_all}
use Rattle.otel_trace_session.specs.Pieces.{GivesLines, KeepsAll, PlainPieces}
use Rattle.otel_trace_run.specs.StepRuns.{Steps, StepsAll, StepsOn, StepsSome, StepsTo}
use Rattle.otel_trace_run.specs.Streams.{EndsAs, Streams, streams}
use Rattle.otel_trace_run.specs.declared.run_end.RunEnd.{RunEnd}
use Rattle.otel_trace_run.specs.declared.run_end.RunEnd.TheVariants as ends
use Rattle.otel_trace_run.proofs.Cut.{IsCut, cut_given, cut_last, cut_piece, ends_joined, holds_of_all, nothing_ends, read_on_from}
use Rattle.otel_trace_steps.specs.StepAnswers.{AnswersBeginning, AnswersLines, BeginsAnswers}
use Rattle.otel_trace_steps.proofs.JoinedSteps.{answers_begin, beginning_begins, answers_joined, bad_answers_joined, begins_joined, begins_longer}

-- so many lines were given and answered, and a rest was read after them
pub record HasStepped (start now : Machine StoredBatches) (s : Streams) (rest : List ℕ) (number : ℕ) : Type 0 where
  pub given : List ℕ
  pub answers : List ℕ
  pub read : Consumes s.input s.input_after (given ++ rest)
  pub ends : IsEmptyOrEndsWith given 10
  pub answered : AnswersLines start given None answers now
  pub written : Appends s.output s.output_after answers
  pub counted : number ≡ length (lines given)

-- none was given yet
pub stepped_none : (start : Machine StoredBatches) (input output : Option (List ℕ)) → HasStepped start start (streams input input output output) [] 0
stepped_none start input output = record {
  given = [];
  answers = [];
  read = Consumes-nil input;
  ends = nothing_ends;
  answered = (refl, refl, refl);
  written = Appends-nil output;
  counted = refl;
}

-- answers to a beginning of what is given are answers to a beginning of the whole
begun : (start : Machine StoredBatches) (s : Streams) (text answers : List ℕ) → IsCut s.input text → BeginsAnswers start text answers → AppendsBeginning s.output s.output_after answers → StepsSome start s
begun start s text answers cut h written = record {
  bytes = text ++ cut.after;
  answers = answers;
  all = cut.all;
  begun = holds_of_all (λ bs. BeginsAnswers start bs answers) s.input text cut (λ later ends k. begins_longer start text later answers ends k) h;
  written = written;
}

-- no machine was made
pub begun_none : (start : Machine StoredBatches) (input output : Option (List ℕ)) → StepsSome start (streams input input output output)
unfolding stepped_none
begun_none start input output =
    let h = stepped_none start input output in
    begun start (streams input input output output) [] [] (cut_given input input [] [] h.read h.ends) (answers_begin start start [] None [] h.answered) (appends_all output output [] h.written)

-- reading gives up
pub begun_reading : (start : Machine StoredBatches) (now : Machine StoredBatches) (input here after output output_after : Option (List ℕ)) (rest : List ℕ) (number : ℕ) (piece : PlainPieces)
    → HasStepped start now (streams input here output output_after) rest number → KeepsAll here after rest piece → StepsSome start (streams input after output output_after)
begun_reading start now input here after output output_after rest number piece h k =
    let read : Consumes input after (h.given ++ piece.rest) =
    subst (λ (bs : List ℕ). Consumes input after (bs ++ piece.rest)) (append-nil h.given) (read_on_from input here after h.given rest k.read [] piece.rest h.read k.consumed k.joined) in
    begun start (streams input after output output_after) h.given h.answers (cut_given input after h.given piece.rest read h.ends) (answers_begin start now h.given None h.answers h.answered) (appends_all output output_after h.answers h.written)

-- answering or writing gives up
pub begun_answering : (start : Machine StoredBatches) (now : Machine StoredBatches) (input here after output reached output_after : Option (List ℕ)) (rest : List ℕ) (number : ℕ) (goes_on : Bool) (piece : PlainPieces) (more : List ℕ)
    → HasStepped start now (streams input here output reached) rest number → GivesLines here after rest goes_on piece → BeginsAnswers now piece.lines more
    → AppendsBeginning reached output_after more → StepsSome start (streams input after output output_after)
begun_answering start now input here after output reached output_after rest number goes_on piece more h g k written =
    begun start (streams input after output output_after) (h.given ++ piece.lines) (h.answers ++ more) (cut_piece input here after h.given rest goes_on piece h.read h.ends g)
    (begins_joined start now h.given piece.lines h.answers more h.ends h.answered k)
    (appends_after output reached output_after h.answers more h.written written)

-- there are more lines than can be counted
pub begun_counting : (start : Machine StoredBatches) (now next : Machine StoredBatches) (input here after output reached output_after : Option (List ℕ)) (rest : List ℕ) (number : ℕ) (goes_on : Bool) (piece : PlainPieces) (bad_line : Option ℕ)
    (more : List ℕ) → HasStepped start now (streams input here output reached) rest number → GivesLines here after rest goes_on piece → AnswersLines now piece.lines bad_line more next
    → Appends reached output_after more → StepsSome start (streams input after output output_after)
begun_counting start now next input here after output reached output_after rest number goes_on piece bad_line more h g k written =
    begun_answering start now input here after output reached output_after rest number goes_on piece more h g (answers_begin now next piece.lines bad_line more k) (appends_all reached output_after more written)

-- turns run out
pub begun_turning : (start : Machine StoredBatches) (now : Machine StoredBatches) (s : Streams) (rest : List ℕ) (number : ℕ) → HasStepped start now s rest number → StepsSome start s
begun_turning start now s rest number h =
    begun start s h.given h.answers (cut_given s.input s.input_after h.given rest h.read h.ends) (answers_begin start now h.given None h.answers h.answered) (appends_all s.output s.output_after h.answers h.written)

-- a piece more is answered
pub stepped_more : (start now next : Machine StoredBatches) (input here after output reached output_after : Option (List ℕ)) (rest : List ℕ) (number count : ℕ) (goes_on : Bool) (piece : PlainPieces) (more : List ℕ)
    → HasStepped start now (streams input here output reached) rest number → GivesLines here after rest goes_on piece → goes_on ≡ true → AnswersLines now piece.lines None more next
    → Appends reached output_after more → count ≡ number + length (lines piece.lines) → HasStepped start next (streams input after output output_after) piece.rest count
stepped_more start now next input here after output reached output_after rest number count goes_on piece more h g is k written counted =
    let ends : IsEmptyOrEndsWith piece.lines 10 = (g.some is).1 in
    record {
      given = h.given ++ piece.lines;
      answers = h.answers ++ more;
      read = read_on_from input here after h.given rest g.read piece.lines piece.rest h.read g.consumed g.joined;
      ends = ends_joined h.given piece.lines h.ends ends;
      answered = answers_joined start now next h.given piece.lines None h.answers more h.ends h.answered k;
      written = Appends-trans output reached output_after h.answers more h.written written;
      counted =
          let before : number ≡ length (lines h.given) = h.counted in
          let joined : length (lines (h.given ++ piece.lines)) ≡ length (lines h.given ++ lines piece.lines) = ap length (lines_joined h.given piece.lines h.ends) in
          omega (arith, before, counted, joined, length-append (lines h.given) (lines piece.lines));
    }

-- the last piece is answered
pub stepped_all : (start : Machine StoredBatches) (now next : Machine StoredBatches) (input here after output reached output_after : Option (List ℕ)) (rest : List ℕ) (number : ℕ) (goes_on : Bool) (piece : PlainPieces) (more : List ℕ)
    → HasStepped start now (streams input here output reached) rest number → GivesLines here after rest goes_on piece → goes_on ≡ false → AnswersLines now piece.lines None more next
    → Appends reached output_after more → StepsTo start next (streams input after output output_after) None × IsAtEnd after
stepped_all start now next input here after output reached output_after rest number goes_on piece more h g is k written =
    let last = cut_last input here after h.given rest goes_on piece is h.read g in (
      record {
        bytes = h.given ++ piece.lines;
        answers = h.answers ++ more;
        all = last.0;
        answered = answers_joined start now next h.given piece.lines None h.answers more h.ends h.answered k;
        written = Appends-trans output reached output_after h.answers more h.written written;
      },
      last.1,
    )

-- a line of a piece is bad
pub stepped_bad : (start : Machine StoredBatches) (now next : Machine StoredBatches) (input here after output reached output_after : Option (List ℕ)) (rest : List ℕ) (number line : ℕ) (goes_on : Bool) (piece : PlainPieces) (more : List ℕ)
    → HasStepped start now (streams input here output reached) rest number → GivesLines here after rest goes_on piece → AnswersLines now piece.lines (Some line) more next
    → Appends reached output_after more → StepsTo start next (streams input after output output_after) (Some (number + line))
stepped_bad start now next input here after output reached output_after rest number line goes_on piece more h g k written =
    let cut = cut_piece input here after h.given rest goes_on piece h.read h.ends g in
    let text = h.given ++ piece.lines in
    let all = h.answers ++ more in
    let bad : AnswersLines start text (Some (number + line)) all next =
    subst (λ (n : ℕ). AnswersLines start text (Some (n + line)) all next) (sym h.counted) (answers_joined start now next h.given piece.lines (Some line) h.answers more h.ends h.answered k) in
    record {
      bytes = text ++ cut.after;
      answers = all;
      all = cut.all;
      answered = holds_of_all (λ bs. AnswersLines start bs (Some (number + line)) all next) input text cut (λ later ends h. bad_answers_joined start next text later (number + line) all ends h) bad;
      written = Appends-trans output reached output_after h.answers more h.written written;
    }

-- what answers lines, whether or not memory ran out, answers a beginning of them
pub answered_begins : {E : Type 0} (r : Result (Option ℕ) E) (m after : Machine StoredBatches) (text before now : List ℕ) → before ≡ []
    → IfOk r (λ bad_line. (answers : List ℕ) × (now ≡ before ++ answers) × AnswersLines m text bad_line answers after)
    → OnErr r ((answers : List ℕ) × (now ≡ before ++ answers) × AnswersBeginning m text answers after) → BeginsAnswers m text now
answered_begins (Ok bad_line) m after text before now none h k =
    subst (BeginsAnswers m text) (sym (h.1 ∙ ap (λ bs. bs ++ h.0) none)) (answers_begin m after text bad_line h.0 h.2)
answered_begins (Err e) m after text before now none h k =
    subst (BeginsAnswers m text) (sym (k.1 ∙ ap (λ bs. bs ++ k.0) none)) (beginning_begins m after text k.0 k.2)

-- how it ends at a bad line
pub ends_bad : (Whole : Option ℕ → Type 0) (Begun : Type 0) (s : Streams) (line : ℕ) (end : RunEnd) → (end ≡ ends.Failed) ⊎ (end ≡ ends.BadLine line None) → Whole (Some line) → Begun → EndsAs false Whole ⊥ Begun s end
ends_bad Whole Begun s line end (inl failed) h k = subst (EndsAs false Whole ⊥ Begun s) (sym failed) k
ends_bad Whole Begun s line end (inr bad) h k = subst (EndsAs false Whole ⊥ Begun s) (sym bad) (h, refl)

-- all answers are a beginning of them
to_begun : (start after : Machine StoredBatches) (s : Streams) (bad_line : Option ℕ) → StepsTo start after s bad_line → StepsSome start s
to_begun start after s bad_line h = record {
  bytes = h.bytes;
  answers = h.answers;
  all = h.all;
  begun = answers_begin start after h.bytes bad_line h.answers h.answered;
  written = appends_all s.output s.output_after h.answers h.written;
}

pub all_begun : (start : Machine StoredBatches) (s : Streams) (bad_line : Option ℕ) → StepsAll start s bad_line → StepsSome start s
all_begun start s bad_line h = to_begun start h.after s bad_line h.steps

-- however it ended
pub ended_begun : (start after : Machine StoredBatches) (s : Streams) (end : RunEnd) → StepsOn start after s end → StepsSome start s
ended_begun start after s ends.Done h = to_begun start after s None h.0
ended_begun start after s ends.Empty h = absurd h.0
ended_begun start after s (ends.BadLine line reason) h = to_begun start after s (Some line) h.0
ended_begun start after s ends.Failed h = h

-- where the exporter lost no batch
pub ended_whole : (start after : Machine StoredBatches) (s : Streams) (end : RunEnd) → after.exporter.lost ≡ 0 → StepsOn start after s end → Steps start s end
ended_whole start after s ends.Done none h = (record { after = after; steps = h.0; loses_none = none }, h.1)
ended_whole start after s ends.Empty none h = absurd h.0
ended_whole start after s (ends.BadLine line reason) none h = (record { after = after; steps = h.0; loses_none = none }, h.1)
ended_whole start after s ends.Failed none h = h
