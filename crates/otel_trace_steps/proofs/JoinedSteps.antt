-- Steps of texts that are joined at a line's end.
use Rattle.std.proofs.Common.{◌≡◌, ℕ, ◌+◌, List, [], ◌∷◌, ◌++◌, length, Option, None, Some, inl, inr, refl, sym, ap, subst, ◌∙◌, arith}
use Rattle.std.proofs.lemmas.List.{append_assoc}
use Rattle.std.specs.Prelude.{option_map}
use Rattle.std.specs.Io.{IsEmptyOrEndsWith}
use Rattle.std.specs.Str.Lines.{lines}
use Rattle.otel_batch.specs.MachineState.{Machine}
use Rattle.otel_export.specs.StoredBatches.{StoredBatches}
use Rattle.otel_trace_lines.proofs.JoinedLines.{lines_joined}
use Rattle.otel_trace_steps.specs.StepAnswers.{AnswersBeginning, AnswersLines, BeginsAnswers, ObeysEach}
use Rattle.otel_trace_steps.proofs.StepFollowing.{obeys_append}

-- lines after others are counted on
counted_on : (m after : Machine StoredBatches) (before number : ℕ) (all : List (List ℕ)) (bad_line : Option ℕ) (answers : List ℕ) → ObeysEach m number all bad_line answers after
    → ObeysEach m (before + number) all (option_map (λ n. before + n) bad_line) answers after
counted_on m after before number [] bad_line answers h = (ap (option_map (λ n. before + n)) h.0, h.1, h.2)
counted_on m after before number ([] ∷ more) bad_line answers h =
    let next : before + (number + 1) ≡ (before + number) + 1 = omega arith in
    subst (λ (n : ℕ). ObeysEach m n more (option_map (λ n. before + n) bad_line) answers after) next (counted_on m after before (number + 1) more bad_line answers h)
counted_on m after before number ((b ∷ bytes) ∷ more) bad_line answers (inl h) =
    let next : before + (number + 1) ≡ (before + number) + 1 = omega arith in
    inl (record {
      is_bad = h.is_bad;
      numbered = ap (option_map (λ n. before + n)) h.numbered ∙ ap Some next;
      says_nothing = h.says_nothing;
      stays = h.stays;
    })
counted_on m after before number ((b ∷ bytes) ∷ more) bad_line answers (inr h) =
    let next : before + (number + 1) ≡ (before + number) + 1 = omega arith in
    inr (record {
      order = h.order;
      answer = h.answer;
      rest = h.rest;
      next = h.next;
      reads = h.reads;
      obeys = h.obeys;
      others = subst (λ (n : ℕ). ObeysEach h.next n more (option_map (λ n. before + n) bad_line) h.rest after) next (counted_on h.next after before (number + 1) more bad_line h.rest h.others);
      joined = h.joined;
    })

-- lines of two texts
each_joined : (m middle after : Machine StoredBatches) (first second : List (List ℕ)) (bad_line : Option ℕ) (answers more : List ℕ) → ObeysEach m 0 first None answers middle → ObeysEach middle 0 second bad_line more after
    → ObeysEach m 0 (first ++ second) (option_map (λ n. length first + n) bad_line) (answers ++ more) after
each_joined m middle after first second bad_line answers more h k =
    let later : length first + 0 ≡ 0 + length first = omega arith in
    obeys_append m middle after 0 first second (option_map (λ n. length first + n) bad_line) answers more h
    (subst (λ (n : ℕ). ObeysEach middle n second (option_map (λ n. length first + n) bad_line) more after) later (counted_on middle after (length first) 0 second bad_line more k))

-- a text with no bad line, and another after its end
pub answers_joined : (m middle after : Machine StoredBatches) (first second : List ℕ) (bad_line : Option ℕ) (answers more : List ℕ) → IsEmptyOrEndsWith first 10 → AnswersLines m first None answers middle → AnswersLines middle second bad_line more after
    → AnswersLines m (first ++ second) (option_map (λ n. length (lines first) + n) bad_line) (answers ++ more) after
answers_joined m middle after first second bad_line answers more ends h k =
    subst (λ (all : List (List ℕ)). ObeysEach m 0 all (option_map (λ n. length (lines first) + n) bad_line) (answers ++ more) after) (sym (lines_joined first second ends))
    (each_joined m middle after (lines first) (lines second) bad_line answers more h k)

-- what stands after a bad line is not read
bad_before : (m after : Machine StoredBatches) (number : ℕ) (first second : List (List ℕ)) (line : ℕ) (answers : List ℕ) → ObeysEach m number first (Some line) answers after → ObeysEach m number (first ++ second) (Some line) answers after
bad_before m after number [] second line answers h = let none : Some line ≡ None = h.0 in let never : ⊥ = cc in absurd never
bad_before m after number ([] ∷ first) second line answers h = bad_before m after (number + 1) first second line answers h
bad_before m after number ((b ∷ bytes) ∷ first) second line answers (inl h) = inl h
bad_before m after number ((b ∷ bytes) ∷ first) second line answers (inr h) =
    inr (record {
      order = h.order;
      answer = h.answer;
      rest = h.rest;
      next = h.next;
      reads = h.reads;
      obeys = h.obeys;
      others = bad_before h.next after (number + 1) first second line h.rest h.others;
      joined = h.joined;
    })

pub bad_answers_joined : (m after : Machine StoredBatches) (first second : List ℕ) (line : ℕ) (answers : List ℕ) → IsEmptyOrEndsWith first 10 → AnswersLines m first (Some line) answers after → AnswersLines m (first ++ second) (Some line) answers after
bad_answers_joined m after first second line answers ends h =
    subst (λ (all : List (List ℕ)). ObeysEach m 0 all (Some line) answers after) (sym (lines_joined first second ends)) (bad_before m after 0 (lines first) (lines second) line answers h)

-- the lines in front of a bad one, or all
obeyed_front : (m after : Machine StoredBatches) (number : ℕ) (all : List (List ℕ)) (bad_line : Option ℕ) (answers : List ℕ) → ObeysEach m number all bad_line answers after
    → (done : List (List ℕ)) × (left : List (List ℕ)) × (all ≡ done ++ left) × ObeysEach m number done None answers after
obeyed_front m after number [] bad_line answers h = ([], [], refl, (refl, h.1, h.2))
obeyed_front m after number ([] ∷ more) bad_line answers h =
    let front = obeyed_front m after (number + 1) more bad_line answers h in ([] ∷ front.0, front.1, ap (λ ls. [] ∷ ls) front.2, front.3)
obeyed_front m after number ((b ∷ bytes) ∷ more) bad_line answers (inl h) = ([], (b ∷ bytes) ∷ more, refl, (refl, h.says_nothing, h.stays))
obeyed_front m after number ((b ∷ bytes) ∷ more) bad_line answers (inr h) =
    let front = obeyed_front h.next after (number + 1) more bad_line h.rest h.others in (
      (b ∷ bytes) ∷ front.0,
      front.1,
      ap (λ ls. (b ∷ bytes) ∷ ls) front.2,
      inr (record {
        order = h.order;
        answer = h.answer;
        rest = h.rest;
        next = h.next;
        reads = h.reads;
        obeys = h.obeys;
        others = front.3;
        joined = h.joined;
      }),
    )

-- a text whose lines were followed begins to be answered, whatever stands after it
pub answers_begin : (m after : Machine StoredBatches) (text : List ℕ) (bad_line : Option ℕ) (answers : List ℕ) → AnswersLines m text bad_line answers after → BeginsAnswers m text answers
answers_begin m after text bad_line answers h =
    let front = obeyed_front m after 0 (lines text) bad_line answers h in
    record { done = front.0; left = front.1; after = after; parts = front.2; obeyed = front.3 }

-- and so does one of which a beginning was
pub beginning_begins : (m after : Machine StoredBatches) (text answers : List ℕ) → AnswersBeginning m text answers after → BeginsAnswers m text answers
beginning_begins m after text answers h = record { done = h.done; left = h.last ∷ h.left; after = h.middle; parts = h.parts; obeyed = h.obeyed }

-- a text after one whose lines were followed
pub begins_joined : (m middle : Machine StoredBatches) (first second answers more : List ℕ) → IsEmptyOrEndsWith first 10 → AnswersLines m first None answers middle → BeginsAnswers middle second more
    → BeginsAnswers m (first ++ second) (answers ++ more)
begins_joined m middle first second answers more ends h k = record {
  done = lines first ++ k.done;
  left = k.left;
  after = k.after;
  parts = lines_joined first second ends ∙ ap (λ ls. lines first ++ ls) k.parts ∙ sym (append_assoc (lines first) k.done k.left);
  obeyed = each_joined m middle k.after (lines first) k.done None answers more h k.obeyed;
}

-- a text in front of another
pub begins_longer : (m : Machine StoredBatches) (first second answers : List ℕ) → IsEmptyOrEndsWith first 10 → BeginsAnswers m first answers → BeginsAnswers m (first ++ second) answers
begins_longer m first second answers ends h = record {
  done = h.done;
  left = h.left ++ lines second;
  after = h.after;
  parts = lines_joined first second ends ∙ ap (λ ls. ls ++ lines second) h.parts ∙ append_assoc h.done h.left (lines second);
  obeyed = h.obeyed;
}
