-- Lines of steps, followed one by one.
use Rattle.std.proofs.Common.{◌≡◌, ◌≢◌, ℕ, suc, ◌+◌, List, [], ◌∷◌, ◌++◌, length, Option, None, Some, inl, inr, refl, sym, ap, subst, ◌∙◌, arith, length-append}
use Rattle.std.proofs.lemmas.List.{append_assoc, append-nil}
use Rattle.std.specs.Str.Lines.{lines}
use Rattle.otel_batch.specs.MachineState.{Machine}
use Rattle.otel_export.specs.StoredBatches.{StoredBatches}
use Rattle.otel_trace_steps.specs.StepAnswers.{AnswersBeginning, AnswersLines, MayObey, ObeysEach, Obeys}
use Rattle.otel_trace_steps.specs.StepLines.{ReadsOrder}
use Rattle.otel_trace_steps.specs.StepTexts.{outcome_text, state_text}
use Rattle.otel_trace_steps.specs.declared.steps.step_lines.Order.{Order}
use Rattle.otel_trace_steps.specs.declared.steps.step_lines.Order.TheVariants as orders

-- lines, and others after them
pub obeys_append : (m middle after : Machine StoredBatches) (number : ℕ) (done more : List (List ℕ)) (bad_line : Option ℕ) (answers rest : List ℕ) → ObeysEach m number done None answers middle → ObeysEach middle (number + length done) more bad_line rest after
    → ObeysEach m number (done ++ more) bad_line (answers ++ rest) after
obeys_append m middle after number [] more bad_line answers rest h f =
    let none : number + 0 ≡ number = omega arith in
    subst (λ (a : List ℕ). ObeysEach m number more bad_line (a ++ rest) after) (sym h.1)
    (subst (λ (s : Machine StoredBatches). ObeysEach s number more bad_line rest after) h.2
    (subst (λ (n : ℕ). ObeysEach middle n more bad_line rest after) none f))
obeys_append m middle after number ([] ∷ done) more bad_line answers rest h f =
    let one : number + suc (length done) ≡ (number + 1) + length done = omega arith in
    obeys_append m middle after (number + 1) done more bad_line answers rest h (subst (λ (n : ℕ). ObeysEach middle n more bad_line rest after) one f)
obeys_append m middle after number ((b ∷ bytes) ∷ done) more bad_line answers rest (inl h) f =
    let numbered : None ≡ Some (number + 1) = h.numbered in let no : ⊥ = cc in absurd no
obeys_append m middle after number ((b ∷ bytes) ∷ done) more bad_line answers rest (inr h) f =
    let one : number + suc (length done) ≡ (number + 1) + length done = omega arith in
    inr (record {
      order = h.order;
      answer = h.answer;
      rest = h.rest ++ rest;
      next = h.next;
      reads = h.reads;
      obeys = h.obeys;
      others = obeys_append h.next middle after (number + 1) done more bad_line h.rest rest h.others (subst (λ (n : ℕ). ObeysEach middle n more bad_line rest after) one f);
      joined = ap (λ (a : List ℕ). a ++ rest) h.joined ∙ append_assoc h.answer h.rest rest;
    })

-- so many lines of a text were obeyed and answered, and rest stands after them
pub record HasFollowed (start now : Machine StoredBatches) (text rest before out : List ℕ) (number : ℕ) : Type 0 where
  pub done : List (List ℕ)
  pub written : List ℕ
  pub parts : lines text ≡ done ++ lines rest
  pub counted : number ≡ length done
  pub appended : out ≡ before ++ written
  pub obeyed : ObeysEach start 0 done None written now

-- none was followed yet
pub followed_none : (start : Machine StoredBatches) (text before : List ℕ) → HasFollowed start start text text before before 0
followed_none start text before = record { done = []; written = []; parts = refl; counted = refl; appended = sym (append-nil before); obeyed = (refl, refl, refl) }

-- one more
follow_one : (start now next : Machine StoredBatches) (text rest line later before out longer answer : List ℕ) (number : ℕ) → HasFollowed start now text rest before out number → lines rest ≡ line ∷ lines later
    → ((n : ℕ) → ObeysEach now n (line ∷ []) None answer next) → longer ≡ out ++ answer → HasFollowed start next text later before longer (number + 1)
follow_one start now next text rest line later before out longer answer number h parts one e = record {
  done = h.done ++ line ∷ [];
  written = h.written ++ answer;
  parts = h.parts ∙ ap (λ (l : List (List ℕ)). h.done ++ l) parts ∙ sym (append_assoc h.done (line ∷ []) (lines later));
  counted = let counted : number ≡ length h.done = h.counted in omega (arith, length-append h.done (line ∷ []));
  appended = e ∙ ap (λ (o : List ℕ). o ++ answer) h.appended ∙ append_assoc before h.written answer;
  obeyed = obeys_append start now next 0 h.done (line ∷ []) None h.written answer h.obeyed (one (0 + length h.done));
}

-- an empty one
obeys_blank : (now : Machine StoredBatches) (line : List ℕ) (number : ℕ) → line ≡ [] → ObeysEach now number (line ∷ []) None [] now
obeys_blank now [] number blank = (refl, refl, refl)
obeys_blank now (b ∷ line) number blank = let no : ⊥ = cc in absurd no

pub followed_blank : (start now : Machine StoredBatches) (text rest line later before out : List ℕ) (number : ℕ) → HasFollowed start now text rest before out number → lines rest ≡ line ∷ lines later → line ≡ []
    → HasFollowed start now text later before out (number + 1)
followed_blank start now text rest line later before out number h parts blank =
    follow_one start now now text rest line later before out out [] number h parts (λ n. obeys_blank now line n blank) (sym (append-nil out))

-- one that reads as an order
obeys_one : (now next : Machine StoredBatches) (line : List ℕ) (number : ℕ) (order : Order) (answer : List ℕ) → line ≢ [] → ReadsOrder line order → Obeys now order answer next → ObeysEach now number (line ∷ []) None answer next
obeys_one now next [] number order answer some reads obeys = absurd (some refl)
obeys_one now next (b ∷ line) number order answer some reads obeys =
    inr (record {
      order = order;
      answer = answer;
      rest = [];
      next = next;
      reads = reads;
      obeys = obeys;
      others = (refl, refl, refl);
      joined = sym (append-nil answer);
    })

pub followed_more : (start now next : Machine StoredBatches) (text rest line later before out longer : List ℕ) (number : ℕ) (order : Order) (answer : List ℕ) → HasFollowed start now text rest before out number
    → lines rest ≡ line ∷ lines later → line ≢ [] → ReadsOrder line order → Obeys now order answer next → longer ≡ out ++ answer
    → HasFollowed start next text later before longer (number + 1)
followed_more start now next text rest line later before out longer number order answer h parts some reads obeys e =
    follow_one start now next text rest line later before out longer answer number h parts (λ n. obeys_one now next line n order answer some reads obeys) e

-- one that gets no answer
pub followed_untold : (start now after : Machine StoredBatches) (text rest line later before out : List ℕ) (number : ℕ) → HasFollowed start now text rest before out number → lines rest ≡ line ∷ lines later → MayObey now line after
    → (answers : List ℕ) × (out ≡ before ++ answers) × AnswersBeginning start text answers after
followed_untold start now after text rest line later before out number h parts untold = (
  h.written,
  h.appended,
  record {
    done = h.done;
    last = line;
    left = lines later;
    middle = now;
    parts = h.parts ∙ ap (λ (l : List (List ℕ)). h.done ++ l) parts;
    obeyed = h.obeyed;
    untold = untold;
  },
)

-- nothing more is answered
nothing_more : (start now : Machine StoredBatches) (text rest before out : List ℕ) (number : ℕ) (bad_line : Option ℕ) → HasFollowed start now text rest before out number → ObeysEach now number (lines rest) bad_line [] now
    → (answers : List ℕ) × (out ≡ before ++ answers) × AnswersLines start text bad_line answers now
nothing_more start now text rest before out number bad_line h f =
    let counted : number ≡ 0 + length h.done = let counted : number ≡ length h.done = h.counted in omega arith in
    let later = subst (λ (n : ℕ). ObeysEach now n (lines rest) bad_line [] now) counted f in
    let whole = obeys_append start now now 0 h.done (lines rest) bad_line h.written [] h.obeyed later in (
      h.written,
      h.appended,
      subst (λ (all : List (List ℕ)). ObeysEach start 0 all bad_line h.written now) (sym h.parts)
          (subst (λ (a : List ℕ). ObeysEach start 0 (h.done ++ lines rest) bad_line a now) (append-nil h.written) whole),
    )

-- no line is left
pub followed_all : (start now : Machine StoredBatches) (text rest before out : List ℕ) (number : ℕ) → HasFollowed start now text rest before out number → lines rest ≡ []
    → (answers : List ℕ) × (out ≡ before ++ answers) × AnswersLines start text None answers now
followed_all start now text rest before out number h none =
    nothing_more start now text rest before out number None h (subst (λ all. ObeysEach now number all None [] now) (sym none) (refl, refl, refl))

-- one bad line in front
follow_bad : (now : Machine StoredBatches) (line : List ℕ) (more : List (List ℕ)) (number : ℕ) → line ≢ [] → ((order : Order) → ReadsOrder line order → ⊥) → ObeysEach now number (line ∷ more) (Some (number + 1)) [] now
follow_bad now [] more number some bad = absurd (some refl)
follow_bad now (b ∷ line) more number some bad = inl (record { is_bad = (some, bad); numbered = refl; says_nothing = refl; stays = refl })

-- the next line is bad
pub followed_bad : (start now : Machine StoredBatches) (text rest line later before out : List ℕ) (number : ℕ) → HasFollowed start now text rest before out number → lines rest ≡ line ∷ lines later → line ≢ []
    → ((order : Order) → ReadsOrder line order → ⊥) → (answers : List ℕ) × (out ≡ before ++ answers) × AnswersLines start text (Some (number + 1)) answers now
followed_bad start now text rest line later before out number h parts some bad =
    nothing_more start now text rest before out number (Some (number + 1)) h (subst (λ all. ObeysEach now number all (Some (number + 1)) [] now) (sym parts) (follow_bad now line (lines later) number some bad))

-- an answer is not empty
says_something : (text rest : List ℕ) → [] ≡ (text ++ 10 ∷ []) ++ rest → ⊥
says_something [] rest e = cc
says_something (b ∷ text) rest e = cc

obeys_aloud : (m next : Machine StoredBatches) (order : Order) (answer rest : List ℕ) → Obeys m order answer next → [] ≡ answer ++ rest → ⊥
obeys_aloud m next (orders.Step step) answer rest h e = says_something (outcome_text next.hand h.0) rest (e ∙ ap (λ a. a ++ rest) h.2)
obeys_aloud m next orders.State answer rest h e = says_something (state_text m) rest (e ∙ ap (λ a. a ++ rest) h.1)

-- a line that reads as an order is answered by something
answered_aloud : (m after : Machine StoredBatches) (line : List ℕ) (more : List (List ℕ)) (number : ℕ) (bad_line : Option ℕ) (order : Order) → line ≢ [] → ReadsOrder line order → ObeysEach m number (line ∷ more) bad_line [] after → ⊥
answered_aloud m after [] more number bad_line order some reads h = some refl
answered_aloud m after (b ∷ line) more number bad_line order some reads (inl h) = h.is_bad.1 order reads
answered_aloud m after (b ∷ line) more number bad_line order some reads (inr h) = obeys_aloud m h.next h.order h.answer h.rest h.obeys h.joined

-- so where nothing answers a text, its next line reads as no order, unless it is empty
pub silent_not_read : (m after : Machine StoredBatches) (rest line later : List ℕ) (number : ℕ) (bad_line : Option ℕ) → lines rest ≡ line ∷ lines later → line ≢ [] → ObeysEach m number (lines rest) bad_line [] after → (order : Order) → ReadsOrder line order → ⊥
silent_not_read m after rest line later number bad_line next some h order reads =
    answered_aloud m after line (lines later) number bad_line order some reads (subst (λ all. ObeysEach m number all bad_line [] after) next h)

-- and after an empty line nothing answers either
pub silent_blank : (m after : Machine StoredBatches) (rest line later : List ℕ) (number : ℕ) (bad_line : Option ℕ) → lines rest ≡ line ∷ lines later → line ≡ [] → ObeysEach m number (lines rest) bad_line [] after → ObeysEach m (number + 1) (lines later) bad_line [] after
silent_blank m after rest line later number bad_line next blank h =
    subst (λ all. ObeysEach m number all bad_line [] after) (next ∙ ap (λ l. l ∷ lines later) blank) h
