-- A stream of commands: what was carried out so far, and what a piece more does.
use Rattle.std.proofs.Common.{◌≡◌, ℕ, ◌+◌, Bool, true, false, List, [], ◌∷◌, ◌++◌, length, map, Option, None, Some, Result, Ok, Err, inl, inr, refl, sym, ap, subst, ◌∙◌, arith, append_assoc, append-nil, length-append}
use Rattle.std.specs.Prelude.{option_map}
use Rattle.std.proofs.KnownBytes.{Appends-nil, Appends-trans, Consumes-nil}
use Rattle.std.proofs.lemmas.List.{map-append}
use Rattle.std.proofs.lemmas.List.Concat.{flat_map-append}
use Rattle.std.specs.Io.{IsEmptyOrEndsWith}
use Rattle.std.specs.Io.KnownBytes.{Appends, Consumes, IsAtEnd}
use Rattle.std.specs.Str.Lines.{lines}
use Rattle.otel_trace_lines.proofs.JoinedLines.{lines_joined}
use Rattle.otel_trace_lines.proofs.JoinedTexts.{bad_text_joined, spell_joined}
use Rattle.otel_trace_lines.specs.Commands.{PlainCommand, plain_command, plain_commands}
use Rattle.otel_trace_lines.specs.Dialects.{without_comment, without_comments}
use Rattle.otel_trace_lines.specs.declared.dialect.Dialect.{Dialect}
use Rattle.otel_trace_lines.specs.Lines.{Spell, SpellUpTo, TextSpells}
use Rattle.otel_trace_lines.specs.PlainReply.{NoneRefused, PlainReply}
use Rattle.otel_trace_lines.specs.ReplyForm.{Form, texts}
use Rattle.otel_trace_lines.specs.declared.command.Command.{Command}
use Rattle.otel_trace_session.specs.Calls.{Calls}
use Rattle.otel_trace_session.specs.Fed.{Feeds, FeedsSome, FeedsUpTo}
use Rattle.otel_trace_session.specs.Turns.{Runs, SessionState}
use Rattle.otel_trace_session.specs.declared.session.FeedError.{FeedError}
use Rattle.otel_trace_session.specs.declared.session.FeedError.TheVariants as feeds
use Rattle.otel_trace_session.proofs.RunLemmas.{runs_join}
use Rattle.otel_trace_session.proofs.Streaming.{feeds_join, feeds_nothing}
use Rattle.otel_export.specs.Streams.{AppendsBeginning}
use Rattle.otel_export.proofs.StreamLemmas.{appends_after}
use Rattle.otel_trace_session.specs.Pieces.{GivesLines, KeepsAll, PlainPieces}
use Rattle.otel_trace_run.specs.Streams.{Streams, WhyBad, streams}
use Rattle.otel_trace_run.specs.TraceRuns.{BeginsToSpell, CarriesOutSome, FeedsPieces, FeedsPiece}
use Rattle.otel_trace_run.specs.Reasons.{IsReasonAt}
use Rattle.otel_trace_run.specs.declared.reason.Reason.{Reason}
use Rattle.otel_trace_run.proofs.BadLines.{HasLine, IsFound, bad_there, reason_there}
use Rattle.otel_trace_run.proofs.Cut.{IsCut, cut_given, cut_last, cut_piece, ends_joined, holds_of_all, nothing_ends, read_on_from}

-- what none of two lists of replies counts
pub none_refused_joined : (replies more : List PlainReply) → NoneRefused replies → NoneRefused more → NoneRefused (replies ++ more)
none_refused_joined [] more h k = k
none_refused_joined (reply ∷ replies) more h k = (h.0, none_refused_joined replies more h.1 k)

-- the text of replies, and of more
replies_joined : (form : Form) (replies more : List PlainReply) → texts form replies ++ texts form more ≡ texts form (replies ++ more)
replies_joined form replies more = sym (flat_map-append form.reply replies more)

-- where what a list is mapped to is joined of two parts, so is the list
split_map : {X Y : Type 0} (f : X → Y) (all : List X) (before after : List Y) → map f all ≡ before ++ after → (front : List X) × (left : List X) × (all ≡ front ++ left) × (map f front ≡ before)
split_map f all [] after e = ([], all, refl, refl)
split_map f [] (y ∷ before) after e = cc
split_map {X} f (x ∷ all) (y ∷ before) after e =
    let tails : map f all ≡ before ++ after = cc in
    let heads : f x ≡ y = cc in
    let k = split_map f all before after tails in
    (x ∷ k.0, k.1, ap (λ (xs : List X). x ∷ xs) k.2, cc (heads, k.3))

module _ (dialect : Dialect) where
  -- lines whose beginning, without comments, spells commands begin so
  begins_read : (all before after : List (List ℕ)) (commands : List PlainCommand) → without_comments dialect all ≡ before ++ after → Spell dialect before commands
      → (front : List (List ℕ)) × (left : List (List ℕ)) × (all ≡ front ++ left) × Spell dialect (without_comments dialect front) commands
  begins_read all before after commands parts spelled =
      let k = split_map (without_comment dialect) all before after parts in
      (k.0, k.1, k.2, subst (λ (ls : List (List ℕ)). Spell dialect ls commands) (sym k.3) spelled)

  -- commands that all lines spell are spelled by a beginning of them
  begins_all : (all : List (List ℕ)) (commands : List PlainCommand) (bad_line : Option ℕ) → SpellUpTo dialect (without_comments dialect all) commands bad_line
      → (front : List (List ℕ)) × (left : List (List ℕ)) × (all ≡ front ++ left) × Spell dialect (without_comments dialect front) commands
  begins_all all commands None h = (all, [], sym (append-nil all), h)
  begins_all all commands (Some n) h = begins_read all h.before (h.line ∷ h.after) commands h.parts h.spelled

  pub begins_text : (text : List ℕ) (commands : List PlainCommand) (bad_line : Option ℕ) → TextSpells dialect text commands bad_line → BeginsToSpell dialect text commands
  begins_text text commands bad_line h = let k = begins_all (lines text) commands bad_line h in record { front = k.0; left = k.1; parts = k.2; spelled = k.3 }

  -- fewer commands are spelled by fewer lines
  spells_fewer : (all : List (List ℕ)) (done more : List PlainCommand) → Spell dialect all (done ++ more) → (front : List (List ℕ)) × (left : List (List ℕ)) × (all ≡ front ++ left) × Spell dialect front done
  spells_fewer all [] more h = ([], all, refl, tt)
  spells_fewer [] (c ∷ done) more h = absurd h
  spells_fewer ([] ∷ all) (c ∷ done) more h = let k = spells_fewer all (c ∷ done) more h in ([] ∷ k.0, k.1, ap (λ ls. [] ∷ ls) k.2, k.3)
  spells_fewer ((b ∷ line) ∷ all) (c ∷ done) more h = let k = spells_fewer all done more h.1 in ((b ∷ line) ∷ k.0, k.1, ap (λ ls. (b ∷ line) ∷ ls) k.2, (h.0, k.3))

  begins_fewer : (text : List ℕ) (done more : List PlainCommand) → BeginsToSpell dialect text (done ++ more) → BeginsToSpell dialect text done
  begins_fewer text done more h =
      let fewer = spells_fewer (without_comments dialect h.front) done more h.spelled in
      let k = begins_read h.front fewer.0 fewer.1 done fewer.2 fewer.3 in
      record { front = k.0; left = k.1 ++ h.left; parts = h.parts ∙ ap (λ ls. ls ++ h.left) k.2 ∙ append_assoc k.0 k.1 h.left; spelled = k.3 }

  begins_joined : (first second : List ℕ) (commands more : List PlainCommand) → IsEmptyOrEndsWith first 10 → TextSpells dialect first commands None → BeginsToSpell dialect second more → BeginsToSpell dialect (first ++ second) (commands ++ more)
  begins_joined first second commands more ends h k = record {
    front = lines first ++ k.front;
    left = k.left;
    parts = lines_joined first second ends ∙ ap (λ ls. lines first ++ ls) k.parts ∙ sym (append_assoc (lines first) k.front k.left);
    spelled = subst (λ (ls : List (List ℕ)). Spell dialect ls (commands ++ more)) (sym (map-append (without_comment dialect) (lines first) k.front))
        (spell_joined dialect (without_comments dialect (lines first)) (without_comments dialect k.front) commands more h k.spelled);
  }

  begins_longer : (first second : List ℕ) (commands : List PlainCommand) → IsEmptyOrEndsWith first 10 → BeginsToSpell dialect first commands → BeginsToSpell dialect (first ++ second) commands
  begins_longer first second commands ends h = record {
    front = h.front;
    left = h.left ++ lines second;
    parts = lines_joined first second ends ∙ ap (λ ls. ls ++ lines second) h.parts ∙ append_assoc h.front h.left (lines second);
    spelled = h.spelled;
  }

module _ {P S G : Type 0} (calls : Calls P S G) (form : Form) (begun : SessionState P S G) where
  -- so many lines were given and their commands carried out, and a rest was read after them
  pub record HasTraced (now : SessionState P S G) (s : Streams) (rest : List ℕ) (number : ℕ) : Type 0 where
    pub given : List ℕ
    pub replies : List PlainReply
    pub read : Consumes s.input s.input_after (given ++ rest)
    pub ends : IsEmptyOrEndsWith given 10
    pub fed : FeedsUpTo calls form.dialect begun given None replies now
    pub none_refused : NoneRefused replies
    pub written : Appends s.output s.output_after (texts form replies)
    pub counted : number ≡ length (lines given)

module _ {P S G : Type 0} (calls : Calls P S G) where
  -- no command was carried out
  nothing_ran : (now : SessionState P S G) (more : List PlainReply) → more ≡ [] → Runs calls now [] more now
  nothing_ran now more none = subst (λ (replies : List PlainReply). Runs calls now [] replies now) (sym none) (record {
    scope = refl;
    lost_before = refl;
    took = λ histories describes. record { turns = []; after = histories; are_turns = refl; replied_to = refl; describes = describes };
  })

module _ {P S G : Type 0} (calls : Calls P S G) (form : Form) (begun : SessionState P S G) where
  -- none was given yet
  pub traced_none : (input output : Option (List ℕ)) → HasTraced calls form begun begun (streams input input output output) [] 0
  traced_none input output = record {
    given = [];
    replies = [];
    read = Consumes-nil input;
    ends = nothing_ends;
    fed = feeds_nothing calls form.dialect begun;
    none_refused = tt;
    written = Appends-nil output;
    counted = refl;
  }

  -- commands of a text in front of the input
  some_traced : (input : Option (List ℕ)) (Written : List ℕ → Type 0) (text : List ℕ) (commands : List Command) (replies : List PlainReply) (after : SessionState P S G) → IsCut input text → BeginsToSpell form.dialect text (plain_commands commands)
      → Runs calls begun commands replies after → NoneRefused replies → Written (texts form replies) → CarriesOutSome calls form begun input Written
  some_traced input Written text commands replies after cut begins ran none written = record {
    bytes = text ++ cut.after;
    commands = commands;
    replies = replies;
    after = after;
    all = cut.all;
    begins = holds_of_all (λ bs. BeginsToSpell form.dialect bs (plain_commands commands)) input text cut (λ later ends k. begins_longer form.dialect text later (plain_commands commands) ends k) begins;
    ran = ran;
    none_refused = none;
    written = written;
  }

  -- the lines so far are a beginning
  pub begun_so_far : (now : SessionState P S G) (input here after output output_after : Option (List ℕ)) (rest more : List ℕ) (number : ℕ) → HasTraced calls form begun now (streams input here output output_after) rest number
      → IsCut input more → (h : HasTraced calls form begun now (streams input here output output_after) rest number) → h.given ≡ more → CarriesOutSome calls form begun input (Appends output output_after)
  begun_so_far now input here after output output_after rest more number _ cut h e =
      some_traced input (Appends output output_after) more h.fed.commands h.replies now cut
      (begins_text form.dialect more (plain_commands h.fed.commands) None (subst (λ (bs : List ℕ). TextSpells form.dialect bs (plain_commands h.fed.commands) None) e h.fed.spelled)) h.fed.ran h.none_refused h.written

  -- reading gives up
  pub begun_reading : (now : SessionState P S G) (input here after output output_after : Option (List ℕ)) (rest : List ℕ) (number : ℕ) (piece : PlainPieces) → HasTraced calls form begun now (streams input here output output_after) rest number
      → KeepsAll here after rest piece → CarriesOutSome calls form begun input (Appends output output_after)
  begun_reading now input here after output output_after rest number piece h k =
      let read : Consumes input after (h.given ++ piece.rest) =
      subst (λ (bs : List ℕ). Consumes input after (bs ++ piece.rest)) (append-nil h.given) (read_on_from input here after h.given rest k.read [] piece.rest h.read k.consumed k.joined) in
      begun_so_far now input here after output output_after rest h.given number h (cut_given input after h.given piece.rest read h.ends) h refl

  -- turns run out
  pub begun_turning : (now : SessionState P S G) (input here output output_after : Option (List ℕ)) (rest : List ℕ) (number : ℕ) → HasTraced calls form begun now (streams input here output output_after) rest number
      → CarriesOutSome calls form begun input (Appends output output_after)
  begun_turning now input here output output_after rest number h =
      begun_so_far now input here here output output_after rest h.given number h (cut_given input here h.given rest h.read h.ends) h refl

  -- commands of a piece more were carried out, as far as they were
  some_more : (now middle : SessionState P S G) (input here after output reached : Option (List ℕ)) (rest : List ℕ) (number : ℕ) (goes_on : Bool) (piece : PlainPieces) (Written : List ℕ → Type 0) (commands : List Command) (more : List PlainReply)
      → (h : HasTraced calls form begun now (streams input here output reached) rest number) → GivesLines here after rest goes_on piece → BeginsToSpell form.dialect piece.lines (plain_commands commands) → Runs calls now commands more middle → NoneRefused more
      → Written (texts form (h.replies ++ more)) → CarriesOutSome calls form begun input Written
  some_more now middle input here after output reached rest number goes_on piece Written commands more h g begins ran none written =
      let before = h.fed.commands in
      some_traced input Written (h.given ++ piece.lines) (before ++ commands) (h.replies ++ more) middle (cut_piece input here after h.given rest goes_on piece h.read h.ends g)
      (subst (λ (cs : List PlainCommand). BeginsToSpell form.dialect (h.given ++ piece.lines) cs) (sym (map-append plain_command before commands))
      (begins_joined form.dialect h.given piece.lines (plain_commands before) (plain_commands commands) h.ends h.fed.spelled begins))
      (runs_join calls begun now middle before commands h.replies more h.fed.ran ran)
      (none_refused_joined h.replies more h.none_refused none) written

  -- those in front of the one that was stopped were
  some_commands : (error : FeedError) (now middle : SessionState P S G) (text : List ℕ) (more : List PlainReply) → FeedsSome calls form.dialect error now text more middle
      → (commands : List Command) × (reached : SessionState P S G) × BeginsToSpell form.dialect text (plain_commands commands) × Runs calls now commands more reached
  some_commands error now middle text more h =
      let k = h.stopped in
      let parts : plain_commands h.commands ≡ plain_commands k.done ++ plain_commands (k.last ∷ k.left) = ap plain_commands k.parts ∙ map-append plain_command k.done (k.last ∷ k.left) in (
        k.done,
        k.middle,
        begins_fewer form.dialect text (plain_commands k.done) (plain_commands (k.last ∷ k.left)) (subst (BeginsToSpell form.dialect text) parts (begins_text form.dialect text (plain_commands h.commands) h.bad_line h.spelled)),
        k.ran,
      )

  -- the same, whatever feeding the piece came to
  fed_commands : {T : Type 0} (now middle : SessionState P S G) (text : List ℕ) (fed : Result T FeedError) (more : List PlainReply) → Feeds calls form.dialect now text fed more middle
      → (commands : List Command) × (reached : SessionState P S G) × BeginsToSpell form.dialect text (plain_commands commands) × Runs calls now commands more reached
  fed_commands now middle text (Ok x) more h = (h.commands, middle, begins_text form.dialect text (plain_commands h.commands) None h.spelled, h.ran)
  fed_commands now middle text (Err (feeds.Line n)) more h = (h.commands, middle, begins_text form.dialect text (plain_commands h.commands) (Some n) h.spelled, h.ran)
  fed_commands now middle text (Err feeds.Memory) more (inl h) = ([], now, record { front = []; left = lines text; parts = refl; spelled = tt }, nothing_ran calls now more h.none)
  fed_commands now middle text (Err feeds.Memory) more (inr h) = some_commands feeds.Memory now middle text more h
  fed_commands now middle text (Err feeds.Refused) more h = some_commands feeds.Refused now middle text more h
  fed_commands now middle text (Err feeds.BatchLost) more h = some_commands feeds.BatchLost now middle text more h

  -- of a piece more some was carried out, and of the text of its replies some was written
  pub begun_feeding : {T : Type 0} (now next : SessionState P S G) (input here after output reached : Option (List ℕ)) (rest : List ℕ) (number : ℕ) (goes_on : Bool) (piece : PlainPieces) (fed : Result T FeedError) (Written After : List ℕ → Type 0)
      → HasTraced calls form begun now (streams input here output reached) rest number → GivesLines here after rest goes_on piece → FeedsPiece calls form now piece.lines fed Written next
      → ((first second : List ℕ) → Appends output reached first → Written second → After (first ++ second)) → CarriesOutSome calls form begun input After
  begun_feeding now next input here after output reached rest number goes_on piece fed Written After h g k later =
      let ran = fed_commands now next piece.lines fed k.replies k.feeds in
      some_more now ran.1 input here after output reached rest number goes_on piece After ran.0 k.replies h g ran.2 ran.3 k.none_refused
      (subst After (replies_joined form h.replies k.replies) (later (texts form h.replies) (texts form k.replies) h.written k.written))

  pub begun_failing : {T : Type 0} (now next : SessionState P S G) (input here after output reached output_after : Option (List ℕ)) (rest : List ℕ) (number : ℕ) (goes_on : Bool) (piece : PlainPieces) (fed : Result T FeedError)
      → HasTraced calls form begun now (streams input here output reached) rest number → GivesLines here after rest goes_on piece → FeedsPiece calls form now piece.lines fed (Appends reached output_after) next
      → CarriesOutSome calls form begun input (Appends output output_after)
  begun_failing now next input here after output reached output_after rest number goes_on piece fed h g k =
      begun_feeding now next input here after output reached rest number goes_on piece fed (Appends reached output_after) (Appends output output_after) h g k
      (λ first second first_h second_h. Appends-trans output reached output_after first second first_h second_h)

  pub begun_breaking : {T : Type 0} (now next : SessionState P S G) (input here after output reached output_after : Option (List ℕ)) (rest : List ℕ) (number : ℕ) (goes_on : Bool) (piece : PlainPieces) (fed : Result T FeedError)
      → HasTraced calls form begun now (streams input here output reached) rest number → GivesLines here after rest goes_on piece → FeedsPiece calls form now piece.lines fed (AppendsBeginning reached output_after) next
      → CarriesOutSome calls form begun input (AppendsBeginning output output_after)
  begun_breaking now next input here after output reached output_after rest number goes_on piece fed h g k =
      begun_feeding now next input here after output reached rest number goes_on piece fed (AppendsBeginning reached output_after) (AppendsBeginning output output_after) h g k
      (λ first second first_h second_h. appends_after output reached output_after first second first_h second_h)

  -- the pieces so far, and one more
  fed_more : (now next : SessionState P S G) (given lines_now : List ℕ) (bad_line : Option ℕ) (replies more : List PlainReply) → IsEmptyOrEndsWith given 10 → FeedsUpTo calls form.dialect begun given None replies now
      → FeedsUpTo calls form.dialect now lines_now bad_line more next → FeedsUpTo calls form.dialect begun (given ++ lines_now) (option_map (λ n. length (lines given) + n) bad_line) (replies ++ more) next
  fed_more now next given lines_now bad_line replies more ends h k = feeds_join calls form.dialect begun now next given lines_now bad_line replies more ends h k

  -- a piece more is carried out
  pub traced_more : {T : Type 0} (now next : SessionState P S G) (input here after output reached output_after : Option (List ℕ)) (rest : List ℕ) (number count : ℕ) (goes_on : Bool) (piece : PlainPieces) (fed : Result T FeedError) (x : T)
      → HasTraced calls form begun now (streams input here output reached) rest number → GivesLines here after rest goes_on piece → goes_on ≡ true → fed ≡ Ok x → FeedsPiece calls form now piece.lines fed (Appends reached output_after) next
      → count ≡ number + length (lines piece.lines) → HasTraced calls form begun next (streams input after output output_after) piece.rest count
  traced_more {T} now next input here after output reached output_after rest number count goes_on piece fed x h g is well k counted =
      let ends : IsEmptyOrEndsWith piece.lines 10 = (g.some is).1 in
      record {
        given = h.given ++ piece.lines;
        replies = h.replies ++ k.replies;
        read = read_on_from input here after h.given rest g.read piece.lines piece.rest h.read g.consumed g.joined;
        ends = ends_joined h.given piece.lines h.ends ends;
        fed = fed_more now next h.given piece.lines None h.replies k.replies h.ends h.fed (subst (λ (r : Result T FeedError). Feeds calls form.dialect now piece.lines r k.replies next) well k.feeds);
        none_refused = none_refused_joined h.replies k.replies h.none_refused k.none_refused;
        written = subst (Appends output output_after) (replies_joined form h.replies k.replies) (Appends-trans output reached output_after (texts form h.replies) (texts form k.replies) h.written k.written);
        counted =
            let before : number ≡ length (lines h.given) = h.counted in
            let joined : length (lines (h.given ++ piece.lines)) ≡ length (lines h.given ++ lines piece.lines) = ap length (lines_joined h.given piece.lines h.ends) in
            omega (arith, before, counted, joined, length-append (lines h.given) (lines piece.lines));
      }

  -- the last piece is
  pub traced_all : {T : Type 0} (now next : SessionState P S G) (input here after output reached output_after : Option (List ℕ)) (rest : List ℕ) (number : ℕ) (goes_on : Bool) (piece : PlainPieces) (fed : Result T FeedError) (x : T)
      → HasTraced calls form begun now (streams input here output reached) rest number → GivesLines here after rest goes_on piece → goes_on ≡ false → fed ≡ Ok x → FeedsPiece calls form now piece.lines fed (Appends reached output_after) next
      → FeedsPieces calls form begun next (streams input after output output_after) None × IsAtEnd after
  traced_all {T} now next input here after output reached output_after rest number goes_on piece fed x h g is well k =
      let last = cut_last input here after h.given rest goes_on piece is h.read g in (
        record {
          bytes = h.given ++ piece.lines;
          replies = h.replies ++ k.replies;
          all = last.0;
          fed = fed_more now next h.given piece.lines None h.replies k.replies h.ends h.fed (subst (λ (r : Result T FeedError). Feeds calls form.dialect now piece.lines r k.replies next) well k.feeds);
          none_refused = none_refused_joined h.replies k.replies h.none_refused k.none_refused;
          written = subst (Appends output output_after) (replies_joined form h.replies k.replies) (Appends-trans output reached output_after (texts form h.replies) (texts form k.replies) h.written k.written);
        },
        last.1,
      )

  -- after a bad line a text may go on
  fed_longer : (now : SessionState P S G) (text later : List ℕ) (line : ℕ) (replies : List PlainReply) → IsEmptyOrEndsWith text 10 → FeedsUpTo calls form.dialect begun text (Some line) replies now → FeedsUpTo calls form.dialect begun (text ++ later) (Some line) replies now
  fed_longer now text later line replies ends h =
      record { commands = h.commands; spelled = bad_text_joined form.dialect text later (plain_commands h.commands) line ends h.spelled; ran = h.ran }

  -- why it is, in the text of the whole input
  reason_further : (text later : List ℕ) (n : ℕ) (reason : Reason) → IsEmptyOrEndsWith text 10 → IsReasonAt text n reason → IsReasonAt (text ++ later) n reason
  reason_further text later n reason ends h = record {
    line = h.line;
    at = record {
      before = h.at.before;
      after = h.at.after ++ lines later;
      parts = lines_joined text later ends ∙ ap (λ ls. ls ++ lines later) h.at.parts ∙ append_assoc h.at.before (h.line ∷ h.at.after) (lines later);
      number = h.at.number;
    };
    explains = h.explains;
  }

  reason_joined : (given text : List ℕ) (number n : ℕ) (reason : Reason) → IsEmptyOrEndsWith given 10 → number ≡ length (lines given) → IsReasonAt text n reason → IsReasonAt (given ++ text) (number + n) reason
  reason_joined given text number n reason ends counted h = record {
    line = h.line;
    at = record {
      before = lines given ++ h.at.before;
      after = h.at.after;
      parts = lines_joined given text ends ∙ ap (λ ls. lines given ++ ls) h.at.parts ∙ sym (append_assoc (lines given) h.at.before (h.line ∷ h.at.after));
      number = omega (arith, counted, h.at.number, length-append (lines given) h.at.before);
    };
    explains = h.explains;
  }

  -- a bad line of a text is there
  fed_there : {T : Type 0} (now next : SessionState P S G) (text : List ℕ) (fed : Result T FeedError) (line : ℕ) (replies : List PlainReply) → fed ≡ Err (feeds.Line line) → Feeds calls form.dialect now text fed replies next → HasLine text line
  fed_there {T} now next text fed line replies is h =
      let up_to = subst (λ (r : Result T FeedError). Feeds calls form.dialect now text r replies next) is h in
      bad_there form.dialect text (plain_commands up_to.commands) line up_to.spelled

  -- so that there is a reason for it
  pub traced_why : {T : Type 0} (now next : SessionState P S G) (input here after output reached output_after : Option (List ℕ)) (rest : List ℕ) (number line : ℕ) (goes_on : Bool) (piece : PlainPieces) (fed : Result T FeedError) (reason : Option Reason)
      → HasTraced calls form begun now (streams input here output reached) rest number → GivesLines here after rest goes_on piece → fed ≡ Err (feeds.Line line) → FeedsPiece calls form now piece.lines fed (Appends reached output_after) next
      → IsFound piece.lines line reason → WhyBad true input (number + line) reason
  traced_why now next input here after output reached output_after rest number line goes_on piece fed reason h g is k why =
      let found = reason_there piece.lines line reason why (fed_there now next piece.lines fed line k.replies is k.feeds) in
      let cut = cut_piece input here after h.given rest goes_on piece h.read h.ends g in
      let text = h.given ++ piece.lines in
      subst (λ (r : Option Reason). WhyBad true input (number + line) r) (sym found.1) (
        text ++ cut.after,
        cut.all,
        holds_of_all (λ bs. IsReasonAt bs (number + line) found.0) input text cut (λ later ends k. reason_further text later (number + line) found.0 ends k)
            (reason_joined h.given piece.lines number line found.0 h.ends h.counted found.2),
      )

  -- a line of a piece is bad
  pub traced_bad : {T : Type 0} (now next : SessionState P S G) (input here after output reached output_after : Option (List ℕ)) (rest : List ℕ) (number line : ℕ) (goes_on : Bool) (piece : PlainPieces) (fed : Result T FeedError)
      → HasTraced calls form begun now (streams input here output reached) rest number → GivesLines here after rest goes_on piece → fed ≡ Err (feeds.Line line) → FeedsPiece calls form now piece.lines fed (Appends reached output_after) next
      → FeedsPieces calls form begun next (streams input after output output_after) (Some (number + line))
  traced_bad {T} now next input here after output reached output_after rest number line goes_on piece fed h g is k =
      let cut = cut_piece input here after h.given rest goes_on piece h.read h.ends g in
      let text = h.given ++ piece.lines in
      let all = h.replies ++ k.replies in
      let fed_all : FeedsUpTo calls form.dialect begun text (Some (number + line)) all next =
      subst (λ (n : ℕ). FeedsUpTo calls form.dialect begun text (Some (n + line)) all next) (sym h.counted) (fed_more now next h.given piece.lines (Some line) h.replies k.replies h.ends h.fed (subst (λ (r : Result T FeedError). Feeds calls form.dialect now piece.lines r k.replies next) is k.feeds)) in
      record {
        bytes = text ++ cut.after;
        replies = all;
        all = cut.all;
        fed = holds_of_all (λ bs. FeedsUpTo calls form.dialect begun bs (Some (number + line)) all next) input text cut (λ later ends h. fed_longer next text later (number + line) all ends h) fed_all;
        none_refused = none_refused_joined h.replies k.replies h.none_refused k.none_refused;
        written = subst (Appends output output_after) (replies_joined form h.replies k.replies) (Appends-trans output reached output_after (texts form h.replies) (texts form k.replies) h.written k.written);
      }
