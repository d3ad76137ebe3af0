-- The body that was read, one piece more at a time.
use Rattle.std.proofs.Common.{◌≡◌, ℕ, ◌+◌, ◌<◌, ◌≤◌, ◌∙◌, Bool, true, false, cond, ◌&&◌, List, [], ◌∷◌, ◌++◌}
use Rattle.std.proofs.Common.{length, drop, ◌≢◌}
use Rattle.std.proofs.Common.{Ok, refl, sym, ap, subst, append_assoc, append-nil, arith, length-append, length-drop, length-take-le}
use Rattle.std.specs.Prelude.{Option}
use Rattle.std.specs.Io.KnownBytes.{IsAtEnd}
use Rattle.std.proofs.lemmas.Bool.{eqb-true}
use Rattle.httparse.specs.Spans.{span_bytes}
use Rattle.httparse.specs.declared.spans.Span.{Span}
use Rattle.httparse.specs.declared.spans.HeaderSpan.{HeaderSpan}
use Rattle.httparse.specs.declared.spans.ResponseSpans.{ResponseSpans}
use Rattle.http1.specs.Body.{Body, body_of}
use Rattle.http1.specs.Client.{ClientReads, ReadsAt, after_piece, at_eof, client_eof, closed_client, cycle, is_written}
use Rattle.http1.specs.Client as http
use Rattle.http1.specs.Conn.{ReadsPiece, awaits_head}
use Rattle.http1.specs.Decoder.{Completes, Continues, Ends, Runs, with_front}
use Rattle.http1.specs.declared.client.Client.{Client}
use Rattle.http1.specs.declared.conn.Event.{Event}
use Rattle.http1.specs.declared.conn.Event.TheVariants.{NeedMore, Data, End, Closed}
use Rattle.http1.specs.declared.conn.Progress.{Progress}
use Rattle.http1.specs.declared.conn.Reading.{Reading}
use Rattle.http1.specs.declared.conn.Reading.TheVariants as Reads
use Rattle.http1.specs.declared.decode.Decoder.{Decoder}
use Rattle.http1.specs.declared.decode.Decoder.TheVariants.{Length, Chunked, UntilClose}
use Rattle.otel_http_post.specs.declared.body.BodyStep.TheVariants as Piece
use Rattle.otel_http_post.specs.declared.error.AnswerError.{AnswerError}
use Rattle.otel_http_post.specs.declared.error.AnswerError.TheVariants as errors
use Rattle.otel_http_post.specs.Following.{HasBody, HasKept, HasNoEnd, IsInBody, IsOfStream, LeavesBody, RefusesKeeping}
use Rattle.otel_http_post.specs.Following.{RefusesPiece, TakesEvent, TakesPiece, is_nothing, runs_on}

-- nothing of a body was read
pub kept_nothing : (c : Client) (first : Decoder) (input bytes : List ℕ) → bytes ≡ [] → IsInBody c first
    → HasKept c first (input ++ []) c input bytes
kept_nothing c first input bytes none h = subst (HasKept c first (input ++ []) c input) (sym none) (record {
  decoder = first;
  client_is = λ i. record c { reading = h.reading i };
  back = λ more body rest e. subst (λ (bs : List ℕ). Completes first (bs ++ more) body rest) (sym (append-nil input))
      e;
  forth = λ more whole rest e. (
    whole,
    refl,
    subst (λ (bs : List ℕ). Completes first (bs ++ more) whole rest) (append-nil input) e,
  );
  runs = refl;
})

-- a decoder goes on as it was
runs_same : (old : Decoder) (input : List ℕ) (new : Decoder) (len : ℕ) (piece : List ℕ)
    → Runs old input new len piece → runs_on new ≡ runs_on old
runs_same (Length left) input new len piece is = ap runs_on is
runs_same (Chunked chunks max_len) input new len piece (next, is, run, live) = ap runs_on is
runs_same UntilClose input new len piece is = ap runs_on is

front_twice : (bytes piece : List ℕ) (body : Body)
    → with_front bytes (with_front piece body) ≡ with_front (bytes ++ piece) body
front_twice bytes piece body =
    ap (λ (bs : List ℕ). let front : Body = record body { bytes = bs } in front)
    (sym (append_assoc bytes piece body.bytes))

module _ (begun : Client) (first : Decoder) (received : List ℕ) (client new : Client) (left after bytes kept : List ℕ)
    (h : HasKept begun first received client left bytes) where
  -- what a step reads, of the client that waits for more of the body
  reads_at : (spans : List HeaderSpan) (event : Event ResponseSpans)
      → (takes : TakesEvent client left spans event new after)
      → ReadsAt (Reads.Body h.decoder) client left spans new (record { consumed = takes.consumed; event = event })
  reads_at spans event takes = subst (λ (r : Reading). ReadsAt r client left spans new
      (record { consumed = takes.consumed; event = event })) (ap http.reading h.client_is) takes.reads

  -- the decoder went on, over a piece
  goes_on : (next : Decoder) (reading : Reading) (len : ℕ) (piece : List ℕ) → Continues h.decoder left next len piece
      → reading ≡ Reads.Body next → new ≡ after_piece client reading → after ≡ drop len left → kept ≡ bytes ++ piece
      → HasKept begun first received new after kept
  goes_on next reading len piece continues is moves left_is kept_is = record {
    decoder = next;
    client_is = moves ∙ ap (after_piece client) is
        ∙ ap (λ (c : Client). let moved : Client = record c { reading = Reads.Body next } in moved) h.client_is;
    back = λ more body rest e.
        let inner = continues.back more body rest (subst (λ (bs : List ℕ). Completes next (bs ++ more) body rest)
        left_is e) in
        subst (λ (bs : List ℕ). Completes first (received ++ more) (with_front bs body) rest) (sym kept_is)
        (subst (λ (b : Body). Completes first (received ++ more) b rest) (front_twice bytes piece body)
        (h.back more (with_front piece body) rest inner));
    forth = λ more whole rest e.
        let outer = h.forth more whole rest e in
        let inner = continues.forth more outer.0 rest outer.2 in (
          inner.0,
          outer.1 ∙ ap (with_front bytes) inner.1 ∙ front_twice bytes piece inner.0
              ∙ ap (λ (bs : List ℕ). with_front bs inner.0) (sym kept_is),
          subst (λ (bs : List ℕ). Completes next (bs ++ more) inner.0 rest) (sym left_is) inner.2,
        );
    runs = runs_same h.decoder left next len piece continues.runs ∙ h.runs;
  }

  -- more bytes are needed
  pub kept_more : TakesPiece client left bytes new after kept Piece.More
      → HasKept begun first received new after kept
  kept_more (spans, NeedMore, takes, says) =
      let found = reads_at spans NeedMore takes in
      goes_on found.1.0 found.0 takes.consumed [] found.1.2.continues found.1.1 found.2 takes.left_is
      (says ∙ sym (append-nil bytes))
  kept_more (spans, event, takes, says) = absurd says

  -- a piece was kept
  pub kept_piece : TakesPiece client left bytes new after kept Piece.Kept
      → HasKept begun first received new after kept
  kept_piece (spans, Data s, takes, says) =
      let found = reads_at spans (Data s) takes in
      goes_on found.1.0 found.0 s.end (span_bytes left s) found.1.4 found.1.1 found.2
      (takes.left_is ∙ ap (λ n. drop n left) found.1.2) says
  kept_piece (spans, event, takes, says) = absurd says

-- a span that is not empty
pub span_some : (input : List ℕ) (s : Span) → s.start < s.end → s.end ≤ length input
    → 0 < length (span_bytes input s)
span_some input s some within = grind (arith, length-take-le, length-drop)

-- what cannot be true is false
pub not_true : (b : Bool) → (b ≡ true → ⊥) → b ≡ false
not_true true never = absurd (never refl)
not_true false _ = refl

-- a piece that is not kept is of a body that is too large, or there was no memory for it
pub piece_refused : (d next : Decoder) (input bytes piece : List ℕ) (len limit : ℕ) (error : AnswerError)
    → Continues d input next len piece → 0 < length piece → RefusesKeeping limit bytes piece error
    → RefusesPiece d input bytes limit error
piece_refused d next input bytes piece len limit (errors.Unreadable e) h some none = absurd none
piece_refused d next input bytes piece len limit errors.RequestTimeout h some none = none
piece_refused d next input bytes piece len limit errors.TooLarge h some over = λ more whole rest e.
    let inner = h.forth more whole rest e in
    let longer : limit < length (bytes ++ (piece ++ inner.0.bytes)) = grind (arith, length-append) in
    subst (λ (b : Body). limit < length (bytes ++ b.bytes)) (sym inner.1) longer
piece_refused d next input bytes piece len limit errors.Ended h some none = none
piece_refused d next input bytes piece len limit (errors.Stream kind) h some none = none
piece_refused d next input bytes piece len limit errors.OutOfMemory h some none = λ more whole rest e.
    let inner = h.forth more whole rest e in
    let longer : 0 < length (piece ++ inner.0.bytes) = grind (arith, length-append) in
    subst (λ (b : Body). 0 < length b.bytes) (sym inner.1) longer

-- what a step does not keep is of a piece
pub keep_refused : (old new : Client) (d : Decoder) (input bytes : List ℕ) (spans : List HeaderSpan)
    (read : Progress ResponseSpans) (s : Span) (limit : ℕ) (error : AnswerError)
    → old.reading ≡ Reads.Body d → ClientReads old input spans new read → read.event ≡ Data s
    → RefusesKeeping limit bytes (span_bytes input s) error → RefusesPiece d input bytes limit error
keep_refused old new d input bytes spans read s limit error reading reads is refuses =
    let at = subst (λ (r : Reading). ReadsAt r old input spans new read) reading reads in
    let piece = subst (λ (e : Event ResponseSpans). ReadsPiece d input spans at.0 read.consumed e) is at.1 in
    piece_refused d piece.0 input bytes (span_bytes input s) s.end limit error piece.4
    (span_some input s piece.3 piece.4.within) refuses

-- a body of nothing is there
nothing_completes : (d : Decoder) → is_nothing d ≡ true → (stream : List ℕ)
    → Completes d stream (body_of [] []) stream
nothing_completes (Length left) is stream = (sym (eqb-true _ _ is), refl, refl)
nothing_completes (Chunked chunks max_len) is stream = cc
nothing_completes UntilClose is stream = cc

nothing_stops : (d : Decoder) → is_nothing d ≡ true → runs_on d ≡ false
nothing_stops (Length left) is = refl
nothing_stops (Chunked chunks max_len) is = refl
nothing_stops UntilClose is = cc

module _ (begun : Client) (first : Decoder) (received : List ℕ) (client new : Client) (left after bytes kept : List ℕ)
    (h : HasKept begun first received client left bytes) (nothing : is_nothing first ≡ true) where
  -- so nothing of it is left
  rest_of : (more : List ℕ) → (body : Body) × (body_of [] [] ≡ with_front bytes body)
      × Completes h.decoder (left ++ more) body (received ++ more)
  rest_of more = h.forth more (body_of [] []) (received ++ more) (nothing_completes first nothing (received ++ more))

  rest_bytes : (more : List ℕ) → length (bytes ++ (rest_of more).0.bytes) ≡ 0
  rest_bytes more = ap (λ (b : Body). length b.bytes) (sym (rest_of more).1)

  -- no more is needed
  pub nothing_needed : TakesPiece client left bytes new after kept Piece.More → ⊥
  nothing_needed (spans, NeedMore, takes, says) =
      let found = reads_at begun first received client new left after bytes kept h spans NeedMore takes in
      let stops : runs_on h.decoder ≡ false = h.runs ∙ nothing_stops first nothing in
      let bounded : h.decoder ≢ UntilClose = λ is. let on = sym stops ∙ ap runs_on is in cc in
      found.1.2.unfinished bounded (rest_of []).0 (received ++ []) (subst (λ (bs : List ℕ).
      Completes h.decoder bs (rest_of []).0 (received ++ [])) (append-nil left) (rest_of []).2)
  nothing_needed (spans, event, takes, says) = absurd says

  -- no piece of it comes
  pub nothing_comes : TakesPiece client left bytes new after kept Piece.Kept → ⊥
  nothing_comes (spans, Data s, takes, says) =
      let found = reads_at begun first received client new left after bytes kept h spans (Data s) takes in
      let inner = found.1.4.forth [] (rest_of []).0 (received ++ []) (rest_of []).2 in
      let some : 0 < length (span_bytes left s) = span_some left s found.1.3 found.1.4.within in
      let none : length (bytes ++ (span_bytes left s ++ inner.0.bytes)) ≡ 0 =
      ap (λ (b : Body). length (bytes ++ b.bytes)) (sym inner.1) ∙ rest_bytes [] in
      grind (arith, length-append)
  nothing_comes (spans, event, takes, says) = absurd says

  -- nothing is wrong with it
  pub nothing_refused : (limit : ℕ) (error : AnswerError) → RefusesPiece h.decoder left bytes limit error → ⊥
  nothing_refused limit (errors.Unreadable e) none =
      let over = none [] (rest_of []).0 (received ++ []) (rest_of []).2 in
      let trailers : 0 ≡ length (rest_of []).0.trailers = ap (λ (b : Body). length b.trailers) (rest_of []).1 in
      absurd (omega arith)
  nothing_refused limit errors.RequestTimeout none = none
  nothing_refused limit errors.TooLarge none =
      let over = none [] (rest_of []).0 (received ++ []) (rest_of []).2 in
      let bytes = rest_bytes [] in
      absurd (omega arith)
  nothing_refused limit errors.Ended none = none
  nothing_refused limit (errors.Stream kind) none = none
  nothing_refused limit errors.OutOfMemory none =
      let some = none [] (rest_of []).0 (received ++ []) (rest_of []).2 in
      let bytes = rest_bytes [] in
      grind (arith, length-append)

-- a body that runs until the other side closes has no other end
ends_early : (d : Decoder) (input : List ℕ) (spans : List HeaderSpan) (len count : ℕ) → Ends d input spans len count
    → runs_on d ≡ true → ⊥
ends_early (Length left) input spans len count h on = cc
ends_early (Chunked chunks max_len) input spans len count h on = cc
ends_early UntilClose input spans len count h on =
    let more : List ℕ = 0 ∷ [] in
    let some : 0 ≡ length (input ++ more) = ap length (h.completes more).0 in
    let sum : length (input ++ more) ≡ length input + length more = length-append input more in
    absurd (omega arith)

-- after the end of a response another request can be sent where both sides keep the connection
cycle_idle : (c : Client) (again : Bool)
    → awaits_head (cond again (http.new_client c.limits) (closed_client c)).writing ≡ again
cycle_idle c true = refl
cycle_idle c false = refl

and_true : (b other : Bool) → other ≡ true → (b && other) ≡ b
and_true true other is = is
and_true false other is = refl

ended_idle : (begun : Client) (first : Decoder) → IsInBody begun first
    → (c : Client) → c ≡ record begun { reading = Reads.Done } → awaits_head (cycle c).writing ≡ begun.keep_alive
ended_idle begun first h c is =
    cycle_idle c (c.keep_alive && is_written c.writing)
    ∙ ap (λ (x : Client). x.keep_alive && is_written x.writing) is
    ∙ and_true begun.keep_alive (is_written begun.writing) (ap is_written h.writing)

module _ (begun : Client) (first : Decoder) (begins : IsInBody begun first) (received : List ℕ)
    (remaining : Option (List ℕ)) (limit : ℕ) where
  -- the body has ended
  pub kept_ended : (client new : Client) (left after bytes kept : List ℕ)
      → HasKept begun first received client left bytes
      → TakesPiece client left bytes new after kept Piece.Ended → length kept ≤ limit
      → HasBody begun first received remaining limit kept new after
  kept_ended client new left after bytes kept h (spans, End count, takes, says) within =
      let found = reads_at begun first received client new left after bytes kept h spans (End count) takes in
      let ends = found.1.1 in
      let ended = body_of [] ends.trailers in
      let whole = h.back [] ended (drop takes.consumed left ++ []) (ends.completes []) in
      let at_end = subst (λ (bs : List ℕ). Completes first bs (with_front bytes ended)
      (drop takes.consumed left ++ [])) (append-nil received) whole in
      record {
        body = with_front bytes ended;
        completes = subst (λ (bs : List ℕ). Completes first received (with_front bytes ended) bs)
            (append-nil (drop takes.consumed left) ∙ sym takes.left_is) at_end;
        bytes_are = append-nil bytes ∙ sym says;
        within = within;
        at_close = λ on. absurd (ends_early h.decoder left spans takes.consumed count ends (h.runs ∙ on));
        is_idle = ap (λ (c : Client). awaits_head c.writing) (found.2 ∙ ap (after_piece client) found.1.0)
            ∙ ended_idle begun first begins (record client { reading = Reads.Done })
            (ap (λ (c : Client). let done : Client = record c { reading = Reads.Done } in done) h.client_is);
      }
  kept_ended client new left after bytes kept h (spans, event, takes, says) within = absurd says

  -- the other side has closed
  pub kept_closed : (client new : Client) (left after bytes : List ℕ)
      → HasKept begun first received client left bytes
      → client.reading ≡ Reads.Body UntilClose → left ≡ [] → after ≡ [] → new ≡ closed_client client
      → IsAtEnd remaining → length bytes ≤ limit → HasBody begun first received remaining limit bytes new after
  kept_closed client new left after bytes h reading none none_after closes at_end within =
      let is : Reads.Body h.decoder ≡ Reads.Body UntilClose = sym (ap http.reading h.client_is) ∙ reading in
      let decoder : h.decoder ≡ UntilClose = cc in
      let on : runs_on first ≡ true = sym h.runs ∙ ap runs_on decoder in
      let nothing = body_of [] [] in
      let inner : Completes h.decoder (left ++ []) nothing [] =
      subst (λ (d : Decoder). Completes d (left ++ []) nothing []) (sym decoder) (
        ap (λ (bs : List ℕ). bs ++ [])
            (sym none),
        refl,
        refl,
      ) in
      let whole = subst (λ (bs : List ℕ). Completes first bs (with_front bytes nothing) []) (append-nil received)
      (h.back [] nothing [] inner) in
      record {
        body = with_front bytes nothing;
        completes = subst (λ (bs : List ℕ). Completes first received (with_front bytes nothing) bs) (sym none_after)
            whole;
        bytes_are = append-nil bytes;
        within = within;
        at_close = λ _. at_end;
        is_idle = ap (λ (c : Client). awaits_head c.writing) closes ∙ sym (begins.closes on);
      }

  -- nothing of the body is there, and none will be
  pub kept_refused : (client : Client) (left bytes : List ℕ) (error : AnswerError)
      → (h : HasKept begun first received client left bytes)
      → ((d : Decoder) → client.reading ≡ Reads.Body d → RefusesPiece d left bytes limit error)
      → LeavesBody first received remaining limit error
  kept_refused client left bytes error h refuses =
      let at : RefusesPiece h.decoder left bytes limit error = refuses h.decoder (ap http.reading h.client_is) in (
        by_error error at,
        not_true (is_nothing first) (λ nothing. nothing_refused begun first received client client left left bytes
            bytes h nothing limit error at),
      )
    where
      by_error : (error : AnswerError) → RefusesPiece h.decoder left bytes limit error
          → HasNoEnd first received remaining limit error
      by_error (errors.Unreadable e) none = λ more whole rest e.
          let inner = h.forth more whole rest e in
          subst (λ (b : Body). 64 < length b.trailers) (sym inner.1) (none more inner.0 rest inner.2)
      by_error errors.RequestTimeout none = none
      by_error errors.TooLarge none = λ more whole rest e.
          let inner = h.forth more whole rest e in
          subst (λ (b : Body). limit < length b.bytes) (sym inner.1) (none more inner.0 rest inner.2)
      by_error errors.Ended none = absurd none
      by_error (errors.Stream kind) none = absurd none
      by_error errors.OutOfMemory none = tt

  -- no more came
  pub stream_ends : (error : AnswerError) → IsOfStream error → HasNoEnd first received remaining limit error
  stream_ends (errors.Unreadable e) none = absurd none
  stream_ends errors.RequestTimeout none = none
  stream_ends errors.TooLarge none = absurd none
  stream_ends errors.Ended none = absurd none
  stream_ends (errors.Stream kind) none = none
  stream_ends errors.OutOfMemory none = none

-- the stream ended before the body did
pub cut_ends : (first : Decoder) (received : List ℕ) (remaining : Option (List ℕ)) (limit : ℕ) (error : AnswerError)
    → error ≡ errors.Ended → IsAtEnd remaining → HasNoEnd first received remaining limit error
cut_ends first received remaining limit error is at_end =
    subst (HasNoEnd first received remaining limit) (sym is) at_end

-- only a body that runs until the connection closes ends with the stream
head_at_eof : (c : Client) (idle : Bool) (n : ℕ) → (cond idle (Ok Closed, closed_client c)
    (http.cut_short c)).0 ≡ Ok (End n) → ⊥
head_at_eof c true n e = cc
head_at_eof c false n e = cc

until_close : (c : Client) (r : Reading) (n : ℕ) → (at_eof r c).0 ≡ Ok (End n) → r ≡ Reads.Body UntilClose
until_close c Reads.Head n e = absurd (head_at_eof c (awaits_head c.writing) n e)
until_close c (Reads.Body (Length left)) n e = cc
until_close c (Reads.Body (Chunked chunks max_len)) n e = cc
until_close c (Reads.Body UntilClose) n e = refl
until_close c Reads.Done n e = cc
until_close c Reads.Upgraded n e = cc
until_close c Reads.Closed n e = cc
until_close c (Reads.Failed x) n e = cc

pub closes_body : (c : Client) (n : ℕ) → (client_eof c).0 ≡ Ok (End n) → c.reading ≡ Reads.Body UntilClose
closes_body c n = until_close c c.reading n

pub closes_client : (c : Client) (n : ℕ) → (client_eof c).0 ≡ Ok (End n) → (client_eof c).1 ≡ closed_client c
closes_client c n e = ap (λ (r : Reading). (at_eof r c).1) (closes_body c n e)

-- more bytes came
pub kept_came : (begun : Client) (first : Decoder) (before received came : List ℕ) (client new filled : Client)
    (left after input bytes kept : List ℕ)
    → HasKept begun first (before ++ received) client left bytes
    → TakesPiece client left bytes new after kept Piece.More → filled ≡ new → input ≡ after ++ came
    → HasKept begun first (before ++ (received ++ came)) filled input kept
kept_came begun first before received came client new filled left after input bytes kept old takes same is =
    let h = kept_more begun first (before ++ received) client new left after bytes kept old takes in
    let stream = λ (more : List ℕ). ap (λ (bs : List ℕ). bs ++ more) (sym (append_assoc before received came))
    ∙ append_assoc (before ++ received) came more in
    let rests = λ (more : List ℕ). ap (λ (bs : List ℕ). bs ++ more) is ∙ append_assoc after came more in
    record {
      decoder = h.decoder;
      client_is = same ∙ h.client_is;
      back = λ more body rest e. subst (λ (bs : List ℕ). Completes first bs (with_front kept body) rest)
          (sym (stream more)) (h.back (came ++ more) body rest
          (subst (λ (bs : List ℕ). Completes h.decoder bs body rest) (rests more) e));
      forth = λ more whole rest e.
          let inner = h.forth (came ++ more) whole rest
          (subst (λ (bs : List ℕ). Completes first bs whole rest) (stream more) e) in (
            inner.0,
            inner.1,
            subst (λ (bs : List ℕ). Completes h.decoder bs inner.0 rest) (sym (rests more)) inner.2,
          );
      runs = h.runs;
    }
