-- The heads that were read, one more at a time.
use Rattle.std.proofs.Common.{◌≡◌, ℕ, ◌≤◌, ◌∙◌, true, false, ltb, List, [], ◌∷◌, ◌++◌, drop, refl, sym, ap, subst}
use Rattle.std.proofs.Common.{append_assoc, append-nil, arith}
use Rattle.std.specs.Prelude.{IsTrue, IsFalse, Option}
use Rattle.std.proofs.lemmas.Bool.{cond-true, cond-false}
use Rattle.std.proofs.lemmas.Bool.Decides.{nat_tests}
use Rattle.std.proofs.lemmas.List.Elements.{All-append, All-cons, All-nil}
use Rattle.httparse.proofs.GrammarLemmas.{ReadsResponse-append}
use Rattle.httparse.specs.Grammar.{ResponseHead, status_code}
use Rattle.httparse.specs.declared.spans.HeaderSpan.{HeaderSpan}
use Rattle.httparse.specs.declared.spans.ResponseSpans.{ResponseSpans}
use Rattle.http1.specs.Body.{body_of, ReadsBody}
use Rattle.http1.specs.Client.{ClientReads, ReadsHead, ReadsFirst, ReadsAt, TakesHead as Takes, after_head}
use Rattle.http1.specs.Client.{HasNoHead, is_interim, switches}
use Rattle.http1.specs.Conn.{awaits_head, is_connect}
use Rattle.http1.specs.Framing.{has_no_body}
use Rattle.http1.specs.Message as message
use Rattle.http1.specs.declared.client.Client.{Client}
use Rattle.http1.specs.declared.conn.Event.{Event}
use Rattle.http1.specs.declared.conn.Event.TheVariants.{NeedMore, Head, Informational}
use Rattle.http1.specs.declared.conn.Limits.{Limits}
use Rattle.http1.specs.declared.conn.Progress.{Progress}
use Rattle.http1.specs.declared.conn.Reading.TheVariants as Reads
use Rattle.http1.specs.declared.framing.Framing.{Framing}
use Rattle.http1.specs.declared.framing.Framing.TheVariants.{NoBody}
use Rattle.http1.specs.declared.framing.MethodKind.{MethodKind}
use Rattle.http1.specs.declared.framing.MethodKind.TheVariants as Method
use Rattle.otel_http_post.specs.declared.error.AnswerError.{AnswerError}
use Rattle.otel_http_post.specs.declared.error.AnswerError.TheVariants as errors
use Rattle.otel_http_post.specs.declared.head.AnswerHead.{AnswerHead}
use Rattle.otel_http_post.specs.declared.head.HeadStep.TheVariants as Step
use Rattle.otel_http_post.specs.Answer.{BeginsInforming, IsInforming, max_headers}
use Rattle.otel_http_post.specs.Following.{HasHead, HasInformed, HasNone, IsOfStream, IsWaiting, RefusesHead}
use Rattle.otel_http_post.specs.Following.{TakesEvent, TakesHead}
use Rattle.otel_http_post.specs.Request.{limits}
use Rattle.otel_http_post.specs.RetryAfter.{retry_after_of}

-- a client that waits looks for a head
pub waiting_reads : (c new : Client) (input : List ℕ) (spans : List HeaderSpan) (read : Progress ResponseSpans)
    → IsWaiting c
    → ClientReads c input spans new read → ReadsHead c input spans new read.consumed read.event
waiting_reads c new input spans read waits found =
    let at_head : ReadsAt Reads.Head c input spans new read = subst
    (λ r. ReadsAt r c input spans new read) waits.reading found in
    subst (λ b. ReadsFirst b c input spans new read) (ap awaits_head waits.writing) at_head

-- a head that only informs leaves the client as it was
interim_keeps : (c : Client) (h : ResponseHead) (framing : Framing) (status : ℕ) → status ≡ status_code h
    → IsTrue (is_interim status) → c.method ≡ Method.Other → after_head c h framing ≡ c
interim_keeps c h framing status is interim method =
    let other : is_connect c.method ≡ false = ap is_connect method in
    let low : ltb (status_code h) 200 ≡ true = grind (arith, nat_tests) in
    let plain : switches c (status_code h) ≡ false = grind (arith, nat_tests) in
    cond-false _ _ _ plain ∙ cond-true _ _ _ low

-- no body follows it
bodiless : (method : MethodKind) (status : ℕ) → method ≡ Method.Other → 100 ≤ status → IsTrue (is_interim status)
    → has_no_body method status ≡ true
bodiless Method.Head status is low high = refl
bodiless Method.Connect status is low high = cc
bodiless Method.Other status is low high = grind (arith, nat_tests)

-- a head that was taken is one of the grammar, whatever follows it
pub accepted : (c new : Client) (input : List ℕ) (spans : List HeaderSpan) (len : ℕ) (r : ResponseSpans)
    → IsWaiting c → (t : Takes c input spans new len r) → (more : List ℕ)
    → message.AcceptsResponse limits Method.Other (input ++ more) t.head t.framing (drop len input ++ more)
accepted c new input spans len r waits t more =
    let at_limits = subst (λ (l : Limits). message.AcceptsResponse l c.method input t.head t.framing (drop len input))
    waits.limits_are t.accepts in
    let at = subst (λ (m : MethodKind). message.AcceptsResponse limits m input t.head t.framing (drop len input))
    waits.method at_limits in
    record {
      reads = ReadsResponse-append input t.head _ more at.reads;
      strict = at.strict;
      status = at.status;
      framed = at.framed;
    }

-- responses after others
answers_append : (limits : Limits) (xs ys : List message.Answer) (stream middle rest : List ℕ)
    → message.ReadsAnswers limits stream xs middle → message.ReadsAnswers limits middle ys rest
    → message.ReadsAnswers limits stream (xs ++ ys) rest
answers_append limits [] ys stream middle rest first second =
    subst (λ bs. message.ReadsAnswers limits bs ys rest) (sym first) second
answers_append limits (x ∷ xs) ys stream middle rest (after, whole, first) second =
    (after, whole, answers_append limits xs ys after middle rest first second)

-- one response more that only informs
informs_one : (received middle rest : List ℕ) (head : ResponseHead) (framing : Framing)
    → BeginsInforming received middle → message.AcceptsResponse limits Method.Other middle head framing rest
    → IsTrue (is_interim (status_code head)) → BeginsInforming received rest
informs_one received middle rest head framing h accepts interim =
    let none = bodiless Method.Other (status_code head) refl accepts.status interim in
    let framed = sym (cond-true _ _ _ none) ∙ accepts.framed in
    let is : NoBody ≡ framing = cc in
    let body = body_of [] [] in
    let one : message.Answer = record {
      method = Method.Other;
      response = record { head = head; body = body };
    } in
    let whole : message.ReadsResponseMessage limits Method.Other middle one.response rest = record {
      framing = framing;
      after_head = rest;
      head = accepts;
      body = subst (λ f. ReadsBody limits f rest body rest) is (refl, refl, refl);
    } in
    record {
      informing = h.informing ++ one ∷ [];
      reads = answers_append limits h.informing (one ∷ []) received middle rest h.reads (rest, whole, refl);
      informs = All-append IsInforming h.informing (one ∷ []) h.informs
          (All-cons IsInforming one [] (refl, interim) (All-nil IsInforming));
    }

-- nothing was read
pub informs_nothing : (c : Client) (input : List ℕ) → HasInformed c (input ++ []) c input
informs_nothing c input = record {
  informs = λ more. record {
    informing = [];
    reads = ap (λ (bs : List ℕ). bs ++ more) (append-nil input);
    informs = All-nil IsInforming;
  };
  waits = refl;
}

module _ (begun : Client) (waits : IsWaiting begun) (received : List ℕ) (client new : Client) (left after : List ℕ)
    (h : HasInformed begun received client left) where
  -- what a step read, of the client that waits
  reads_at : (spans : List HeaderSpan) (event : Event ResponseSpans)
      → (takes : TakesEvent client left spans event new after)
      → ReadsHead begun left spans new takes.consumed event
  reads_at spans event takes = waiting_reads begun new left spans _ waits (subst (λ c. ClientReads c left spans new
      (record { consumed = takes.consumed; event = event })) h.waits takes.reads)

  -- more bytes are needed
  pub informs_more : TakesHead client left new after Step.More → HasInformed begun received new after
  informs_more (spans, NeedMore, takes, says) =
      let found = reads_at spans NeedMore takes in
      let is : left ≡ after = sym (takes.left_is ∙ ap (λ n. drop n left) found.0) in
      record {
        informs = λ more. subst (λ (bs : List ℕ). BeginsInforming (received ++ more) (bs ++ more)) is
            (h.informs more);
        waits = found.1;
      }
  informs_more (spans, event, takes, says) = absurd says

  -- a head that only informs was read
  pub informs_again : TakesHead client left new after Step.Informed → HasInformed begun received new after
  informs_again (spans, Informational r, takes, says) =
      let found = reads_at spans (Informational r) takes in
      let t = found.1 in
      let interim = subst (λ n. IsTrue (is_interim n)) t.covered.code found.0 in
      record {
        informs = λ more. informs_one (received ++ more) (left ++ more) (after ++ more) t.head t.framing
            (h.informs more) (subst (λ (bs : List ℕ).
            message.AcceptsResponse limits Method.Other (left ++ more) t.head t.framing (bs ++ more))
            (sym takes.left_is) (accepted begun new left spans _ r waits t more)) interim;
        waits = t.next ∙ interim_keeps begun t.head t.framing r.code t.covered.code found.0 waits.method;
      }
  informs_again (spans, event, takes, says) = absurd says

  -- the head of another response was read
  pub informs_head : (head : AnswerHead) → TakesHead client left new after (Step.Found head)
      → HasHead begun received new after head
  informs_head head (spans, Head r, takes, says) =
      let found = reads_at spans (Head r) takes in
      let t = found.1 in
      record {
        start = left;
        informs = h.informs;
        head = t.head;
        framing = t.framing;
        accepts = λ more. subst (λ (bs : List ℕ).
            message.AcceptsResponse limits Method.Other (left ++ more) t.head t.framing (bs ++ more))
            (sym takes.left_is) (accepted begun new left spans _ r waits t more);
        final = subst (λ n. IsFalse (is_interim n)) t.covered.code found.0;
        status = sym t.covered.code ∙ sym says.0;
        retry_after = ap retry_after_of (sym t.covered.fields) ∙ sym says.1;
        moves = t.next;
      }
  informs_head head (spans, event, takes, says) = absurd says

  -- no head is there, and none will be
  pub informs_none : (error : AnswerError) (remaining : Option (List ℕ)) → RefusesHead client left error
      → HasNone begun received remaining error
  informs_none (errors.Unreadable e) remaining none = record {
    start = left;
    informs = subst (λ (bs : List ℕ). BeginsInforming bs left) (append-nil received)
        (subst (λ (bs : List ℕ). BeginsInforming (received ++ []) bs) (append-nil left) (h.informs []));
    none = subst (λ (c : Client). HasNoHead c left max_headers) h.waits none;
  }
  informs_none errors.RequestTimeout remaining none = none
  informs_none errors.TooLarge remaining none = none
  informs_none errors.Ended remaining none = absurd none
  informs_none (errors.Stream kind) remaining none = none
  informs_none errors.OutOfMemory remaining none = none

-- more bytes came before the head
informs_fill : (begun client filled : Client) (received left came input : List ℕ) → filled ≡ client
    → input ≡ left ++ came → HasInformed begun received client left
    → HasInformed begun (received ++ came) filled input
informs_fill begun client filled received left came input same is h = record {
  informs = λ more. subst (λ (bs : List ℕ). BeginsInforming ((received ++ came) ++ more) (bs ++ more)) (sym is)
      (subst (λ (bs : List ℕ). BeginsInforming bs ((left ++ came) ++ more)) (sym (append_assoc received came more))
      (subst (λ (bs : List ℕ). BeginsInforming (received ++ (came ++ more)) bs) (sym (append_assoc left came more))
      (h.informs (came ++ more))));
  waits = same ∙ h.waits;
}

-- more bytes came where a head needs more
pub informs_came : (begun : Client) (waits : IsWaiting begun) (first received came : List ℕ)
    (client new filled : Client) (left after input : List ℕ)
    → HasInformed begun (first ++ received) client left → TakesHead client left new after Step.More → filled ≡ new
    → input ≡ after ++ came
    → HasInformed begun (first ++ (received ++ came)) filled input
informs_came begun waits first received came client new filled left after input h takes same more =
    subst (λ (bs : List ℕ). HasInformed begun bs filled input) (append_assoc first received came)
    (informs_fill begun new filled (first ++ received) after came input same more
    (informs_more begun waits (first ++ received) client new left after h takes))

-- no head was read, since no more came
pub stream_none : (begun : Client) (received : List ℕ) (remaining : Option (List ℕ)) (error : AnswerError)
    → IsOfStream error → HasNone begun received remaining error
stream_none begun received remaining (errors.Unreadable e) none = absurd none
stream_none begun received remaining errors.RequestTimeout none = none
stream_none begun received remaining errors.TooLarge none = none
stream_none begun received remaining errors.Ended none = absurd none
stream_none begun received remaining (errors.Stream kind) none = none
stream_none begun received remaining errors.OutOfMemory none = none
