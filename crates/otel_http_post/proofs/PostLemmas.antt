-- The plan of a request whose headers leave its length to it.
use Rattle.std.proofs.Common.{None, Option, Some, subst, ◌-◌}
use Rattle.http1.specs.declared.client.Client.{Client}
use Rattle.http1.specs.Encoder.{encoder_for}
use Rattle.http1.specs.Client.{after_request}
use Rattle.std.proofs.Common.{◌≡◌, ℕ, ◌^◌, ◌<◌, ◌∙◌, Bool, true, false, cond, ltb, not, ◌==◌, List, [], ◌∷◌, ◌++◌}
use Rattle.std.proofs.Common.{length, refl, sym, ap}
use Rattle.std.proofs.Common.{append-nil, arith}
use Rattle.std.specs.Prelude.{Result, Ok, Err, codes}
use Rattle.http1.specs.declared.conn.BodySize.{BodySize}
use Rattle.http1.specs.declared.conn.BodySize.TheVariants.{Known}
use Rattle.http1.specs.declared.error.WriteError.{WriteError}
use Rattle.http1.specs.declared.fields.ContentLength.{ContentLength}
use Rattle.http1.specs.declared.fields.ContentLength.TheVariants as Length
use Rattle.http1.specs.declared.fields.KnownFields.{KnownFields}
use Rattle.http1.specs.declared.fields.TransferEncoding.{TransferEncoding}
use Rattle.http1.specs.declared.fields.TransferEncoding.TheVariants as Coding
use Rattle.http1.specs.declared.framing.Framing.{Framing}
use Rattle.http1.specs.declared.framing.Framing.TheVariants.{NoBody, Length as Sized}
use Rattle.http1.specs.declared.framing.FramingError.{FramingError}
use Rattle.http1.specs.declared.framing.FramingError.TheVariants.{InvalidTransferEncoding}
use Rattle.http1.specs.declared.framing.MethodKind.TheVariants as Method
use Rattle.http1.specs.Client.{framing_headers, new_client, plan_fields, plan_framed, request_plan, requesting}
use Rattle.http1.specs.Client.{with_writing, writing}
use Rattle.http1.specs.declared.error.WriteError.TheVariants.{BodySize as BodySizeRefused, Host, UnusualFraming}
use Rattle.http1.specs.Client.{request_refusal}
use Rattle.http1.specs.Conn.{data_refusal, finish_refusal}
use Rattle.http1.specs.declared.conn.Writing.{Writing}
use Rattle.http1.specs.declared.conn.Writing.TheVariants as Writes
use Rattle.http1.specs.declared.error.WriteError.TheVariants as refusals
use Rattle.std.proofs.lemmas.Bool.{cond-false}
use Rattle.std.proofs.lemmas.Bool.Decides.{nat_tests}
use Rattle.otel_http_post.specs.Refusal.{RefusesHeaders, refusal_of}
use Rattle.http1.specs.Conn.{Plan, fits, is_plain, after_data, data_text, finish_text, length_header, plan_refusal}
use Rattle.http1.specs.Conn.{planned_headers}
use Rattle.http1.specs.Fields.{Header, add_length, known_fields}
use Rattle.std.specs.Str.Parse.{digits_value}
use Rattle.http1.specs.Framing.{by_fields, request_framing}
use Rattle.http1.specs.Head.{is_request_line, request_text}
use Rattle.http1.specs.Output.{GivesOrRefuses}
use Rattle.http1.specs.Text.{eq_ignore_case, numeral}
use Rattle.http1.proofs.FieldsLemmas.{known_fields_push}
use Rattle.http1.proofs.MessageRoundTrip.{request_plan_framed}
use Rattle.http1.proofs.NumeralLemmas.{decimal_is_number, numeral_reads_back}
use Rattle.otel_http_post.specs.Request.{LeavesLength, limits}

-- the call was carried out
abbrev IsDone : Result (Unit {0}) WriteError → Type 0
IsDone (Ok done) = Unit {0}
IsDone (Err e) = ⊥

-- the length is all that frames the body, once it is added
with_length : (headers : List Header) (n : ℕ) → n < 2 ^ 64 → LeavesLength (known_fields headers)
    → request_framing Method.Other 1 (known_fields (headers ++ length_header n ∷ [])) ≡ Ok (Sized n)
unfolding eq_ignore_case
with_length headers n fits free =
    let digits = numeral 10 n in
    let framed = λ (coding : TransferEncoding) (size : ContentLength). by_fields 1 NoBody
    (Err InvalidTransferEncoding) coding size in
    let pushed = ap (request_framing Method.Other 1) (known_fields_push headers (length_header n)) in
    let known : request_framing Method.Other 1 (known_fields
    (headers ++ length_header n ∷ [])) ≡ framed Coding.Absent (add_length Length.Absent digits) =
    pushed ∙ (λ i. framed (free.codings i) (add_length (free.length i) digits)) in
    known
    ∙ ap (λ (b : Bool). framed Coding.Absent (cond b (Length.Value (digits_value 10 digits)) Length.Invalid))
    (decimal_is_number n fits)
    ∙ ap (λ (m : ℕ). let size : Result Framing FramingError = Ok (Sized m) in size) (numeral_reads_back 10 n
    (omega arith) (omega arith)).value

length_added : (headers : List Header) (n : ℕ) → LeavesLength (known_fields headers)
    → framing_headers (Known n) headers ≡ length_header n ∷ []
length_added headers n free = ap (λ (m : ℕ). cond (not (ltb 0 m)) (length_header n ∷ []) []) free.framing

cond_gives : (t : Bool) (x : WriteError) (other : Result Plan WriteError) (p : Plan) → cond t (Err x) other ≡ Ok p
    → other ≡ Ok p
cond_gives true x other p e = cc
cond_gives false x other p e = e

else_gives : (t : Bool) (x : WriteError) (other : Result Plan WriteError) (p : Plan) → cond t other (Err x) ≡ Ok p
    → other ≡ Ok p
else_gives true x other p e = e
else_gives false x other p e = cc

same_plan : (p q : Plan) (planned : Result Plan WriteError) → planned ≡ Ok p → planned ≡ Ok q → p ≡ q
same_plan p q planned a b = cc

plan_extra : (size : BodySize) (extra : List Header) (k : KnownFields) (framed : Result Framing FramingError)
    (p : Plan)
    → plan_framed size extra k framed ≡ Ok p → extra ≡ p.extra
plan_extra size extra k (Err x) p e = cc
plan_extra size extra k (Ok framing) p e =
    let planned : Plan = record { extra = extra; framing = framing; keep_alive = not k.close } in
    ap (λ (q : Plan). q.extra) (same_plan planned p (Ok planned) refl (cond_gives (not (is_plain k)) UnusualFraming
    (Ok planned) p (cond_gives (not (fits framing size)) BodySizeRefused (cond (not (is_plain k))
    (Err UnusualFraming) (Ok planned)) p e)))

planned_extra : (headers : List Header) (n : ℕ) (p : Plan)
    → request_plan (new_client limits) (codes "POST") (Known n) headers ≡ Ok p
    → framing_headers (Known n) headers ≡ p.extra
unfolding plan_fields
planned_extra headers n p e =
    let extra = framing_headers (Known n) headers in
    let k = known_fields (headers ++ extra) in
    plan_extra (Known n) extra k (request_framing Method.Other 1 k) p (else_gives (k.hosts == 1) Host (plan_framed
    (Known n) extra k (request_framing Method.Other 1 k)) p e)

post_plan : (headers : List Header) (n : ℕ) (p : Plan) → n < 2 ^ 64 → LeavesLength (known_fields headers)
    → request_plan (new_client limits) (codes "POST") (Known n) headers ≡ Ok p
    → (p.extra ≡ length_header n ∷ []) × (p.framing ≡ Sized n)
post_plan headers n p fits free e =
    let extra : p.extra ≡ length_header n ∷ [] = sym (planned_extra headers n p e) ∙ length_added headers n free in
    let framed = (request_plan_framed (new_client limits) (codes "POST") (Known n) headers p e).0 in
    let kept = ap (λ (x : List Header). request_framing Method.Other 1 (known_fields (headers ++ x))) extra in
    let sized : Ok p.framing ≡ Ok (Sized n) = sym framed ∙ kept ∙ with_length headers n fits free in
    (extra, cc)

module _ (headers : List Header) (path body : List ℕ) where
  abbrev head_with : List Header → List ℕ
  head_with all = request_text (codes "POST") path 1 all

  -- what the three calls append
  abbrev appended : Result Plan WriteError → List ℕ
  appended plan =
      let c = requesting (new_client limits) (codes "POST") headers plan in
      head_with (planned_headers plan headers) ++ data_text (writing c) body
      ++ finish_text (writing (with_writing c (after_data (writing c) (length body)))) []

  sized_text : (p : Plan) → p.extra ≡ length_header (length body) ∷ [] → p.framing ≡ Sized (length body)
      → appended (Ok p) ≡ head_with (headers ++ length_header (length body) ∷ []) ++ body
  sized_text p extra framing =
      let text = λ (x : List Header) (f : Framing).
      let w = writing (requesting (new_client limits) (codes "POST") headers (Ok (record p { framing = f }))) in
      head_with (headers ++ x) ++ data_text w body ++ finish_text (after_data w (length body)) [] in
      let same : appended (Ok p) ≡ text (length_header (length body) ∷ []) (Sized (length body)) = λ i. text
      (extra i) (framing i) in
      let head = head_with (headers ++ length_header (length body) ∷ []) in
      same ∙ append-nil (head ++ (body ++ [])) ∙ ap (λ (bs : List ℕ). head ++ bs) (append-nil body)

  by_plan : (plan : Result Plan WriteError) (line : Bool) (spare len : ℕ) (done : Result (Unit {0}) WriteError)
      → IsDone done
      → request_plan (new_client limits) (codes "POST") (Known (length body)) headers ≡ plan
      → length body < 2 ^ 64 → LeavesLength (known_fields headers)
      → GivesOrRefuses (plan_refusal plan line headers) spare len done
      → appended plan ≡ head_with (headers ++ length_header (length body) ∷ []) ++ body
  by_plan (Ok p) line spare len done is_done e fits free gives =
      let parts = post_plan headers (length body) p fits free e in
      sized_text p parts.0 parts.1
  by_plan (Err x) line spare len (Ok done) is_done e fits free gives = cc
  by_plan (Err x) line spare len (Err y) is_done e fits free gives = absurd is_done

  -- a request that was written whole is its head, with the length last, and its body
  pub post_is : (line : Bool) (spare len : ℕ) (done : Unit {0})
      → GivesOrRefuses (plan_refusal (request_plan (new_client limits) (codes "POST") (Known
      (length body)) headers) line headers) spare len (Ok done)
      → length body < 2 ^ 64 → LeavesLength (known_fields headers)
      → appended (request_plan (new_client limits) (codes "POST") (Known (length body)) headers)
      ≡ head_with (headers ++ length_header (length body) ∷ []) ++ body
  post_is line spare len done gives fits free =
      by_plan (request_plan (new_client limits) (codes "POST") (Known (length body)) headers) line spare len
      (Ok done) tt refl fits free gives

  -- in this state neither the body nor its end is refused
  abbrev pub AcceptsBody : Writing → Type 0
  AcceptsBody w =
      (data_refusal w (length body) ≡ None) × (finish_refusal (after_data w (length body)) [] ≡ None)

  sized_accepts : AcceptsBody (Writes.Body (encoder_for (Sized (length body))))
  sized_accepts =
      let whole : ltb (length body) (length body) ≡ false = grind (arith, nat_tests) in
      let nothing : ltb 0 (length body - length body) ≡ false = grind (arith, nat_tests) in
      (cond-false _ _ _ whole, cond-false _ _ _ nothing)

  accepts_by_plan : (plan : Result Plan WriteError) (line : Bool) (spare len : ℕ) (done : Result (Unit {0}) WriteError)
      → IsDone done → request_plan (new_client limits) (codes "POST") (Known (length body)) headers ≡ plan
      → length body < 2 ^ 64 → LeavesLength (known_fields headers)
      → GivesOrRefuses (plan_refusal plan line headers) spare len done
      → AcceptsBody (writing (requesting (new_client limits) (codes "POST") headers plan))
  accepts_by_plan (Ok p) line spare len done is_done e small free gives =
      let parts = post_plan headers (length body) p small free e in
      subst (λ (f : Framing). AcceptsBody (Writes.Body (encoder_for f))) (sym parts.1) sized_accepts
  accepts_by_plan (Err x) line spare len (Ok done) is_done e fits free gives = cc
  accepts_by_plan (Err x) line spare len (Err y) is_done e fits free gives = absurd is_done

  -- after a head that was written neither the body nor its end is refused
  pub accepts : (line : Bool) (spare len : ℕ) (done : Unit {0})
      → GivesOrRefuses (plan_refusal (request_plan (new_client limits) (codes "POST") (Known (length body)) headers)
      line headers) spare len (Ok done)
      → length body < 2 ^ 64 → LeavesLength (known_fields headers)
      → AcceptsBody (writing (requesting (new_client limits) (codes "POST") headers
      (request_plan (new_client limits) (codes "POST") (Known (length body)) headers)))
  accepts line spare len done gives fits free =
      let plan = request_plan (new_client limits) (codes "POST") (Known (length body)) headers in
      accepts_by_plan plan line spare len (Ok done) tt refl fits free gives

  refused_as : (why : WriteError)
      → request_refusal (new_client limits) (codes "POST") path (Known (length body)) headers ≡ Some why
      → RefusesHeaders path headers (length body) (refusal_of why)
  refused_as refusals.OutOfMemory h = tt
  refused_as why h = h

  -- a head that was not written was refused, or there was no memory
  pub head_refused : (refusal : Option WriteError) (spare len : ℕ) (why : WriteError)
      → request_refusal (new_client limits) (codes "POST") path (Known (length body)) headers ≡ refusal
      → GivesOrRefuses {T = Unit {0}} refusal spare len (Err why)
      → RefusesHeaders path headers (length body) (refusal_of why)
  head_refused None spare len why e gives =
      subst (λ (w : WriteError). RefusesHeaders path headers (length body) (refusal_of w)) (sym gives.0) tt
  head_refused (Some x) spare len why e gives =
      let same : x ≡ why = cc in
      refused_as why (e ∙ ap (λ (w : WriteError). Some w) same)

  -- where nothing is refused there was no memory
  pub no_memory : (refusal : Option WriteError) (spare len : ℕ) (why : WriteError) → refusal ≡ None
      → GivesOrRefuses {T = Unit {0}} refusal spare len (Err why)
      → RefusesHeaders path headers (length body) (refusal_of why)
  no_memory None spare len why e gives =
      subst (λ (w : WriteError). RefusesHeaders path headers (length body) (refusal_of w)) (sym gives.0) tt
  no_memory (Some x) spare len why e gives = cc

  abbrev pub size : BodySize
  size = Known (length body)

  abbrev pub asked : Client → Client
  asked client = after_request client (codes "POST") size headers

  abbrev pub why_not : Client → Option WriteError
  why_not client = request_refusal client (codes "POST") path size headers

  module _ (client : Client) (is_new : client ≡ new_client limits) where
    -- the head was not written
    pub head_refuses : (spare len : ℕ) (why : WriteError) → GivesOrRefuses {T = Unit {0}}
        (why_not client) spare len (Err why)
        → RefusesHeaders path headers (length body) (refusal_of why)
    head_refuses spare len why gives =
        let at_new = subst (λ (x : Client). GivesOrRefuses {T = Unit {0}} (why_not x) spare len
        (Err why)) is_new gives in
        head_refused (why_not (new_client limits)) spare len why refl at_new

    module _ (sent : Client) (is_sent : sent ≡ asked client) (spare len : ℕ) (done : Unit {0})
        (gives : GivesOrRefuses (why_not client) spare len (Ok done)) (small : length body < 2 ^ 64)
        (free : LeavesLength (known_fields headers)) where
      accepted : AcceptsBody (writing (asked (new_client limits)))
      accepted =
          let at_new = subst (λ (x : Client). GivesOrRefuses (why_not x) spare len (Ok done)) is_new gives in
          accepts (is_request_line (codes "POST") path 1) spare len done at_new small free

      sent_is : sent ≡ asked (new_client limits)
      sent_is = is_sent ∙ ap asked is_new

      -- the body was not written
      pub body_refuses : (room need : ℕ) (why : WriteError)
          → GivesOrRefuses {T = Unit {0}} (data_refusal (writing sent) (length body)) room need (Err why)
          → RefusesHeaders path headers (length body) (refusal_of why)
      body_refuses room need why refuses =
          let none = ap (λ (x : Client). data_refusal (writing x) (length body)) sent_is ∙ accepted.0 in
          no_memory (data_refusal (writing sent) (length body)) room need why none refuses

      -- its end was not written
      pub end_refuses : (whole : Client) → whole ≡ with_writing sent (after_data (writing sent) (length body))
          → (room need : ℕ) (why : WriteError)
          → GivesOrRefuses {T = Unit {0}} (finish_refusal (writing whole) []) room need (Err why)
          → RefusesHeaders path headers (length body) (refusal_of why)
      end_refuses whole is_whole room need why refuses =
          let none =
          ap (λ (x : Client). finish_refusal (writing x) []) is_whole
          ∙ ap (λ (x : Client). finish_refusal (after_data (writing x) (length body)) []) sent_is ∙ accepted.1 in
          no_memory (finish_refusal (writing whole) []) room need why none refuses
