-- Texts of B3 headers: each is cut in one way alone, and says one span context at most.
use Rattle.std.proofs.Common.{◌≡◌, ◌≢◌, ◌⊎◌, inl, inr, ⊎_elim, ℕ, suc, ◌<◌, List, [], ◌∷◌, ◌++◌, length, get_or, All, Option, Some, None, IfSome, Result, Ok, Err, OnErr, codes, refl, sym, ap, subst, ◌∙◌, arith, length-append, lit<}
use lib.Seq.{get_or-append_seam}
use Rattle.std.proofs.lemmas.List.Elements.{All-cons, All-head, All-nil, All-tail, All-weaker}
use Rattle.opentelemetry.specs.Hex.{hex_text, IsHexDigit, IsHexText}
use Rattle.opentelemetry.specs.Plain.{PlainSpanContext}
use Rattle.opentelemetry.specs.Carrier.{Texts}
use Rattle.opentelemetry.proofs.HexRead.{hex_text_injective, hex_text_IsHexText}
use Rattle.otel_propagators.specs.B3.{flags_of, hyphen, joined, optional, state_mark, IsLone, IsMany, IsParent, IsSingle, IsSpanId, IsTraceId, SaysDecision, SaysMany, SaysState}
use Rattle.otel_propagators.specs.B3Headers.{SaysSpan}
use Rattle.otel_propagators.specs.declared.b3.sampling_state.SamplingState.{SamplingState}
use Rattle.otel_propagators.specs.declared.b3.sampling_state.SamplingState.TheVariants.{Accept, Deny, Defer, Debug}

-- what holds, holds where a call fails
pub on_err_from : {T E P : Type 0} (r : Result T E) → P → OnErr r P
on_err_from (Ok _) holds = tt
on_err_from (Err _) holds = holds

-- a list of no length has no items
pub no_items : {X : Type 0} (xs : List X) → length xs ≡ 0 → xs ≡ []
no_items [] none = refl
no_items (x ∷ xs) none = absurd (omega arith)

-- ---- fields between hyphens

-- a byte that is no hyphen
abbrev pub IsInField : ℕ → Type 0
IsInField b = b ≢ hyphen

digit_in_field : (b : ℕ) → IsHexDigit b → IsInField b
digit_in_field b is same = ⊎_elim (λ low. absurd (omega (arith, low.0, same))) (λ high. absurd (omega (arith, high.0, same))) is

-- no digit is a hyphen
pub hex_in_field : (digits number : ℕ) → All IsInField (hex_text digits number)
hex_in_field digits number = All-weaker IsHexDigit IsInField digit_in_field (hex_text digits number) (hex_text_IsHexText digits number).1

pub digits_in_field : (count : ℕ) (text : List ℕ) → IsHexText count text → All IsInField text
digits_in_field count text is = All-weaker IsHexDigit IsInField digit_in_field text is.1

-- a text that has no hyphen at any place
pub all_in_field : (text : List ℕ) → ((i : ℕ) → i < length text → get_or text i 0 ≢ hyphen) → All IsInField text
all_in_field [] none = All-nil IsInField
all_in_field (b ∷ text) none = All-cons IsInField b text (none 0 (omega arith)) (all_in_field text (λ i inside. none (suc i) (omega arith)))

tails : (a b : ℕ) (xs ys : List ℕ) → a ∷ xs ≡ b ∷ ys → xs ≡ ys
tails a b xs ys same = cc

heads : (a b : ℕ) (xs ys : List ℕ) → a ∷ xs ≡ b ∷ ys → a ≡ b
heads a b xs ys same = cc

-- what stands in front of a hyphen first, and what stands after it
pub front_once : (a b r s : List ℕ) → All IsInField a → All IsInField b → a ++ hyphen ∷ r ≡ b ++ hyphen ∷ s → (a ≡ b) × (r ≡ s)
front_once [] [] r s fa fb same = (refl, tails hyphen hyphen r s same)
front_once [] (y ∷ ys) r s fa fb same = absurd (All-head IsInField y ys fb (sym (heads hyphen y r (ys ++ hyphen ∷ s) same)))
front_once (x ∷ xs) [] r s fa fb same = absurd (All-head IsInField x xs fa (heads x hyphen (xs ++ hyphen ∷ r) s same))
front_once (x ∷ xs) (y ∷ ys) r s fa fb same =
    let first = heads x y (xs ++ hyphen ∷ r) (ys ++ hyphen ∷ s) same in
    let rest = front_once xs ys r s (All-tail IsInField x xs fa) (All-tail IsInField y ys fb) (tails x y (xs ++ hyphen ∷ r) (ys ++ hyphen ∷ s) same) in
    (λ i. first i ∷ rest.0 i, rest.1)

-- a text without a hyphen has none
no_hyphen : (a b s : List ℕ) → All IsInField a → a ≡ b ++ hyphen ∷ s → ⊥
no_hyphen a b s fa same =
    fa (length b) 0 (omega (arith, ap length same, length-append b (hyphen ∷ s))) (ap (λ (l : List ℕ). get_or l (length b) 0) same ∙ get_or-append_seam b hyphen s 0)

-- a text is cut at its first hyphen in one way
pub cut_once : (a b : List ℕ) (r s : Option (List ℕ)) → All IsInField a → All IsInField b → joined a r ≡ joined b s → (a ≡ b) × (r ≡ s)
cut_once a b None None fa fb same = (same, refl)
cut_once a b None (Some s) fa fb same = absurd (no_hyphen a b s fa same)
cut_once a b (Some r) None fa fb same = absurd (no_hyphen b a r fb (sym same))
cut_once a b (Some r) (Some s) fa fb same = let parts = front_once a b r s fa fb same in (parts.0, ap Some parts.1)

-- ---- ids

lengths_differ : (m n : ℕ) → hex_text 32 m ≡ hex_text 16 n → ⊥
lengths_differ m n same = absurd (omega (arith, (hex_text_IsHexText 32 m).0, (hex_text_IsHexText 16 n).0, ap length same))

-- a text says one trace id at most
pub trace_id_once : (text : List ℕ) (a b : ℕ) → IsTraceId text a → IsTraceId text b → a ≡ b
trace_id_once text a b (_, inl this) (_, inl that) = hex_text_injective 32 a b this.0 that.0 (sym this.1 ∙ that.1)
trace_id_once text a b (_, inl this) (_, inr that) = absurd (lengths_differ a b (sym this.1 ∙ that.1))
trace_id_once text a b (_, inr this) (_, inl that) = absurd (lengths_differ b a (sym that.1 ∙ this.1))
trace_id_once text a b (_, inr this) (_, inr that) = hex_text_injective 16 a b this.0 that.0 (sym this.1 ∙ that.1)

-- and one span id
pub span_id_once : (text : List ℕ) (a b : ℕ) → IsSpanId text a → IsSpanId text b → a ≡ b
span_id_once text a b this that = hex_text_injective 16 a b this.1 that.1 (sym this.2 ∙ that.2)

pub trace_id_in_field : (text : List ℕ) (id : ℕ) → IsTraceId text id → All IsInField text
trace_id_in_field text id (_, inl is) = subst (All IsInField) (sym is.1) (hex_in_field 32 id)
trace_id_in_field text id (_, inr is) = subst (All IsInField) (sym is.1) (hex_in_field 16 id)

pub span_id_in_field : (text : List ℕ) (id : ℕ) → IsSpanId text id → All IsInField text
span_id_in_field text id is = subst (All IsInField) (sym is.2) (hex_in_field 16 id)

-- a text of zeros alone, or of no digits, says no id
pub no_digits : (text : List ℕ) (id : ℕ) → ¬ (IsHexText 32 text) → ¬ (IsHexText 16 text) → IsTraceId text id → ⊥
no_digits text id long short (_, inl is) = long (subst (IsHexText 32) (sym is.1) (hex_text_IsHexText 32 id))
no_digits text id long short (_, inr is) = short (subst (IsHexText 16) (sym is.1) (hex_text_IsHexText 16 id))

-- ---- sampling states

-- a state's mark is one byte, and no hyphen
pub mark_is_short : (state : SamplingState) → IfSome (state_mark state) (λ mark. (length mark ≡ 1) × All IsInField mark)
mark_is_short Accept = (refl, All-cons IsInField 49 [] (λ same. absurd (omega (arith, same))) (All-nil IsInField))
mark_is_short Deny = (refl, All-cons IsInField 48 [] (λ same. absurd (omega (arith, same))) (All-nil IsInField))
mark_is_short Defer = tt
mark_is_short Debug = (refl, All-cons IsInField 100 [] (λ same. absurd (omega (arith, same))) (All-nil IsInField))

-- what tells texts apart that may be left out
first_byte : Option (List ℕ) → ℕ
first_byte None = 0
first_byte (Some []) = 1
first_byte (Some (b ∷ bs)) = b

-- no two states have one mark
mark_once : (s t : SamplingState) → state_mark s ≡ state_mark t → s ≡ t
unfolding first_byte
mark_once Accept Accept same = refl
mark_once Accept Deny same = let bytes : ◌≡◌ {A = ℕ} 49 48 = ap first_byte same in absurd (omega arith)
mark_once Accept Defer same = let bytes : ◌≡◌ {A = ℕ} 49 0 = ap first_byte same in absurd (omega arith)
mark_once Accept Debug same = let bytes : ◌≡◌ {A = ℕ} 49 100 = ap first_byte same in absurd (omega arith)
mark_once Deny Accept same = let bytes : ◌≡◌ {A = ℕ} 48 49 = ap first_byte same in absurd (omega arith)
mark_once Deny Deny same = refl
mark_once Deny Defer same = let bytes : ◌≡◌ {A = ℕ} 48 0 = ap first_byte same in absurd (omega arith)
mark_once Deny Debug same = let bytes : ◌≡◌ {A = ℕ} 48 100 = ap first_byte same in absurd (omega arith)
mark_once Defer Accept same = let bytes : ◌≡◌ {A = ℕ} 0 49 = ap first_byte same in absurd (omega arith)
mark_once Defer Deny same = let bytes : ◌≡◌ {A = ℕ} 0 48 = ap first_byte same in absurd (omega arith)
mark_once Defer Defer same = refl
mark_once Defer Debug same = let bytes : ◌≡◌ {A = ℕ} 0 100 = ap first_byte same in absurd (omega arith)
mark_once Debug Accept same = let bytes : ◌≡◌ {A = ℕ} 100 49 = ap first_byte same in absurd (omega arith)
mark_once Debug Deny same = let bytes : ◌≡◌ {A = ℕ} 100 48 = ap first_byte same in absurd (omega arith)
mark_once Debug Defer same = let bytes : ◌≡◌ {A = ℕ} 100 0 = ap first_byte same in absurd (omega arith)
mark_once Debug Debug same = refl

-- a parent's id alone is no mark, whatever follows that
not_a_mark : (parent rest : Option (List ℕ)) (mark : List ℕ) → IsParent parent → length mark ≡ 1 → parent ≡ Some (joined mark rest) → ⊥
not_a_mark None rest mark is one same = absurd cc
not_a_mark (Some digits) None mark is one same = let bytes : digits ≡ mark = cc in absurd (omega (arith, is.0, one, ap length bytes))
not_a_mark (Some digits) (Some rest) mark is one same =
    let bytes : digits ≡ mark ++ hyphen ∷ rest = cc in no_hyphen digits mark rest (digits_in_field 16 digits is) bytes

-- what stands after a span id has one mark
optional_once : (m n p q : Option (List ℕ)) → IfSome m (λ mark. (length mark ≡ 1) × All IsInField mark) → IfSome n (λ mark. (length mark ≡ 1) × All IsInField mark)
    → IsParent p → IsParent q → optional m p ≡ optional n q → m ≡ n
optional_once None None p q sm sn ip iq same = refl
optional_once None (Some y) p q sm sn ip iq same = absurd (not_a_mark p q y ip sn.0 same)
optional_once (Some x) None p q sm sn ip iq same = absurd (not_a_mark q p x iq sm.0 (sym same))
optional_once (Some x) (Some y) p q sm sn ip iq same =
    let bytes : joined x p ≡ joined y q = cc in ap Some (cut_once x y p q sm.1 sn.1 bytes).0

-- and so says one state at most
pub state_once : (rest : Option (List ℕ)) (s t : SamplingState) → SaysState rest s → SaysState rest t → s ≡ t
state_once rest s t this that =
    mark_once s t (optional_once (state_mark s) (state_mark t) this.parent that.parent (mark_is_short s) (mark_is_short t) this.is_parent that.is_parent (sym this.spelled ∙ that.spelled))

two_decisions : (sampled : Option (List ℕ)) → (sampled ≡ Some (codes "1")) ⊎ (sampled ≡ Some (codes "true")) → (sampled ≡ Some (codes "0")) ⊎ (sampled ≡ Some (codes "false")) → ⊥
unfolding first_byte
two_decisions sampled (inl this) (inl that) = let bytes : ◌≡◌ {A = ℕ} 49 48 = ap first_byte (sym this ∙ that) in absurd (omega arith)
two_decisions sampled (inl this) (inr that) = let bytes : ◌≡◌ {A = ℕ} 49 102 = ap first_byte (sym this ∙ that) in absurd (omega arith)
two_decisions sampled (inr this) (inl that) = let bytes : ◌≡◌ {A = ℕ} 116 48 = ap first_byte (sym this ∙ that) in absurd (omega arith)
two_decisions sampled (inr this) (inr that) = let bytes : ◌≡◌ {A = ℕ} 116 102 = ap first_byte (sym this ∙ that) in absurd (omega arith)

none_and_one : (sampled : Option (List ℕ)) (this that : List ℕ) → sampled ≡ None → (sampled ≡ Some this) ⊎ (sampled ≡ Some that) → ⊥
none_and_one sampled this that none (inl is) = absurd cc
none_and_one sampled this that none (inr is) = absurd cc

-- headers of flags and of a decision say one state at most
pub many_once : (flags sampled : Option (List ℕ)) (s t : SamplingState) → SaysMany flags sampled s → SaysMany flags sampled t → s ≡ t
many_once flags sampled Debug Debug this that = refl
many_once flags sampled Debug Accept this that = absurd (that.0 this)
many_once flags sampled Debug Deny this that = absurd (that.0 this)
many_once flags sampled Debug Defer this that = absurd (that.0 this)
many_once flags sampled Accept Debug this that = absurd (this.0 that)
many_once flags sampled Deny Debug this that = absurd (this.0 that)
many_once flags sampled Defer Debug this that = absurd (this.0 that)
many_once flags sampled Accept Accept this that = refl
many_once flags sampled Deny Deny this that = refl
many_once flags sampled Defer Defer this that = refl
many_once flags sampled Accept Deny this that = absurd (two_decisions sampled this.1 that.1)
many_once flags sampled Deny Accept this that = absurd (two_decisions sampled that.1 this.1)
many_once flags sampled Accept Defer this that = absurd (none_and_one sampled (codes "1") (codes "true") that.1 this.1)
many_once flags sampled Defer Accept this that = absurd (none_and_one sampled (codes "1") (codes "true") this.1 that.1)
many_once flags sampled Deny Defer this that = absurd (none_and_one sampled (codes "0") (codes "false") that.1 this.1)
many_once flags sampled Defer Deny this that = absurd (none_and_one sampled (codes "0") (codes "false") this.1 that.1)

-- a single header says one state alone at most
lone_once : (single : Option (List ℕ)) (s t : SamplingState) → IsLone single s → IsLone single t → s ≡ t
lone_once None s t this that = absurd this
lone_once (Some text) s t this that = mark_once s t (this ∙ sym that)

-- and so there is one decision at most
decision_once : (single flags sampled : Option (List ℕ)) (s t : SamplingState) → SaysDecision single flags sampled s → SaysDecision single flags sampled t → s ≡ t
decision_once single flags sampled s t (inl this) (inl that) = lone_once single s t this that
decision_once single flags sampled s t (inl this) (inr that) = absurd (that.0 s this)
decision_once single flags sampled s t (inr this) (inl that) = absurd (this.0 t that)
decision_once single flags sampled s t (inr this) (inr that) = many_once flags sampled s t this.1 that.1

-- ---- span contexts

same_context : (a b : PlainSpanContext) (s t : SamplingState) → a.trace_id ≡ b.trace_id → a.span_id ≡ b.span_id → a.trace_flags ≡ flags_of s → b.trace_flags ≡ flags_of t → s ≡ t
    → a.is_remote ≡ b.is_remote → a.trace_state ≡ b.trace_state → a ≡ b
same_context a b s t trace_id span_id these those state remote stateless =
    let flags = these ∙ ap flags_of state ∙ sym those in
    λ i. record {
      trace_id = trace_id i;
      span_id = span_id i;
      trace_flags = flags i;
      is_remote = remote i;
      trace_state = stateless i;
    }

-- a text says one span context at most
pub single_once : (text : List ℕ) (a b : PlainSpanContext) → IsSingle text a → IsSingle text b → a ≡ b
single_once text a b this that =
    let outer = front_once this.trace_text that.trace_text (joined this.span_text this.rest) (joined that.span_text that.rest) (trace_id_in_field this.trace_text a.trace_id this.is_trace_id)
    (trace_id_in_field that.trace_text b.trace_id that.is_trace_id) (sym this.spelled ∙ that.spelled) in
    let inner = cut_once this.span_text that.span_text this.rest that.rest (span_id_in_field this.span_text a.span_id this.is_span_id) (span_id_in_field that.span_text b.span_id that.is_span_id) outer.1 in
    let state = state_once that.rest this.state that.state (subst (λ r. SaysState r this.state) inner.1 this.says) that.says in
    same_context a b this.state that.state
    (trace_id_once that.trace_text a.trace_id b.trace_id (subst (λ t. IsTraceId t a.trace_id) outer.0 this.is_trace_id) that.is_trace_id)
    (span_id_once that.span_text a.span_id b.span_id (subst (λ t. IsSpanId t a.span_id) inner.0 this.is_span_id) that.is_span_id)
    this.flags that.flags state (this.remote ∙ sym that.remote) (this.stateless ∙ sym that.stateless)

given_once : (given : Option (List ℕ)) (a b : List ℕ) → given ≡ Some a → given ≡ Some b → a ≡ b
given_once given a b this that = cc

-- so do the many headers
pub many_read_once : (texts : Texts) (a b : PlainSpanContext) → IsMany texts a → IsMany texts b → a ≡ b
many_read_once texts a b this that =
    let traces = given_once _ this.trace_text that.trace_text this.trace_given that.trace_given in
    let spans = given_once _ this.span_text that.span_text this.span_given that.span_given in
    same_context a b this.state that.state
    (trace_id_once that.trace_text a.trace_id b.trace_id (subst (λ t. IsTraceId t a.trace_id) traces this.is_trace_id) that.is_trace_id)
    (span_id_once that.span_text a.span_id b.span_id (subst (λ t. IsSpanId t a.span_id) spans this.is_span_id) that.is_span_id)
    this.flags that.flags (decision_once _ _ _ this.state that.state this.says that.says) (this.remote ∙ sym that.remote) (this.stateless ∙ sym that.stateless)

-- and all that a carrier has
pub span_once : (texts : Texts) (a b : PlainSpanContext) → SaysSpan texts a → SaysSpan texts b → a ≡ b
span_once texts a b (inl this) (inl that) = single_once _ a b this that
span_once texts a b (inl this) (inr that) = absurd (that.0 a this)
span_once texts a b (inr this) (inl that) = absurd (this.0 b that)
span_once texts a b (inr this) (inr that) = many_read_once texts a b this.1 that.1

-- zeros alone say no trace id
pub zeros_say_none : (count : ℕ) (text : List ℕ) (id : ℕ) → (count ≡ 32) ⊎ (count ≡ 16) → text ≡ hex_text count 0 → IsTraceId text id → ⊥
zeros_say_none count text id (inl long) zeros (some, inl is) = absurd (omega (arith, some, hex_text_injective 32 id 0 is.0 (lit< tt) (sym is.1 ∙ zeros ∙ ap (λ n. hex_text n 0) long)))
zeros_say_none count text id (inl long) zeros (some, inr is) = absurd (lengths_differ 0 id (sym (zeros ∙ ap (λ n. hex_text n 0) long) ∙ is.1))
zeros_say_none count text id (inr short) zeros (some, inl is) = absurd (lengths_differ id 0 (sym is.1 ∙ zeros ∙ ap (λ n. hex_text n 0) short))
zeros_say_none count text id (inr short) zeros (some, inr is) = absurd (omega (arith, some, hex_text_injective 16 id 0 is.0 (lit< tt) (sym is.1 ∙ zeros ∙ ap (λ n. hex_text n 0) short)))

-- ---- what is read

-- where no parent's id stands alone, what is cut off is a mark, and a parent's id after it
pub rest_read : (text mark : List ℕ) (after : Option (List ℕ)) (state : SamplingState) → ¬ (IsHexText 16 text) → text ≡ joined mark after → All IsInField mark
    → SaysState (Some text) state → (state_mark state ≡ Some mark) × IsParent after
rest_read text mark after state alone cut field says = by (state_mark state) says.parent (mark_is_short state) says.is_parent says.spelled
  where
    by : (m p : Option (List ℕ)) → IfSome m (λ x. (length x ≡ 1) × All IsInField x) → IsParent p → Some text ≡ optional m p → (m ≡ Some mark) × IsParent after
    by None None short is same = absurd cc
    by None (Some digits) short is same = let bytes : text ≡ digits = cc in absurd (alone (subst (IsHexText 16) (sym bytes) is))
    by (Some x) p short is same =
        let bytes : text ≡ joined x p = cc in
        let parts = cut_once x mark p after short.1 field (sym bytes ∙ cut) in
        (ap Some parts.0, subst IsParent parts.1 is)

-- and so they say it
pub rest_says : (text mark : List ℕ) (after : Option (List ℕ)) (state : SamplingState) → text ≡ joined mark after → state_mark state ≡ Some mark → IsParent after → SaysState (Some text) state
rest_says text mark after state cut is parent = record {
  parent = after;
  is_parent = parent;
  spelled = ap Some cut ∙ ap (λ m. optional m after) (sym is);
}

-- what is cut off in front of the first hyphen is the trace id
pub first_field : (text front : List ℕ) (after : Option (List ℕ)) (c : PlainSpanContext) (is : IsSingle text c) → text ≡ joined front after → All IsInField front
    → IsTraceId front c.trace_id × (after ≡ Some (joined is.span_text is.rest))
first_field text front after c is cut field =
    let parts = cut_once front is.trace_text after (Some (joined is.span_text is.rest)) field (trace_id_in_field is.trace_text c.trace_id is.is_trace_id) (sym cut ∙ is.spelled) in
    (subst (λ t. IsTraceId t c.trace_id) (sym parts.0) is.is_trace_id, parts.1)

-- and after it stand the span id and the state
pub second_field : (text front span : List ℕ) (after rest : Option (List ℕ)) (bytes : List ℕ) (c : PlainSpanContext) (is : IsSingle text c) → text ≡ joined front after → All IsInField front
    → after ≡ Some bytes → bytes ≡ joined span rest → All IsInField span → IsSpanId span c.span_id × SaysState rest is.state
second_field text front span after rest bytes c is cut field some cut_again field_again =
    let first = first_field text front after c is cut field in
    let same : Some bytes ≡ Some (joined is.span_text is.rest) = sym some ∙ first.1 in
    let bytes_are : bytes ≡ joined is.span_text is.rest = cc in
    let parts = cut_once span is.span_text rest is.rest field_again (span_id_in_field is.span_text c.span_id is.is_span_id) (sym cut_again ∙ bytes_are) in
    (subst (λ t. IsSpanId t c.span_id) (sym parts.0) is.is_span_id, subst (λ r. SaysState r is.state) (sym parts.1) is.says)
