-- Texts of tokens, octets and blanks: which bytes they lack, what trimming leaves of them, and where they are cut.
use Rattle.std.proofs.Common.{◌≡◌, ◌≢◌, ℕ, ◌+◌, ◌<◌, ◌≤◌, Bool, true, false, not, ◌&&◌, ◌||◌, eqb, get_or, List, [], ◌∷◌, ◌++◌, length, reverse, Option, Some, None, refl, sym, ap, ◌∙◌, arith, append-nil, eq-eqb, ne_eqb}
use Rattle.std.specs.Borrow.{Bor}
use Rattle.std.specs.List.{list_all}
use Rattle.std.specs.Option.{option_map, option_map_or}
use Rattle.std.proofs.lemmas.Bool.{both_ways, cond-true, cond-false, cond_both}
use Rattle.std.proofs.lemmas.List.{length-reverse, reverse-append, reverse-reverse}
use Rattle.std.proofs.lemmas.List.Elements.{All-nil, All-cons, All-head, All-tail, All-append, All-from_get_or}
use Rattle.std.proofs.lemmas.List.Folds.{list_all-append}
use Rattle.std.proofs.lemmas.Str.Pattern.{IsSplitOnceResult, split_parts}
use Rattle.opentelemetry.specs.Tracestate.{is_blank, trim_front, trimmed}
use Rattle.opentelemetry.proofs.Tracestates.{both_true}
use Rattle.otel_propagation.specs.StrictGrammar.{is_octet, is_token_byte, is_token, are_octets, without_blanks, IsOptionalSpace}
use Rattle.otel_propagation.specs.StrictBaggage.{split_once}
use Rattle.otel_propagation.proofs.BaggagePieceLemmas.{Lacks}

-- a byte that passes a test is none that fails it
apart : (p : ℕ → Bool) (c b : ℕ) → p c ≡ false → p b ≡ true → eqb b c ≡ false
apart p c b fails passes = ne_eqb b c (λ same. both_ways (p c) fails (ap p (sym same) ∙ passes))

-- so a text of such bytes lacks it
pub all_lack : (p : ℕ → Bool) (c : ℕ) → p c ≡ false → (text : List ℕ) → list_all p text ≡ true → Lacks c text
all_lack p c fails [] all = All-nil (λ b. eqb b c ≡ false)
all_lack p c fails (b ∷ bs) all =
    let parts = both_true (p b) (list_all p bs) all in All-cons (λ b. eqb b c ≡ false) b bs (apart p c b fails parts.0) (all_lack p c fails bs parts.1)

-- a test that follows from another
pub all_weaker : (p q : ℕ → Bool) → ((b : ℕ) → p b ≡ true → q b ≡ true) → (text : List ℕ) → list_all p text ≡ true → list_all q text ≡ true
all_weaker p q follows [] all = refl
all_weaker p q follows (b ∷ bs) all =
    let parts = both_true (p b) (list_all p bs) all in (λ i. follows b parts.0 i && all_weaker p q follows bs parts.1 i)

pub all_append : (p : ℕ → Bool) (xs ys : List ℕ) → list_all p xs ≡ true → list_all p ys ≡ true → list_all p (xs ++ ys) ≡ true
all_append p xs ys these those = list_all-append p xs ys ∙ (λ i. these i && those i)

all_reverse : (p : ℕ → Bool) (xs : List ℕ) → list_all p xs ≡ true → list_all p (reverse xs) ≡ true
all_reverse p [] all = refl
all_reverse p (x ∷ xs) all =
    let parts = both_true (p x) (list_all p xs) all in
    ap (list_all p) (reverse-append (x ∷ []) xs) ∙ all_append p (reverse xs) (x ∷ []) (all_reverse p xs parts.1) (λ i. parts.0 i && true)

-- a byte that is neither a space nor a tab
abbrev pub is_dark : ℕ → Bool
is_dark b = not (is_blank b)

dark_byte : (p : ℕ → Bool) → p 32 ≡ false → p 9 ≡ false → (b : ℕ) → p b ≡ true → is_dark b ≡ true
dark_byte p space tab b passes = λ i. not (apart p 32 b space passes i || apart p 9 b tab passes i)

pub dark_key_bytes : (text : List ℕ) → list_all is_token_byte text ≡ true → list_all is_dark text ≡ true
unfolding is_token_byte
dark_key_bytes text all = all_weaker is_token_byte is_dark (dark_byte is_token_byte refl refl) text all

pub dark_octets : (text : List ℕ) → are_octets text ≡ true → list_all is_dark text ≡ true
unfolding is_octet
dark_octets text all = all_weaker is_octet is_dark (dark_byte is_octet refl refl) text all

-- the bytes of a token
pub key_bytes : (key : List ℕ) → is_token key ≡ true → list_all is_token_byte key ≡ true
key_bytes [] is = refl
key_bytes (b ∷ bs) is = is

pub dark_key : (key : List ℕ) → is_token key ≡ true → list_all is_dark key ≡ true
dark_key key is = dark_key_bytes key (key_bytes key is)

-- a byte that stands in no key, no value and no white space
pub record IsBreak (c : ℕ) : Type 0 where
  pub token : is_token_byte c ≡ false
  pub octet : is_octet c ≡ false
  pub blank : is_blank c ≡ false
  pub equals : eqb 61 c ≡ false

pub comma_is : IsBreak 44
unfolding is_token_byte is_octet
comma_is = record { token = refl; octet = refl; blank = refl; equals = refl }

pub semicolon_is : IsBreak 59
unfolding is_token_byte is_octet
semicolon_is = record { token = refl; octet = refl; blank = refl; equals = refl }

pub key_lacks_equals : (key : List ℕ) → is_token key ≡ true → Lacks 61 key
unfolding is_token_byte
key_lacks_equals key is = all_lack is_token_byte 61 refl key (key_bytes key is)

pub key_lacks : (c : ℕ) → IsBreak c → (key : List ℕ) → is_token key ≡ true → Lacks c key
key_lacks c breaks key is = all_lack is_token_byte c breaks.token key (key_bytes key is)

pub octets_lack : (c : ℕ) → IsBreak c → (value : List ℕ) → are_octets value ≡ true → Lacks c value
octets_lack c breaks value is = all_lack is_octet c breaks.octet value is

pub space_lacks : (c : ℕ) → is_blank c ≡ false → (space : List ℕ) → IsOptionalSpace space → Lacks c space
space_lacks c light_byte space is = all_lack is_blank c light_byte space is

pub both_lack : (c : ℕ) (xs ys : List ℕ) → Lacks c xs → Lacks c ys → Lacks c (xs ++ ys)
both_lack c xs ys these those = All-append (λ b. eqb b c ≡ false) xs ys these those

pub cons_lacks : (c b : ℕ) (bs : List ℕ) → eqb b c ≡ false → Lacks c bs → Lacks c (b ∷ bs)
cons_lacks c b bs first rest = All-cons (λ b. eqb b c ≡ false) b bs first rest

light : (b : Bool) → not b ≡ true → b ≡ false
light true is = absurd (cc)
light false is = refl

front_blanks : (space text : List ℕ) → IsOptionalSpace space → trim_front (space ++ text) ≡ trim_front text
front_blanks [] text is = refl
front_blanks (b ∷ bs) text is = let parts = both_true (is_blank b) (list_all is_blank bs) is in cond-true _ _ _ parts.0 ∙ front_blanks bs text parts.1

dark_stays : (text : List ℕ) → list_all is_dark text ≡ true → trim_front text ≡ text
dark_stays [] is = refl
dark_stays (b ∷ bs) is = cond-false _ _ _ (light (is_blank b) (both_true (is_dark b) (list_all is_dark bs) is).0)

front_dark : (text space : List ℕ) → list_all is_dark text ≡ true → IsOptionalSpace space → trim_front (reverse (trim_front (text ++ space))) ≡ reverse text
front_dark [] space is blank = ap (λ t. trim_front (reverse t)) (ap trim_front (sym (append-nil space)) ∙ front_blanks space [] blank)
front_dark (b ∷ bs) space is blank =
    ap (λ t. trim_front (reverse t)) (cond-false _ _ _ (light (is_blank b) (both_true (is_dark b) (list_all is_dark bs) is).0))
    ∙ ap trim_front (reverse-append (b ∷ bs) space)
    ∙ front_blanks (reverse space) (reverse (b ∷ bs)) (all_reverse is_blank space blank)
    ∙ dark_stays (reverse (b ∷ bs)) (all_reverse is_dark (b ∷ bs) is)

-- what stands between blanks is what trimming leaves
pub trim_between : (before text after : List ℕ) → IsOptionalSpace before → list_all is_dark text ≡ true → IsOptionalSpace after → trimmed (before ++ (text ++ after)) ≡ text
trim_between before text after blank dark more =
    ap (λ t. reverse (trim_front (reverse t))) (front_blanks before (text ++ after) blank)
    ∙ ap reverse (front_dark text after dark more) ∙ reverse-reverse text

front_length : (text : List ℕ) → length (trim_front text) ≤ length text
front_length [] = omega arith
front_length (b ∷ bs) = let rest = front_length bs in cond_both (is_blank b) (trim_front bs) (b ∷ bs) (λ l. length l ≤ length (b ∷ bs)) (λ _. omega arith) (λ _. omega arith)

-- a text is no longer when it is trimmed
pub length-trimmed : (text : List ℕ) → length (trimmed text) ≤ length text
length-trimmed text =
    let front = front_length text in
    let turned = length-reverse (trim_front text) in
    let back = front_length (reverse (trim_front text)) in
    let all = length-reverse (trim_front (reverse (trim_front text))) in omega arith

-- what optional white space leaves of a text
pub blanks_gone : (space : List ℕ) → IsOptionalSpace space → without_blanks space ≡ []
blanks_gone [] is = refl
blanks_gone (b ∷ bs) is =
    let parts = both_true (is_blank b) (list_all is_blank bs) is in cond-false _ _ _ (ap not parts.0) ∙ blanks_gone bs parts.1

pub dark_kept : (text : List ℕ) → list_all is_dark text ≡ true → without_blanks text ≡ text
dark_kept [] is = refl
dark_kept (b ∷ bs) is =
    let parts = both_true (is_dark b) (list_all is_dark bs) is in cond-true _ _ _ parts.0 ∙ ap (λ l. b ∷ l) (dark_kept bs parts.1)

-- a text is cut at the first of a byte
pub cut_found : (c : ℕ) (before after : List ℕ) → Lacks c before → split_once c (before ++ c ∷ after) ≡ Some (before, after)
cut_found c [] after lacks = cond-true _ _ _ (eq-eqb c c refl)
cut_found c (b ∷ bs) after lacks =
    cond-false _ _ _ (All-head (λ b. eqb b c ≡ false) b bs lacks)
    ∙ ap (option_map (λ (cut : List ℕ × List ℕ). (b ∷ cut.0, cut.1))) (cut_found c bs after (All-tail (λ b. eqb b c ≡ false) b bs lacks))

pub cut_none : (c : ℕ) (text : List ℕ) → Lacks c text → split_once c text ≡ None
cut_none c [] lacks = refl
cut_none c (b ∷ bs) lacks =
    cond-false _ _ _ (All-head (λ b. eqb b c ≡ false) b bs lacks)
    ∙ ap (option_map (λ (cut : List ℕ × List ℕ). (b ∷ cut.0, cut.1))) (cut_none c bs (All-tail (λ b. eqb b c ≡ false) b bs lacks))

all_others : (c : ℕ) (bs : List ℕ) → ((i : ℕ) → i < length bs → get_or bs i 0 ≢ c) → Lacks c bs
all_others c bs none = All-from_get_or (λ b. eqb b c ≡ false) bs 0 (λ i inside. ne_eqb (get_or bs i 0) c (none i inside))

-- as `split_once` cuts it
pub cut_as_split : (c : ℕ) (text : List ℕ) (before after : Bor (List ℕ)) → IsSplitOnceResult c text (Some (before, after)) → c < 128 → split_once c text ≡ Some (before.now, after.now)
cut_as_split c text before after h ascii =
    let parts = split_parts c text (Some (before, after)) h ascii in ap (split_once c) parts.0 ∙ cut_found c before.now after.now (all_others c before.now parts.1)

pub uncut_as_split : (c : ℕ) (text : List ℕ) → IsSplitOnceResult c text None → c < 128 → split_once c text ≡ None
uncut_as_split c text h ascii = cut_none c text (all_others c text (split_parts c text None h ascii))

-- how long the parts of a text that was cut are, with the byte between them
abbrev pub cut_bytes : Option (List ℕ × List ℕ) → ℕ
cut_bytes cut = option_map_or (λ parts. length parts.0 + length parts.1 + 1) cut 0

pub length-split_once : (c : ℕ) (text : List ℕ) → cut_bytes (split_once c text) ≤ length text
length-split_once c [] = omega arith
length-split_once c (b ∷ bs) =
    cond_both (eqb b c) (Some ([], bs)) (option_map (λ cut. (b ∷ cut.0, cut.1)) (split_once c bs)) (λ cut. cut_bytes cut ≤ length (b ∷ bs))
    (λ _. omega arith) (λ _. longer (split_once c bs) (length-split_once c bs))
  where
    longer : (cut : Option (List ℕ × List ℕ)) → cut_bytes cut ≤ length bs → cut_bytes (option_map (λ parts. (b ∷ parts.0, parts.1)) cut) ≤ length (b ∷ bs)
    longer None is = omega arith
    longer (Some parts) is = omega arith
