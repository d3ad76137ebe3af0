-- The map of settings: what it has at a name, and after one more line.
use Rattle.std.proofs.Common.{◌≡◌, ◌∙◌, ℕ, List, [], ◌∷◌, ◌++◌, Option, String, false, length, map, nat_eq, string_bytes, ap, refl, sym, Bor}
use Rattle.std.specs.BTreeMap.{BTreeMap, get_by_text}
use Rattle.std.specs.FinMap.{empty, from_entries, get, insert}
use Rattle.std.specs.List.{fold}
use Rattle.std.specs.Cmp.Lexicographic.{slice_cmp}
use Rattle.std.specs.Option.{option_map}
use Rattle.std.specs.Ordering.{nat_cmp}
use Rattle.std.proofs.lemmas.List.{map_push}
use Rattle.std.proofs.lemmas.List.Sums.{fold_push}
use Rattle.opentelemetry.specs.TextMap.{TextMap, text_entries, text_map}
use Rattle.opentelemetry.proofs.TextMapLemmas.{get-text_map}
use Rattle.otel_embed.specs.SettingLines.{setting_of, with_line}

-- what is found under a name
pub found_in : {Y Z : Type 0} (m : BTreeMap (String Y) (String Z)) (settings : TextMap) (name : List ℕ) (found : Option (String Z)) → text_map m ≡ settings → found ≡ get_by_text m name
    → option_map string_bytes found ≡ get settings name
found_in m settings name found view is = ap (option_map string_bytes) is ∙ sym (get-text_map m name) ∙ ap (λ (seen : TextMap). get seen name) view

-- a line that is not empty
pub line_added : (settings : TextMap) (line : List ℕ) → nat_eq (length line) 0 ≡ false → with_line settings line ≡ insert settings (setting_of line).0 (setting_of line).1
line_added settings [] h = cc
line_added settings (b ∷ bs) h = refl

-- one more line
pub line_more : (before after : TextMap) (lines : List (Bor (List ℕ))) (line : Bor (List ℕ)) → before ≡ fold with_line empty (map (λ l. l.now) lines) → after ≡ with_line before line.now
    → after ≡ fold with_line empty (map (λ l. l.now) (lines ++ line ∷ []))
line_more before after lines line so_far is =
    is ∙ ap (λ (settings : TextMap). with_line settings line.now) so_far
    ∙ sym (ap (fold with_line empty) (map_push (λ l. l.now) lines line) ∙ fold_push with_line empty (map (λ l. l.now) lines) line.now)

-- a map without entries
pub no_settings : {Y Z : Type 0} (m : BTreeMap (String Y) (String Z)) → m.entries ≡ [] → text_map m ≡ empty
no_settings {Y} {Z} m none = ap (λ (es : List (String Y × String Z)). from_entries {R = slice_cmp nat_cmp} (text_entries es)) none
