-- The setting of a name is what the last line of that name says.
use Rattle.std.proofs.Common.{◌≡◌, ◌∙◌, ℕ, List, [], ◌∷◌, Bool, true, false, cond, Option, Some, None, ap, refl}
use Rattle.std.specs.Cmp.Lexicographic.{nat_list_cmp_total, slice_cmp}
use Rattle.std.specs.FinMap.{empty, get, get-empty, get-insert}
use Rattle.std.specs.List.{fold}
use Rattle.std.specs.Option.{option_or}
use Rattle.std.specs.Ordering.{nat_cmp}
use Rattle.std.specs.Str.{bytes_eq}
use Rattle.std.specs.Str.Lines.{lines}
use Rattle.std.proofs.lemmas.Map.Text.{is_eq-slice_cmp}
use Rattle.opentelemetry.specs.TextMap.{TextMap}
use Rattle.otel_embed.specs.SettingLines.{LastLinesCount, said_by, said_last, setting_of, with_line}

either : {A : Type 0} (b : Bool) (x : A) (rest : Option A) → cond b (Some x) rest ≡ option_or (cond b (Some x) None) rest
either true x rest = refl
either false x rest = refl

or_none : {A : Type 0} (o : Option A) → option_or o None ≡ o
or_none None = refl
or_none (Some x) = refl

or_assoc : {A : Type 0} (a b c : Option A) → option_or a (option_or b c) ≡ option_or (option_or a b) c
or_assoc None b c = refl
or_assoc (Some x) b c = refl

one_line : (settings : TextMap) (line name : List ℕ) → get (with_line settings line) name ≡ option_or (said_by name line) (get settings name)
one_line settings [] name = refl
one_line settings (b ∷ bs) name =
    let setting = setting_of (b ∷ bs) in
    get-insert nat_list_cmp_total settings setting.0 setting.1 name
    ∙ ap (λ (is : Bool). cond is (Some setting.1) (get settings name)) (is_eq-slice_cmp name setting.0)
    ∙ either (bytes_eq name setting.0) setting.1 (get settings name)

said_after : (settings : TextMap) (ls : List (List ℕ)) (name : List ℕ) → get (fold with_line settings ls) name ≡ option_or (said_last name ls) (get settings name)
said_after settings [] name = refl
said_after settings (line ∷ more) name =
    said_after (with_line settings line) more name ∙ ap (option_or (said_last name more)) (one_line settings line name)
    ∙ or_assoc (said_last name more) (said_by name line) (get settings name)

pub last_lines : LastLinesCount
last_lines = λ text name.
    said_after empty (lines text) name
    ∙ ap (option_or (said_last name (lines text))) (get-empty (slice_cmp nat_cmp) name) ∙ or_none (said_last name (lines text))
