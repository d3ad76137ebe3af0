-- How words ask for a view.
use Rattle.std.specs.Prelude.{true, ℕ, List, [], ◌∷◌, Option, Some, None, codes, option_and_then, if◌then◌else◌}
use Rattle.std.specs.Option.{option_map}
use Rattle.std.specs.Str.{bytes_eq}
use Rattle.std.specs.Str.Parse.{starts_with_minus}
use Rattle.otel_picture.specs.Choices.{every}
use Rattle.otel_picture.specs.declared.choice.Choice.{Choice}
use Rattle.otel_trace_lines.specs.Numbers.{decimal_in}
use Rattle.otel_trace_run.specs.Arguments.{columns_in}
use Rattle.otel_trace_run.specs.Words.{trace_id_in}
use Rattle.otel_trace_run.specs.declared.asked_view.View.{View}
use Rattle.otel_trace_run.specs.declared.asked_view.ViewForm.{ViewForm}
use Rattle.otel_trace_run.specs.declared.asked_view.ViewForm.TheVariants as views
use Rattle.otel_trace_run.specs.declared.picture.PictureForm.TheVariants as forms

-- what a word and the one after it add to a choice
unfoldable pub narrowed : List ℕ → List ℕ → Choice → Option Choice
narrowed word value old =
    if bytes_eq word (codes "--slowest")
    then option_map (λ count. record old { slowest = Some count }) (decimal_in value) else
    (if bytes_eq word (codes "--trace")
    then option_map (λ id. record old { trace_id = Some id }) (trace_id_in value) else None)

-- a choice with what a word adds by itself, if it does
unfoldable pub flagged : List ℕ → Choice → Option Choice
flagged word old =
    if bytes_eq word (codes "--errors") then Some (record old { errors_only = true }) else
    (if bytes_eq word (codes "--attributes") then Some (record old { attributes = true }) else None)

-- what is chosen on where there is a choice; else another
abbrev pub on_or : Option Choice → (Choice → Option Choice) → Option Choice → Option Choice
on_or None on other = other
on_or (Some choice) on other = on choice

-- what words choose, after what was chosen before them
abbrev mutual
  pub chosen : List (List ℕ) → Choice → Option Choice
  chosen [] old = Some old
  chosen (word ∷ after) old = on_or (flagged word old) (chosen after) (chosen_by word after old)

  pub chosen_by : List ℕ → List (List ℕ) → Choice → Option Choice
  chosen_by word [] old = None
  chosen_by word (value ∷ after) old = option_and_then (chosen after) (narrowed word value old)

-- the form where no word names one, and that which a word names
abbrev pub plain_form : ViewForm
plain_form = views.Picture (forms.Text 72)

unfoldable pub form_in : List ℕ → Option ViewForm
form_in word =
    if bytes_eq word (codes "svg") then Some (views.Picture forms.Svg) else
    (if bytes_eq word (codes "json") then Some views.Summary else
    (if bytes_eq word (codes "html") then Some views.Html
    else option_map (λ columns. views.Picture (forms.Text columns)) (columns_in word)))

abbrev pub viewed : ViewForm → List (List ℕ) → Option View
viewed form words = option_map (λ choice. record { form = form; choice = choice }) (chosen words every)

-- the words after `view`: a form, if the first one does not begin with a minus, and what is chosen
abbrev pub view_in : List (List ℕ) → Option View
view_in [] = viewed plain_form []
view_in (word ∷ after) =
    if starts_with_minus word then viewed plain_form (word ∷ after)
    else option_and_then (λ form. viewed form after) (form_in word)
