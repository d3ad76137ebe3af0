-- What the program says of itself, and of words that ask for nothing.
use Rattle.std.specs.Prelude.{◌≡◌, ◌⊎◌, ◌||◌, ℕ, Bool, List, [], ◌∷◌, ◌++◌, Option, Some, None, codes, if◌then◌else◌}
use Rattle.std.specs.Str.{bytes_eq}
use Rattle.std.specs.Io.KnownBytes.{Appends}
use Rattle.otel_export.specs.Streams.{AppendsBeginning}
use Rattle.otel_trace_run.specs.Arguments.{usage_text}
use Rattle.otel_trace_run.specs.declared.pages.Page.{Page}
use Rattle.otel_trace_run.specs.declared.pages.Page.TheVariants as pages
use Rattle.otel_trace_run.specs.declared.pages.TheConstants.{HELP, OTLP_HELP, OTLP_USAGE, PICTURE_HELP, PICTURE_USAGE}
use Rattle.otel_trace_run.specs.declared.pages.TheConstants.{STEPS_HELP, SVG_HELP, SVG_USAGE, TRACE_HELP, VERSION, VIEW_HELP, VIEW_USAGE}

-- the text of a page, as the program's source has it
abbrev pub page_text : Page → List ℕ
page_text pages.All = HELP.now
page_text pages.Trace = TRACE_HELP.now
page_text pages.Steps = STEPS_HELP.now
page_text pages.Otlp = OTLP_HELP.now
page_text pages.Picture = PICTURE_HELP.now
page_text pages.Svg = SVG_HELP.now
page_text pages.View = VIEW_HELP.now
page_text pages.Version = VERSION.now

-- a word that asks for help, and one that asks for the version
abbrev pub is_help : List ℕ → Bool
is_help word = bytes_eq word (codes "help") || bytes_eq word (codes "--help") || bytes_eq word (codes "-h")

abbrev pub is_version : List ℕ → Bool
is_version word = bytes_eq word (codes "version") || bytes_eq word (codes "--version")

-- the page of a mode, by its word
unfoldable pub page_of_mode : List ℕ → Option Page
page_of_mode word =
    if bytes_eq word (codes "trace") then Some pages.Trace else
    (if bytes_eq word (codes "steps") then Some pages.Steps else
    (if bytes_eq word (codes "otlp") then Some pages.Otlp else
    (if bytes_eq word (codes "picture") then Some pages.Picture else
    (if bytes_eq word (codes "svg") then Some pages.Svg else
    (if bytes_eq word (codes "view") then Some pages.View else None)))))

-- the page that the words after one for help ask for, and those after one for the version
abbrev pub help_in : List (List ℕ) → Option Page
help_in [] = Some pages.All
help_in (mode ∷ []) = page_of_mode mode
help_in (mode ∷ word ∷ words) = None

abbrev pub version_in : List (List ℕ) → Option Page
version_in [] = Some pages.Version
version_in (word ∷ words) = None

-- the usage of the mode that a first word names, where its text is not fixed, or else that of the first two modes
unfoldable pub usage_of : List ℕ → List ℕ
usage_of word =
    if bytes_eq word (codes "otlp") then OTLP_USAGE.now else
    (if bytes_eq word (codes "picture") then PICTURE_USAGE.now else
    (if bytes_eq word (codes "svg") then SVG_USAGE.now else
    (if bytes_eq word (codes "view") then VIEW_USAGE.now else usage_text)))

abbrev pub usage_in : List (List ℕ) → List ℕ
usage_in [] = usage_text
usage_in (word ∷ after) = usage_of word

-- what is said of an attribute that does not read
abbrev pub unread_text : List ℕ → List ℕ
unread_text member = codes "cannot read the attribute: " ++ (member ++ 10 ∷ OTLP_USAGE.now)

-- a text was shown, by the status: whole at 0, and at 1 a beginning of it
pub record ShowsText (before after : Option (List ℕ)) (text : List ℕ) (status : ℕ) : Type 0 where
  pub small : (status ≡ 0) ⊎ (status ≡ 1)
  pub whole : status ≡ 0 → Appends before after text
  pub begun : status ≡ 1 → AppendsBeginning before after text
