-- The HTML form: fixed texts, and between them the traces as JSON.
use Rattle.std.specs.Prelude.{ℕ, ◌==◌, List, [], ◌∷◌, ◌++◌, codes, if◌then◌else◌}
use Rattle.std.specs.List.{flat_map}
use Rattle.json.specs.Print.{print}
use Rattle.json.specs.Tree.{json_tokens}
use Rattle.otel_picture.specs.Drawn.{PlainTraces}
use Rattle.otel_picture.specs.HtmlJson.{html_json}
use Rattle.otel_picture.specs.declared.html.TheConstants.{BEGIN, BODY, END, NEXT_SCRIPT, SCRIPT}
use Rattle.otel_picture.specs.declared.html_list.TheConstants.{LIST_SCRIPT}
use Rattle.otel_picture.specs.declared.html_style.TheConstants.{STYLE}
use Rattle.otel_picture.specs.declared.html_trace.TheConstants.{TRACE_SCRIPT}

-- a byte as it stands in the file: one that HTML could take for its own by its number, as JSON has it in a string
abbrev pub safe_byte : ℕ → List ℕ
safe_byte byte =
    if byte == 60 then codes "\\u003c" else
    (if byte == 62 then codes "\\u003e" else (if byte == 38 then codes "\\u0026" else byte ∷ []))

abbrev pub safe_bytes : List ℕ → List ℕ
safe_bytes = flat_map safe_byte

-- the JSON text of the file: the value that its data are, printed
abbrev pub html_data : PlainTraces → List ℕ
html_data drawn = safe_bytes (print (json_tokens (html_json drawn)))

-- what stands in front of the data, and what after them
unfoldable pub html_begin : List ℕ
html_begin = BEGIN.now ++ (STYLE.now ++ BODY.now)

unfoldable pub html_end : List ℕ
html_end = SCRIPT.now ++ (LIST_SCRIPT.now ++ (NEXT_SCRIPT.now ++ (TRACE_SCRIPT.now ++ END.now)))

-- traces as one HTML file
abbrev pub html_text : PlainTraces → List ℕ
html_text drawn = html_begin ++ (html_data drawn ++ html_end)
