-- The shapes and the labels of the SVG form.
use Rattle.std.specs.Prelude.{ℕ, ◌+◌, ◌-◌, ◌*◌, ◌^◌, List, ◌++◌, codes, decimal, min}
use Rattle.std.specs.Str.{chars}
use Rattle.otel_picture.specs.Dates.{moment_text}
use Rattle.otel_picture.specs.Texts.{escaped_text}

-- the greatest number of 64 bits: what is counted stops there
abbrev pub most : ℕ
most = 2 ^ 64 - 1

-- a line so many lines further on
abbrev pub line_after : (line count : ℕ) → ℕ
line_after line count = min most (line + count)

-- how far down a line is, and so much further
abbrev pub down : (line more : ℕ) → ℕ
down line more = min most (min most (line * 20) + more)

-- a text at a place
unfoldable pub label_svg : (x y : ℕ) → List ℕ → List ℕ
label_svg x y text =
    codes "<text x=\"" ++ (decimal x ++ (codes "\" y=\"" ++ (decimal y
    ++ (codes "\" xml:space=\"preserve\">" ++ (escaped_text (chars text) ++ codes "</text>")))))

-- a text that ends at a place
unfoldable pub end_label_svg : (x y : ℕ) → List ℕ → List ℕ
end_label_svg x y text =
    codes "<text class=\"end\" x=\"" ++ (decimal x ++ (codes "\" y=\"" ++ (decimal y
    ++ (codes "\" xml:space=\"preserve\">" ++ (escaped_text (chars text) ++ codes "</text>")))))

-- what a reader is shown over what stands around it
unfoldable pub title_svg : List ℕ → List ℕ
title_svg text = codes "<title>" ++ (escaped_text (chars text) ++ codes "</title>")

-- the beginning of a mark where an event happened, a line across its bar
unfoldable pub mark_svg : (x y : ℕ) → List ℕ
mark_svg x y = codes "<path class=\"event\" d=\"M" ++ (decimal x ++ (codes " " ++ (decimal y ++ codes "v14\">")))

-- the sign in front of the bar of a span that failed
unfoldable pub sign_svg : (x y : ℕ) → List ℕ
sign_svg x y =
    codes "<text class=\"sign\" x=\"" ++ (decimal x ++ (codes "\" y=\"" ++ (decimal y ++ codes "\">!</text>")))

-- the rest of a bar, after its class
unfoldable pub place_svg : (x y width : ℕ) → List ℕ
place_svg x y width =
    codes "\" x=\"" ++ (decimal x ++ (codes "\" y=\"" ++ (decimal y ++ (codes "\" width=\"" ++ (decimal width
    ++ codes "\" height=\"12\"/>")))))

-- the line of a tick, from so far down to so far down
unfoldable pub line_svg : (x from to : ℕ) → List ℕ
line_svg x from to =
    codes "<path class=\"tick\" d=\"M" ++ (decimal x ++ (codes " " ++ (decimal from ++ (codes "V" ++ (decimal to
    ++ codes "\"/>")))))

-- the root of the file, so high, and the page on which it is drawn
unfoldable pub root_svg : (height : ℕ) → List ℕ
root_svg height =
    codes "<svg xmlns=\"http://www.w3.org/2000/svg\" viewBox=\"0 0 960 " ++ (decimal height
    ++ (codes "\" width=\"960\" height=\"" ++ (decimal height ++ codes "\">\n")))

unfoldable pub page_svg : (height : ℕ) → List ℕ
page_svg height =
    codes "<rect class=\"page\" x=\"0\" y=\"0\" width=\"960\" height=\"" ++ (decimal height ++ codes "\"/>\n")

-- a line of a title that names a moment, as a date and in nanoseconds since 1970
unfoldable pub when_text : List ℕ → ℕ → List ℕ
when_text name nanoseconds =
    codes "\n" ++ (name ++ (codes " " ++ (moment_text nanoseconds
    ++ (codes " (" ++ (decimal nanoseconds ++ codes ")")))))

-- how texts, bars and marks look, on white and on black
unfoldable pub style_text : List ℕ
style_text =
    codes "<style>text{font:12px monospace;fill:#1b1b1b}.page{fill:#ffffff}.tick{stroke:#c9c9c9}.event{stroke:#1b1b1b;"
    ++ codes "stroke-width:2}.s0{fill:#1f5fa8}.s1{fill:#2f7d32}.s2{fill:#8a4fb0}.s3{fill:#b06a00}.s4{fill:#00798c}"
    ++ codes ".s5{fill:#6b6b00}.s6{fill:#ad1f6b}.s7{fill:#4a5a78}.end{text-anchor:end}"
    ++ codes ".error{fill-opacity:.25;stroke:#1b1b1b;stroke-width:2}.sign{fill:#c0160d;font-weight:bold}"
    ++ codes "@media (prefers-color-scheme:dark){text{fill:#eeeeee}.page{fill:#121212}.tick{stroke:#444444}"
    ++ codes ".event{stroke:#eeeeee}.s0{fill:#7fb4f0}.s1{fill:#7fcf85}.s2{fill:#c9a0e8}.s3{fill:#f0b860}"
    ++ codes ".s4{fill:#6fd0de}.s5{fill:#cfcf70}.s6{fill:#f090c4}.s7{fill:#a9b9d8}"
    ++ codes ".error{stroke:#eeeeee}.sign{fill:#ff8a80}}</style>\n"
