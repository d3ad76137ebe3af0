-- What each of the two grammars of lines has. The plain one lacks comments and some commands.
use Rattle.std.specs.Prelude.{◌≡◌, ◌≢◌, Bool, true, false, ◌⊎◌, ◌==◌, ℕ, List, [], codes, map, if◌then◌else◌, slice_index}
use Rattle.otel_trace_lines.specs.declared.dialect.Dialect.{Dialect}
use Rattle.otel_trace_lines.specs.declared.dialect.Dialect.TheVariants as dialects

-- the words of the commands that only the extended grammar has
abbrev pub IsOfExtended : List ℕ → Type 0
IsOfExtended word = (word ≡ codes "int") ⊎ ((word ≡ codes "bool") ⊎ ((word ≡ codes "float")
    ⊎ ((word ≡ codes "link") ⊎ ((word ≡ codes "exception") ⊎ (word ≡ codes "forget")))))

-- whether a grammar has the commands of a word
abbrev pub HasWord : Dialect → List ℕ → Type 0
HasWord dialects.Plain word = ¬ IsOfExtended word
HasWord dialects.Extended word = Unit {0}

-- a word after which both grammars have the same fields, if they have the word
abbrev pub HasFixedFields : List ℕ → Type 0
HasFixedFields word =
    (word ≢ codes "start") × (word ≢ codes "child") × (word ≢ codes "remote") × (word ≢ codes "event")

-- whether a grammar may have what only the extended one has
abbrev pub MayHave : Dialect → Bool → Type 0
MayHave dialect false = Unit {0}
MayHave dialect true = dialect ≡ dialects.Extended

-- what is read of a line: of a comment, which begins with `#`, nothing
abbrev pub without_comment : Dialect → List ℕ → List ℕ
without_comment dialects.Plain line = line
without_comment dialects.Extended line = if slice_index line 0 == 35 then [] else line

-- the same of lines
abbrev pub without_comments : Dialect → List (List ℕ) → List (List ℕ)
without_comments dialect all = map (without_comment dialect) all
