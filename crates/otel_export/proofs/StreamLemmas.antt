-- Bytes that are written in turn.
use Rattle.std.proofs.Common.{◌+◌, ◌-◌, ◌++◌, ◌∙◌, ℕ, List, [], Option, length, take, drop, ap, subst, sym, append_assoc, append-nil}
use Rattle.std.proofs.Common.{take-add, take-append-drop}
use Rattle.std.proofs.KnownBytes.{Appends-trans}
use Rattle.std.proofs.lemmas.List.{take_rest}
use Rattle.std.specs.Io.KnownBytes.{Appends}
use Rattle.otel_export.specs.Streams.{AppendsBeginning}

-- one write more
pub write_more : (a b c : Option (List ℕ)) (bytes : List ℕ) (written count : ℕ) → Appends a b (take written bytes)
    → Appends b c (take count (take (length bytes - written) (drop written bytes)))
    → Appends a c (take (written + count) bytes)
write_more a b c bytes written count first second =
    let rest = ap (take count) (take_rest bytes written) in
    subst (λ (bs : List ℕ). Appends a c bs) (sym (take-add written count bytes))
    (Appends-trans a b c (take written bytes) (take count (drop written bytes)) first
    (subst (Appends b c) rest second))

-- the first bytes are a beginning
pub wrote_beginning : (a b : Option (List ℕ)) (bytes : List ℕ) (written : ℕ) → Appends a b (take written bytes)
    → AppendsBeginning a b bytes
wrote_beginning a b bytes written h =
    (take written bytes, drop written bytes, sym (take-append-drop written bytes), h)

-- what was written, and then a beginning
pub appends_after : (a b c : Option (List ℕ)) (first second : List ℕ) → Appends a b first → AppendsBeginning b c second → AppendsBeginning a c (first ++ second)
appends_after a b c first second h (written, left, e, k) =
    (first ++ written, left, ap (λ (bs : List ℕ). first ++ bs) e ∙ sym (append_assoc first written left), Appends-trans a b c first written h k)

-- a beginning of a text is one of a longer text
pub appends_longer : (a b : Option (List ℕ)) (first second : List ℕ) → AppendsBeginning a b first → AppendsBeginning a b (first ++ second)
appends_longer a b first second (written, left, e, k) = (written, left ++ second, ap (λ bs. bs ++ second) e ∙ append_assoc written left second, k)

-- all is a beginning
pub appends_all : (a b : Option (List ℕ)) (bytes : List ℕ) → Appends a b bytes → AppendsBeginning a b bytes
appends_all a b bytes h = (bytes, [], sym (append-nil bytes), h)
