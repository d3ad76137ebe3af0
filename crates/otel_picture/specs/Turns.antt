-- The order in which rows are put in: of the roots, and of the children of each span, the last one first.
use Rattle.std.specs.Prelude.{◌≡◌, ◌<◌, ◌==◌, ◌∷◌, ◌++◌, [], ℕ, Bool, true, false, Option, Some, None, List, All}
use Rattle.std.specs.Prelude.{Contains, get_or, if◌then◌else◌, length, set}
use Rattle.std.specs.List.{AllPairs, filter, fold}
use Rattle.std.specs.Global.{Vec}
use Rattle.otel_picture.specs.Orders.{comes_before}
use Rattle.otel_picture.specs.Parents.{ancestor, parent_of}
use Rattle.otel_picture.specs.Rows.{IsTop}
use Rattle.otel_picture.specs.declared.rows.Mark.{Mark}
use Rattle.otel_picture.specs.declared.rows.Row.{Row}
use Rattle.otel_picture.specs.declared.rows.Waiting.{Waiting}

-- all spans of which something holds, and no others, the last one first
pub record AreInTurn (marks : List Mark) (P : ℕ → Type 0) (spans : List ℕ) : Type 0 where
  pub each : All P spans
  pub whole : (span : ℕ) → P span → Contains spans span
  pub last_first : AllPairs (λ one other. comes_before marks one other ≡ false) spans

-- whether a span is marked
abbrev pub is_marked : List Bool → ℕ → Bool
is_marked spans span = get_or spans span false

-- a walk up from a span comes to one that is marked
abbrev pub LeadsTo : List (Option ℕ) → List Bool → ℕ → Type 0
LeadsTo parents tops span =
    (steps above : ℕ) × (ancestor parents steps span ≡ Some above) × (is_marked tops above ≡ true)

-- spans whose rows stand at the left are marked, one above each span at least
pub record AreTops (marks : List Mark) (parents : List (Option ℕ)) (tops : List Bool) : Type 0 where
  pub alike : length tops ≡ length parents
  pub top : (span : ℕ) → is_marked tops span ≡ true → IsTop marks parents span
  pub over : (span : ℕ) → span < length parents → LeadsTo parents tops span

-- roots, above each span one at least, the last one first
pub record AreRoots (marks : List Mark) (parents : List (Option ℕ)) (roots : List ℕ) : Type 0 where
  pub tops : List Bool
  pub are : AreTops marks parents tops
  pub in_turn : AreInTurn marks (λ span. (span < length parents) × (is_marked tops span ≡ true)) roots

-- whether a parent is a span
abbrev pub is_span : ℕ → Option ℕ → Bool
is_span span None = false
is_span span (Some parent) = parent == span

-- whether a span is the parent of another
abbrev pub is_child : List (Option ℕ) → (parent span : ℕ) → Bool
is_child parents parent span = is_span parent (parent_of parents span)

-- rows that wait, the next one last, and which spans have a row
pub record PlainWaiting : Type 0 where
  pub rows : List Row
  pub placed : List Bool

abbrev pub plain_waiting : Waiting → PlainWaiting
plain_waiting waiting = record { rows = waiting.rows.items; placed = waiting.placed.items }

-- a span's row is put in, where it has none
abbrev pub put_one : (level : ℕ) → PlainWaiting → ℕ → PlainWaiting
put_one level waiting span =
    if get_or waiting.placed span false then waiting
    else (record {
      rows = waiting.rows ++ record { span = span; level = level } ∷ [];
      placed = set waiting.placed span true;
    })

abbrev pub put_all : (level : ℕ) → PlainWaiting → List ℕ → PlainWaiting
put_all level waiting spans = fold (put_one level) waiting spans

-- of each span its children, in the order of a list of spans
pub record AreSplit (parents : List (Option ℕ)) (spans : List ℕ) (children : List (Vec ℕ)) : Type 0 where
  pub alike : length children ≡ length parents
  pub each : (parent : ℕ) (list : Vec ℕ) → parent < length parents
      → (get_or children parent list).items ≡ filter (is_child parents parent) spans

-- of each span its children, the last one first
pub record AreChildren (marks : List Mark) (parents : List (Option ℕ)) (children : List (Vec ℕ)) : Type 0 where
  pub alike : length children ≡ length parents
  pub each : (parent : ℕ) (list : Vec ℕ) → parent < length parents
      → AreInTurn marks (λ span. parent_of parents span ≡ Some parent) (get_or children parent list).items
