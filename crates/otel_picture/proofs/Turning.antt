-- Rows put in, the last one first: those so far stand as all rows do, and in the end all are there.
use Rattle.std.proofs.Common.{◌≡◌, ◌<◌, ◌≤◌, inl, inr, ℕ, zero, suc, Bool, true, false, Option, Some, List}
use Rattle.std.proofs.Common.{[], ◌∷◌, ◌++◌, ◌+◌, ◌-◌, ◌==◌, ◌∙◌, if◌then◌else◌, get_or, set, length, sym, subst, ap, refl}
use Rattle.std.proofs.Common.{All, Contains, append-nil, append_assoc, arith, count_by, insert, length-append, replicate}
use Rattle.std.proofs.Common.{reverse}
use Rattle.std.specs.List.{AllByRecursion, AllPairs}
use Rattle.std.proofs.lemmas.Bool.{cases_eq, cases_lt, false≢true, ne_eqb}
use Rattle.std.proofs.lemmas.List.{get_or_at, get_or_default, get_or_past, get_or-set_other, length-set}
use Rattle.std.proofs.lemmas.List.{length-replicate, reverse-append}
use Rattle.std.proofs.lemmas.List.Edits.{insert-append_right}
use Rattle.std.proofs.lemmas.List.Elements.{All-cons, All-push, All-weaker, recursion_from_All}
use Rattle.std.proofs.lemmas.List.Sums.{sum_by-cons}
use Rattle.otel_picture.specs.Families.{parents_in}
use Rattle.otel_picture.specs.Orders.{AreInOrder, comes_before}
use Rattle.otel_picture.specs.Parents.{ancestor, parent_of}
use Rattle.otel_picture.specs.Placed.{ArePlaced, AreRows}
use Rattle.otel_picture.specs.Rows.{IsLeft, IsTop, StandUnder, rows_of}
use Rattle.otel_picture.specs.Turns.{AreInTurn, AreRoots, AreTops, PlainWaiting, is_marked, put_all, put_one}
use Rattle.otel_picture.specs.declared.rows.Mark.{Mark}
use Rattle.otel_picture.specs.declared.rows.Row.{Row}
use Rattle.otel_picture.proofs.Circles.{middle}
use Rattle.otel_picture.proofs.Ordering.{before_total, not_itself, true_or_false}
use Rattle.otel_picture.proofs.Placing.{all_counted, each_placed, left_before, not_left, placed_more, put_after}
use Rattle.otel_picture.proofs.Placing.{put_front}
use Rattle.otel_picture.proofs.Sorting.{there_of}

-- a list of spans, the last one first
abbrev pub LastFirst : List Mark → List ℕ → Type 0
LastFirst marks spans = AllPairs (λ one other. comes_before marks one other ≡ false) spans

last_first_rest : (marks : List Mark) (span : ℕ) (spans : List ℕ) → LastFirst marks (span ∷ spans)
    → LastFirst marks spans
last_first_rest marks span spans h = λ i j d l m. h (suc i) (suc j) d (omega (arith, l)) (omega (arith, m))

in_rest : (span : ℕ) (spans : List ℕ) (other : ℕ) → (other ≡ span → ⊥) → Contains (span ∷ spans) other
    → Contains spans other
in_rest span spans other ne (zero, l, e) = absurd (ne (sym e))
in_rest span spans other ne (suc k, l, e) = (k, omega (arith, l), e)

-- the first one of spans is not before another of them
first_last : (marks : List Mark) (span : ℕ) (spans : List ℕ) (other : ℕ) → LastFirst marks (span ∷ spans)
    → (other ≡ span → ⊥) → Contains (span ∷ spans) other → comes_before marks span other ≡ false
first_last marks span spans other h ne there =
    let rest = in_rest span spans other ne there in
    ap (λ k. comes_before marks span k) (sym rest.2) ∙ h 0 (suc rest.0) other (omega arith) (omega (arith, rest.1))

-- a span is left where it has no row
is_left : (placed : List Bool) (span : ℕ) → span < length placed → get_or placed span false ≡ false → IsLeft placed span
is_left placed span there e = record { there = there; left = get_or_default placed span true false there ∙ e }

not_placed : (placed : List Bool) (span other : ℕ) → get_or placed span false ≡ true → IsLeft placed other
    → other ≡ span → ⊥
not_placed placed span other e left same =
    false≢true (sym left.left ∙ get_or_default placed other true false left.there
    ∙ ap (λ k. get_or placed k false) same ∙ e)

-- the rows that wait after one more
one_waits : (rows : List Row) (row : Row) → reverse (rows ++ row ∷ []) ≡ row ∷ reverse rows
one_waits rows row = reverse-append rows (row ∷ [])

grown : (done rest : List Row) (row : Row) (count : ℕ) → length done ≡ count
    → done ++ row ∷ rest ≡ insert (done ++ rest) count row
grown done rest row count e =
    let none : count - count ≡ 0 = omega arith in
    sym (insert-append_right done rest count count row e (omega arith) ∙ ap (λ k. done ++ insert rest k row) none)

-- a span's row put in
abbrev put_new : (level : ℕ) → PlainWaiting → ℕ → PlainWaiting
put_new level waiting span = record {
  rows = waiting.rows ++ record { span = span; level = level } ∷ [];
  placed = set waiting.placed span true;
}

-- a span that has a row, and one that has none
one_held : (level : ℕ) (waiting : PlainWaiting) (span : ℕ) → get_or waiting.placed span false ≡ true
    → waiting ≡ put_one level waiting span
one_held level waiting span held = sym (ap (λ (b : Bool). if b then waiting else put_new level waiting span) held)

one_new : (level : ℕ) (waiting : PlainWaiting) (span : ℕ) → get_or waiting.placed span false ≡ false
    → put_new level waiting span ≡ put_one level waiting span
one_new level waiting span free = sym (ap (λ (b : Bool). if b then waiting else put_new level waiting span) free)

-- roots that wait stand in order, and those that are left come before them
pub record AreFront (marks : List Mark) (parents : List (Option ℕ)) (P : ℕ → Type 0) (waiting : PlainWaiting) : Type 0 where
  pub placed : ArePlaced marks parents waiting.placed (reverse waiting.rows)
  pub flat : All (λ row. row.level ≡ 0) (reverse waiting.rows)
  pub front : All (λ row. (other : ℕ) → IsLeft waiting.placed other → P other → comes_before marks other row.span ≡ true)
      (reverse waiting.rows)

front_one : (marks : List Mark) (parents : List (Option ℕ)) (P : ℕ → Type 0) (waiting : PlainWaiting) (span : ℕ)
    → IsLeft waiting.placed span → P span → IsTop marks parents span
    → ((other : ℕ) → IsLeft waiting.placed other → P other → (other ≡ span → ⊥) → comes_before marks other span ≡ true)
    → AreFront marks parents P waiting
    → AreFront marks parents P (put_new 0 waiting span)
front_one marks parents P waiting span left of top waits before =
    let row : Row = record { span = span; level = 0 } in
    let old : List Row = reverse waiting.rows in
    let put = put_front marks parents waiting.placed old span before.placed left top
    (λ d l. (before.flat 0 d l, before.front 0 d l span left of)) in
    let now : ArePlaced marks parents (set waiting.placed span true) (row ∷ old) =
    placed_more marks parents waiting.placed old (row ∷ old) span before.placed left put in
    let kept : All (λ (r : Row). (other : ℕ) → IsLeft (set waiting.placed span true) other → P other
    → comes_before marks other r.span ≡ true) old =
    All-weaker (λ (r : Row). (other : ℕ) → IsLeft waiting.placed other → P other → comes_before marks other r.span ≡ true)
    (λ (r : Row). (other : ℕ) → IsLeft (set waiting.placed span true) other → P other
    → comes_before marks other r.span ≡ true)
    (λ r h other l p. h other (left_before waiting.placed span other left.there l).1 p) old before.front in
    record {
      placed = rw (one_waits waiting.rows row) now;
      flat = rw (one_waits waiting.rows row) (All-cons (λ (r : Row). r.level ≡ 0) row old refl before.flat);
      front = rw (one_waits waiting.rows row) (All-cons (λ (r : Row). (other : ℕ)
          → IsLeft (set waiting.placed span true) other → P other → comes_before marks other r.span ≡ true) row old
          (λ other l p.
          let was = left_before waiting.placed span other left.there l in waits other was.1 p was.0) kept);
    }

-- none of them is left
abbrev pub NoneLeft : (ℕ → Type 0) → PlainWaiting → Type 0
NoneLeft P waiting = (other : ℕ) → IsLeft waiting.placed other → P other → ⊥

pub all_front : (marks : List Mark) (parents : List (Option ℕ)) (P : ℕ → Type 0) (spans : List ℕ)
    (waiting : PlainWaiting) → ((span : ℕ) → P span → IsTop marks parents span × (span < length parents))
    → AllByRecursion P spans → LastFirst marks spans
    → ((other : ℕ) → IsLeft waiting.placed other → P other → Contains spans other)
    → AreFront marks parents P waiting
    → AreFront marks parents P (put_all 0 waiting spans) × NoneLeft P (put_all 0 waiting spans)
all_front marks parents P [] waiting tops each pairs whole before =
    (before, λ other l p. let there = whole other l p in absurd (omega (arith, there.1)))
all_front marks parents P (span ∷ spans) waiting tops each pairs whole before =
    elim (true_or_false (get_or waiting.placed span false)) [
      | inl held ↦ subst (λ w. AreFront marks parents P (put_all 0 w spans) × NoneLeft P (put_all 0 w spans)) (one_held 0 waiting span held)
          (all_front marks parents P spans waiting tops each.1 (last_first_rest marks span spans pairs)
          (λ other l p. in_rest span spans other (not_placed waiting.placed span other held l) (whole other l p)) before)
      | inr free ↦
          let of = tops span each.0 in
          let left = is_left waiting.placed span (omega (arith, of.1, before.placed.alike)) free in
          subst (λ w. AreFront marks parents P (put_all 0 w spans) × NoneLeft P (put_all 0 w spans)) (one_new 0 waiting span free)
          (all_front marks parents P spans (put_new 0 waiting span) tops each.1 (last_first_rest marks span spans pairs)
          (λ other l p.
          let was = left_before waiting.placed span other left.there l in
          in_rest span spans other was.0 (whole other was.1 p))
          (front_one marks parents P waiting span left each.0 of.0
          (λ other l p ne. before_total marks span other (λ e. ne (sym e))
          (first_last marks span spans other pairs ne (whole other l p))) before))
    ]

-- rows that are done, and those that wait
abbrev pub StandSoFar : List Mark → List (Option ℕ) → List Row → PlainWaiting → Type 0
StandSoFar marks parents done waiting = ArePlaced marks parents waiting.placed (done ++ reverse waiting.rows)

under_one : (marks : List Mark) (parents : List (Option ℕ)) (before : List Row) (parent : Row)
    (waiting : PlainWaiting) (span : ℕ) → IsLeft waiting.placed span → parent_of parents span ≡ Some parent.span
    → ((other : ℕ) → IsLeft waiting.placed other → parent_of parents other ≡ parent_of parents span
    → comes_before marks span other ≡ false)
    → StandSoFar marks parents (before ++ parent ∷ []) waiting
    → StandSoFar marks parents (before ++ parent ∷ []) (put_new (parent.level + 1) waiting span)
under_one marks parents before parent waiting span left of last so_far =
    let row : Row = record { span = span; level = parent.level + 1 } in
    let done : List Row = before ++ parent ∷ [] in
    let rest : List Row = reverse waiting.rows in
    let old : List Row = done ++ rest in
    let whole : old ≡ before ++ parent ∷ rest = append_assoc before (parent ∷ []) rest in
    let read : (d : Row) → get_or old (length before) d ≡ parent =
    λ d. ap (λ (rows : List Row). get_or rows (length before) d) whole
    ∙ get_or_at before parent rest d (length before) refl in
    let counted = length-append before (parent ∷ rest) in
    let there : length before < length old = omega (arith, counted, ap length whole) in
    let long : length done ≡ length before + 1 = length-append before (parent ∷ []) in
    let put = put_after marks parents waiting.placed old (insert old (length before + 1) row) (length before) span parent
    so_far left last there (sym (read parent)) (of ∙ ap (λ (r : Row). Some r.span) (sym (read parent))) refl in
    let now : ArePlaced marks parents (set waiting.placed span true) (insert old (length before + 1) row) =
    placed_more marks parents waiting.placed old (insert old (length before + 1) row) span so_far left put in
    let same : done ++ reverse (waiting.rows ++ row ∷ []) ≡ insert old (length before + 1) row =
    ap (λ (rows : List Row). done ++ rows) (one_waits waiting.rows row) ∙ grown done rest row (length before + 1) long in
    subst (λ rows. ArePlaced marks parents (set waiting.placed span true) rows) (sym same) now

pub all_under : (marks : List Mark) (parents : List (Option ℕ)) (before : List Row) (parent : Row) (spans : List ℕ)
    (waiting : PlainWaiting) → AllByRecursion (λ span. parent_of parents span ≡ Some parent.span) spans
    → AllByRecursion (λ span. span < length parents) spans → LastFirst marks spans
    → ((other : ℕ) → IsLeft waiting.placed other → parent_of parents other ≡ Some parent.span → Contains spans other)
    → StandSoFar marks parents (before ++ parent ∷ []) waiting
    → StandSoFar marks parents (before ++ parent ∷ []) (put_all (parent.level + 1) waiting spans)
    × NoneLeft (λ other. parent_of parents other ≡ Some parent.span) (put_all (parent.level + 1) waiting spans)
all_under marks parents before parent [] waiting each in_range pairs whole so_far =
    (so_far, λ other l p. let there = whole other l p in absurd (omega (arith, there.1)))
all_under marks parents before parent (span ∷ spans) waiting each in_range pairs whole so_far =
    elim (true_or_false (get_or waiting.placed span false)) [
      | inl held ↦ subst (λ w. StandSoFar marks parents (before ++ parent ∷ []) (put_all (parent.level + 1) w spans)
          × NoneLeft (λ other. parent_of parents other ≡ Some parent.span) (put_all (parent.level + 1) w spans)) (one_held (parent.level + 1) waiting span held)
          (all_under marks parents before parent spans waiting each.1 in_range.1
          (last_first_rest marks span spans pairs)
          (λ other l p. in_rest span spans other (not_placed waiting.placed span other held l) (whole other l p)) so_far)
      | inr free ↦
          let left = is_left waiting.placed span (omega (arith, in_range.0, so_far.alike)) free in
          subst (λ w. StandSoFar marks parents (before ++ parent ∷ []) (put_all (parent.level + 1) w spans)
          × NoneLeft (λ other. parent_of parents other ≡ Some parent.span) (put_all (parent.level + 1) w spans)) (one_new (parent.level + 1) waiting span free)
          (all_under marks parents before parent spans (put_new (parent.level + 1) waiting span) each.1 in_range.1 (last_first_rest marks span spans pairs)
          (λ other l p.
          let was = left_before waiting.placed span other left.there l in
          in_rest span spans other was.0 (whole other was.1 p))
          (under_one marks parents before parent waiting span left each.0
          (λ other l p. elim (cases_eq other span) [
            | inl same ↦ ap (λ k. comes_before marks span k) same ∙ not_itself marks span
            | inr ne ↦ first_last marks span spans other pairs ne (whole other l (p ∙ each.0))
          ]) so_far))
    ]

-- what has a row keeps it
pub stay_placed : (level : ℕ) (spans : List ℕ) (waiting : PlainWaiting) (other : ℕ)
    → get_or waiting.placed other false ≡ true → get_or (put_all level waiting spans).placed other false ≡ true
stay_placed level [] waiting other h = h
stay_placed level (span ∷ spans) waiting other h =
    elim (true_or_false (get_or waiting.placed span false)) [
      | inl held ↦ subst (λ w. get_or (put_all level w spans).placed other false ≡ true) (one_held level waiting span held)
          (stay_placed level spans waiting other h)
      | inr free ↦ subst (λ w. get_or (put_all level w spans).placed other false ≡ true) (one_new level waiting span free)
          (stay_placed level spans (put_new level waiting span) other (get_or-set_other waiting.placed span other true false
          (λ e. false≢true (sym free ∙ ap (λ k. get_or waiting.placed k false) (sym e) ∙ h)) ∙ h))
    ]

pub same_count : (level : ℕ) (spans : List ℕ) (waiting : PlainWaiting)
    → length (put_all level waiting spans).placed ≡ length waiting.placed
same_count level [] waiting = refl
same_count level (span ∷ spans) waiting =
    elim (true_or_false (get_or waiting.placed span false)) [
      | inl held ↦ subst (λ w. length (put_all level w spans).placed ≡ length waiting.placed) (one_held level waiting span held)
          (same_count level spans waiting)
      | inr free ↦ subst (λ w. length (put_all level w spans).placed ≡ length waiting.placed) (one_new level waiting span free)
          (same_count level spans (put_new level waiting span) ∙ length-set waiting.placed span true)
    ]

-- rows are put in: a root has its row, and the children of each span whose row is done have theirs
pub record IsUnderWay (marks : List Mark) (parents : List (Option ℕ)) (done : List Row) (waiting : PlainWaiting)
    : Type 0 where
  pub so_far : StandSoFar marks parents done waiting
  pub closed : All (λ row. (child : ℕ) → parent_of parents child ≡ Some row.span
      → get_or waiting.placed child false ≡ true) done
  pub tops : List Bool
  pub are : AreTops marks parents tops
  pub placed : (span : ℕ) → is_marked tops span ≡ true → get_or waiting.placed span false ≡ true

-- what is no longer left has its row
has_row : (placed : List Bool) (span : ℕ) → span < length placed → (IsLeft placed span → ⊥)
    → get_or placed span false ≡ true
has_row placed span there h = not_left placed span _ there h refl

-- at first no span has a row
none_at : (count span : ℕ) → get_or (replicate count false) span false ≡ false
none_at zero span = refl
none_at (suc count) zero = refl
none_at (suc count) (suc span) = none_at count span

none_counted : (count : ℕ) → 0 ≡ count_by (λ has_row. has_row) (replicate count false)
none_counted zero = refl
none_counted (suc count) =
    omega (arith, sum_by-cons (λ (b : Bool). if b then 1 else 0) false (replicate count false), none_counted count)

none_placed : (marks : List Mark) (parents : List (Option ℕ)) (count : ℕ) → count ≡ length parents
    → ArePlaced marks parents (replicate count false) []
none_placed marks parents count e = record {
  alike = length-replicate count false ∙ e;
  once = λ span. ap (λ (b : Bool). if b then 1 else 0) (sym (none_at count span));
  no_more = none_counted count;
  under = tt;
  shallow = λ k d l. absurd (omega (arith, l));
  there = λ k d l. absurd (omega (arith, l));
  in_order = tt;
  wait = λ k d l. absurd (omega (arith, l));
}

marked_there : (tops : List Bool) (span : ℕ) → is_marked tops span ≡ true → span < length tops
marked_there tops span e = elim (cases_lt span (length tops)) [
  | inl low ↦ low
  | inr high ↦ absurd (false≢true (sym (get_or_past tops span false high) ∙ e))
]

pub begun : (marks : List Mark) (parents : List (Option ℕ)) (count : ℕ) (roots : List ℕ) (done : List Row)
    (waiting : PlainWaiting) → count ≡ length parents → AreRoots marks parents roots → done ≡ []
    → waiting ≡ put_all 0 (record { rows = []; placed = replicate count false }) roots
    → IsUnderWay marks parents done waiting
begun marks parents count roots done waiting e are none is =
    let start : PlainWaiting = record { rows = []; placed = replicate count false } in
    let Root = λ (span : ℕ). (span < length parents) × (is_marked are.tops span ≡ true) in
    let after = all_front marks parents Root roots start (λ span p. (are.are.top span p.1, p.0))
    (recursion_from_All Root roots are.in_turn.each) are.in_turn.last_first (λ other l p. are.in_turn.whole other p)
    (record {
      placed = none_placed marks parents count e;
      flat = λ k d l. absurd (omega (arith, l));
      front = λ k d l. absurd (omega (arith, l));
    }) in
    rw (none, is) (record {
      so_far = after.0.placed;
      closed = λ k d l. absurd (omega (arith, l));
      tops = are.tops;
      are = are.are;
      placed = λ span m.
          let there : span < length parents = omega (arith, marked_there are.tops span m, are.are.alike) in
          has_row (put_all 0 start roots).placed span
          (omega (arith, there, same_count 0 roots start, length-replicate count false, e)) (λ l. after.1 span l (there, m));
    })

-- the row that waits next, as it is done
popped : (done rest : List Row) (row : Row) → done ++ reverse (rest ++ row ∷ []) ≡ (done ++ row ∷ []) ++ reverse rest
popped done rest row =
    ap (λ (rows : List Row). done ++ rows) (one_waits rest row) ∙ sym (append_assoc done (row ∷ []) (reverse rest))

pub one_done : (marks : List Mark) (parents : List (Option ℕ)) (done new : List Row) (row : Row)
    (waiting rest after : PlainWaiting) (children : List ℕ) → waiting.rows ≡ rest.rows ++ row ∷ []
    → rest.placed ≡ waiting.placed → new ≡ done ++ row ∷ [] → after ≡ put_all (row.level + 1) rest children
    → AreInTurn marks (λ span. parent_of parents span ≡ Some row.span) children
    → IsUnderWay marks parents done waiting → IsUnderWay marks parents new after
one_done marks parents done new row waiting rest after children split same more is of before =
    let stands : StandSoFar marks parents (done ++ row ∷ []) rest =
    subst (λ rows. ArePlaced marks parents rest.placed rows)
    (ap (λ (rows : List Row). done ++ reverse rows) split ∙ popped done rest.rows row)
    (subst (λ placed. ArePlaced marks parents placed (done ++ reverse waiting.rows)) (sym same) before.so_far) in
    let now = all_under marks parents done row children rest
    (recursion_from_All (λ span. parent_of parents span ≡ Some row.span) children of.each)
    (recursion_from_All (λ span. span < length parents) children
    (All-weaker (λ span. parent_of parents span ≡ Some row.span) (λ span. span < length parents)
    (λ span e. there_of parents span row.span e) children of.each)) of.last_first (λ other l p. of.whole other p) stands in
    let kept : (span : ℕ) → get_or waiting.placed span false ≡ true
    → get_or (put_all (row.level + 1) rest children).placed span false ≡ true =
    λ span h. stay_placed (row.level + 1) children rest span (ap (λ placed. get_or placed span false) same ∙ h) in
    rw (more, is) (record {
      so_far = now.0;
      closed = All-push (λ (r : Row). (child : ℕ) → parent_of parents child ≡ Some r.span
          → get_or (put_all (row.level + 1) rest children).placed child false ≡ true) done row
          (All-weaker (λ (r : Row). (child : ℕ) → parent_of parents child ≡ Some r.span
          → get_or waiting.placed child false ≡ true) (λ (r : Row). (child : ℕ) → parent_of parents child ≡ Some r.span
          → get_or (put_all (row.level + 1) rest children).placed child false ≡ true)
          (λ r h child e. kept child (h child e)) done before.closed)
          (λ child e. has_row (put_all (row.level + 1) rest children).placed child
          (omega (arith, there_of parents child row.span e, now.0.alike)) (λ l. now.1 child l e));
      tops = before.tops;
      are = before.are;
      placed = λ span m. kept span (before.placed span m);
    })

-- the children of a span whose row is done have rows
closed_at : (P : ℕ → Type 0) (span : ℕ) (done : List Row) → 0 < rows_of span done
    → AllByRecursion (λ row. P row.span) done → P span
closed_at P span [] some h = absurd (omega (arith, some))
closed_at P span (row ∷ done) some h = elim (cases_eq row.span span) [
  | inl here ↦ subst P here h.0
  | inr other ↦ closed_at P span done (omega (
    arith,
    some,
    sum_by-cons (λ (r : Row). if r.span == span then 1 else 0) row done
        ∙ ap (λ (b : Bool). (if b then 1 else 0) + rows_of span done) (ne_eqb row.span span other),
  )) h.1
]

-- from a root down each span has a row
all_below : (marks : List Mark) (parents : List (Option ℕ)) (done : List Row) (placed : List Bool)
    → ArePlaced marks parents placed done
    → AllByRecursion (λ row. (child : ℕ) → parent_of parents child ≡ Some row.span → get_or placed child false ≡ true) done
    → (steps span above : ℕ) → ancestor parents steps span ≡ Some above → get_or placed above false ≡ true
    → get_or placed span false ≡ true
all_below marks parents done placed all closed zero span above e held =
    let same : span ≡ above = cc in ap (λ k. get_or placed k false) same ∙ held
all_below marks parents done placed all closed (suc steps) span above e held =
    let walk = middle parents steps span above _ refl e in
    let one : rows_of above done ≡ 1 = all.once above ∙ ap (λ (b : Bool). if b then 1 else 0) held in
    all_below marks parents done placed all closed steps span walk.0 walk.1
    (closed_at (λ k. (child : ℕ) → parent_of parents child ≡ Some k → get_or placed child false ≡ true) above done
    (omega (arith, one)) closed walk.0 walk.2)

none_wait : (rows : List Row) → length rows ≡ 0 → rows ≡ []
none_wait [] e = refl
none_wait (row ∷ rows) e = absurd (omega (arith, e))

pub all_done : (marks : List Mark) (parents : List (Option ℕ)) (done : List Row) (waiting : PlainWaiting)
    → parents ≡ parents_in marks → length parents ≡ length marks → length waiting.rows ≡ 0
    → IsUnderWay marks parents done waiting → AreRows marks done
all_done marks parents done waiting e alike none way =
    let all : ArePlaced marks parents waiting.placed done =
    subst (λ rows. ArePlaced marks parents waiting.placed rows)
    (ap (λ (rows : List Row). done ++ reverse rows) (none_wait waiting.rows none) ∙ append-nil done) way.so_far in
    let held : (span : ℕ) → span < length parents → get_or waiting.placed span false ≡ true =
    λ span l.
    let on = way.are.over span l in
    all_below marks parents done waiting.placed all
    (recursion_from_All (λ (row : Row). (child : ℕ) → parent_of parents child ≡ Some row.span
    → get_or waiting.placed child false ≡ true) done way.closed) on.0 span on.1 on.2 (way.placed on.1 on.3) in
    let gone : (span : ℕ) → IsLeft waiting.placed span → ⊥ =
    λ span l. not_placed waiting.placed span span (held span (omega (arith, l.there, all.alike))) l refl in
    record {
      each_once = λ span l. each_placed marks parents waiting.placed done all gone span (omega (arith, l, alike, all.alike));
      no_more = omega (arith, all.no_more, all_counted waiting.placed gone, all.alike, alike);
      there = λ k row l. omega (arith, all.there k row l, alike);
      under = subst (λ ps. StandUnder marks ps [] done) e all.under;
      in_order = subst (λ ps. AreInOrder marks ps done) e all.in_order;
    }

-- there are no more rows than spans
counted_most : (placed : List Bool) → count_by (λ has_row. has_row) placed ≤ length placed
counted_most [] = omega arith
counted_most (true ∷ placed) =
    omega (arith, sum_by-cons (λ (b : Bool). if b then 1 else 0) true placed, counted_most placed)
counted_most (false ∷ placed) =
    omega (arith, sum_by-cons (λ (b : Bool). if b then 1 else 0) false placed, counted_most placed)

-- the row that waits next
pub record IsNext (count : ℕ) (done : List Row) (row : Row) : Type 0 where
  pub there : row.span < count
  pub shallow : row.level < count
  pub fewer : length done < count

pub next_row : (marks : List Mark) (parents : List (Option ℕ)) (done rest : List Row) (row : Row)
    (waiting : PlainWaiting) → waiting.rows ≡ rest ++ row ∷ [] → IsUnderWay marks parents done waiting
    → IsNext (length parents) done row
next_row marks parents done rest row waiting split way =
    let all : List Row = done ++ row ∷ reverse rest in
    let same : done ++ reverse waiting.rows ≡ all =
    ap (λ (rows : List Row). done ++ reverse rows) split
    ∙ ap (λ (rows : List Row). done ++ rows) (one_waits rest row) in
    let now : ArePlaced marks parents waiting.placed all =
    subst (λ rows. ArePlaced marks parents waiting.placed rows) same way.so_far in
    let read : get_or all (length done) row ≡ row = get_or_at done row (reverse rest) row (length done) refl in
    let long = length-append done (row ∷ reverse rest) in
    let inside : length done < length all = omega (arith, long) in
    let most : length all ≤ length parents = omega (arith, now.no_more, counted_most waiting.placed, now.alike) in
    record {
      there = subst (λ (r : Row). r.span < length parents) read (now.there (length done) row inside);
      shallow =
          let low : row.level < length all = subst (λ (r : Row). r.level < length all) read
          (now.shallow (length done) row inside) in
          omega (arith, low, most);
      fewer = omega (arith, inside, most);
    }
