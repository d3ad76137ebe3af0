-- Rows as they are put in: what holds of those so far holds of one more.
use Rattle.std.proofs.Common.{◌≡◌, ◌<◌, ◌≤◌, ◌⊎◌, inl, inr, ℕ, suc, Bool, true, false, Option, Some, List}
use Rattle.std.proofs.Common.{[], ◌∷◌, ◌+◌, ◌==◌, ◌∙◌, if◌then◌else◌, get_or, set, length, sym, subst, ap, refl, arith}
use Rattle.std.proofs.Common.{All, insert, count_by, take, drop, add-one}
use Rattle.std.specs.List.{AllByRecursion}
use Rattle.std.proofs.lemmas.Bool.{cases_eq, eq-eqb, false≢true, ne_eqb}
use Rattle.std.proofs.lemmas.List.{length-set, get_or-set_same, get_or-set_other, get_or_default}
use Rattle.std.proofs.lemmas.List.Edits.{length-insert}
use Rattle.std.proofs.lemmas.List.Elements.{All-append, All-cons, All-drop, All-from_recursion, All-take, All-weaker}
use Rattle.std.proofs.lemmas.List.Elements.{recursion_from_All}
use Rattle.std.proofs.lemmas.List.Sums.{sum_by-cons, sum_by-insert, sum_by-set}
use Rattle.otel_picture.specs.Orders.{AreInOrder, Precedes, comes_before}
use Rattle.otel_picture.specs.Parents.{parent_of}
use Rattle.otel_picture.specs.Placed.{ArePlaced, IsPutIn, WaitInFront}
use Rattle.otel_picture.specs.Rows.{IsLeft, IsTop, StandUnder, rows_of}
use Rattle.otel_picture.specs.declared.rows.Mark.{Mark}
use Rattle.otel_picture.specs.declared.rows.Row.{Row}
use Rattle.otel_picture.proofs.Ordering.{before_total, counted_at, none_above, put_in_order}
use Rattle.otel_picture.proofs.Ordering.{roots_after}
use Rattle.otel_picture.proofs.Under.{insert_root, insert_under}

-- how many rows a span has after a row put in
one_more : (span other : ℕ) (row : Row) (placed : List Bool) (rows : List Row) (at : ℕ) → row.span ≡ span
    → span < length placed → get_or placed span false ≡ false
    → rows_of other rows ≡ (if get_or placed other false then 1 else 0)
    → (other ≡ span) ⊎ (other ≡ span → ⊥)
    → rows_of other (insert rows at row) ≡ (if get_or (set placed span true) other false then 1 else 0)
one_more span other row placed rows at shows there left once (inl same) =
    let none : rows_of other rows ≡ 0 =
    once ∙ ap (λ (b : Bool). if b then 1 else 0) (ap (λ k. get_or placed k false) same ∙ left) in
    let here : get_or (set placed span true) other false ≡ true =
    ap (λ k. get_or (set placed span true) k false) same ∙ get_or-set_same placed span true false there in
    sum_by-insert (λ r. if r.span == other then 1 else 0) rows at row
    ∙ rw (eq-eqb row.span other (shows ∙ sym same), none, here) refl
one_more span other row placed rows at shows there left once (inr different) =
    sum_by-insert (λ r. if r.span == other then 1 else 0) rows at row
    ∙ rw (ne_eqb row.span other (λ e. different (sym e ∙ shows)), get_or-set_other placed span other true false different)
    (omega (arith, once))

all_rows : (rows : List Row) (at : ℕ) (row : Row) → at ≤ length rows → row.level ≤ length rows
    → All (λ r. r.level < length rows) rows → All (λ r. r.level < length (insert rows at row)) (insert rows at row)
all_rows rows at row within low all =
    let more = length-insert rows at row within in
    let grown : All (λ (r : Row). r.level < length (insert rows at row)) rows =
    All-weaker (λ r. r.level < length rows) (λ r. r.level < length (insert rows at row))
    (λ r l. omega (arith, more, l)) rows all in
    All-append (λ r. r.level < length (insert rows at row)) (take at rows) (row ∷ drop at rows)
    (All-take (λ r. r.level < length (insert rows at row)) at rows grown)
    (All-cons (λ r. r.level < length (insert rows at row)) row (drop at rows) (omega (arith, more))
    (All-drop (λ r. r.level < length (insert rows at row)) at rows grown))

all_there : (parents : List (Option ℕ)) (rows : List Row) (at : ℕ) (row : Row) → row.span < length parents
    → All (λ r. r.span < length parents) rows → All (λ r. r.span < length parents) (insert rows at row)
all_there parents rows at row here all =
    All-append (λ r. r.span < length parents) (take at rows) (row ∷ drop at rows)
    (All-take (λ r. r.span < length parents) at rows all)
    (All-cons (λ r. r.span < length parents) row (drop at rows) here
    (All-drop (λ r. r.span < length parents) at rows all))

-- a span that is left after one more has its row was left before, and is another
pub left_before : (placed : List Bool) (span other : ℕ) → span < length placed → IsLeft (set placed span true) other
    → (other ≡ span → ⊥) × IsLeft placed other
left_before placed span other there h = elim (cases_eq other span) [
  | inl same ↦ absurd (false≢true (sym h.left ∙ ap (λ k. get_or (set placed span true) k true) same
      ∙ get_or-set_same placed span true true there))
  | inr different ↦ (
    different,
    record {
      there = omega (arith, h.there, length-set placed span true);
      left = sym (get_or-set_other placed span other true true different) ∙ h.left;
    },
  )
]

abbrev Waits : List Mark → List (Option ℕ) → List Bool → Row → Type 0
Waits marks parents placed row = 0 < row.level → (span : ℕ) → IsLeft placed span
    → parent_of parents span ≡ parent_of parents row.span → comes_before marks span row.span ≡ true

wait_more : (marks : List Mark) (parents : List (Option ℕ)) (placed : List Bool) (old : List Row) (at span : ℕ)
    (row : Row) → span < length placed → row.span ≡ span
    → (0 < row.level → (other : ℕ) → IsLeft placed other → (other ≡ span → ⊥)
    → parent_of parents other ≡ parent_of parents span → comes_before marks other span ≡ true)
    → WaitInFront marks parents placed old → WaitInFront marks parents (set placed span true) (insert old at row)
wait_more marks parents placed old at span row there shows waits before =
    let kept : All (Waits marks parents (set placed span true)) old =
    All-weaker (Waits marks parents placed) (Waits marks parents (set placed span true))
    (λ r h deep other left same. h deep other (left_before placed span other there left).1 same) old before in
    All-append (Waits marks parents (set placed span true)) (take at old) (row ∷ drop at old)
    (All-take (Waits marks parents (set placed span true)) at old kept)
    (All-cons (Waits marks parents (set placed span true)) row (drop at old)
    (λ deep other left same.
    let was = left_before placed span other there left in
    ap (λ k. comes_before marks other k) shows
    ∙ waits deep other was.1 was.0 (same ∙ ap (λ k. parent_of parents k) shows))
    (All-drop (Waits marks parents (set placed span true)) at old kept))

pub placed_more : (marks : List Mark) (parents : List (Option ℕ)) (placed : List Bool) (old new : List Row) (span : ℕ)
    → ArePlaced marks parents placed old → IsLeft placed span → IsPutIn marks parents placed old new span
    → ArePlaced marks parents (set placed span true) new
placed_more marks parents placed old new span before left put =
    let missing : get_or placed span false ≡ false =
    get_or_default placed span false true left.there ∙ left.left in
    let counted = sum_by-set (λ (b : Bool). if b then 1 else 0) placed span true true left.there in
    subst (λ rows. ArePlaced marks parents (set placed span true) rows) (sym put.is) (record {
      alike = length-set placed span true ∙ before.alike;
      once = λ other. one_more span other put.row placed old put.at put.shows left.there missing (before.once other)
          (cases_eq other span);
      no_more = omega (arith, length-insert old put.at put.row put.within, before.no_more, rw left.left at counted);
      under = subst (λ rows. StandUnder marks parents [] rows) put.is put.under;
      shallow = all_rows old put.at put.row put.within put.shallow before.shallow;
      there = all_there parents old put.at put.row (omega (arith, left.there, before.alike, put.shows)) before.there;
      in_order = subst (λ rows. AreInOrder marks parents rows) put.is put.in_order;
      wait = wait_more marks parents placed old put.at span put.row left.there put.shows put.waits before.wait;
    })

-- a span that has a row is placed
placed_of : (marks : List Mark) (parents : List (Option ℕ)) (placed : List Bool) (rows : List Row) (span : ℕ)
    (held : Bool) → ArePlaced marks parents placed rows → 0 < rows_of span rows → get_or placed span false ≡ held
    → held ≡ true
placed_of marks parents placed rows span true before some e = refl
placed_of marks parents placed rows span false before some e =
    let none : rows_of span rows ≡ 0 = before.once span ∙ ap (λ (b : Bool). if b then 1 else 0) e in
    absurd (omega (arith, some, none))

-- siblings that have a row are later than a span that has none
later_siblings : (marks : List Mark) (parents : List (Option ℕ)) (placed : List Bool) (rows : List Row) (row : Row)
    → IsLeft placed row.span → 0 < row.level → AllByRecursion (Waits marks parents placed) rows
    → AllByRecursion (Precedes marks parents row) rows
later_siblings marks parents placed [] row left deep h = tt
later_siblings marks parents placed (r ∷ rows) row left deep h = (
  λ siblings. elim siblings [
    | inl roots ↦ absurd (omega (arith, deep, roots.0))
    | inr both ↦ h.0 both.1 row.span left both.2
  ],
  later_siblings marks parents placed rows row left deep h.1,
)

-- a row put in after its parent's
pub put_after : (marks : List Mark) (parents : List (Option ℕ)) (placed : List Bool) (old new : List Row)
    (at span : ℕ) (parent : Row) → ArePlaced marks parents placed old → IsLeft placed span
    → ((other : ℕ) → IsLeft placed other → parent_of parents other ≡ parent_of parents span
    → comes_before marks span other ≡ false)
    → at < length old → parent ≡ get_or old at parent
    → parent_of parents span ≡ Some (get_or old at parent).span
    → new ≡ insert old (at + 1) (record { span = span; level = parent.level + 1 })
    → IsPutIn marks parents placed old new span
put_after marks parents placed old new at span parent before left last there read known is =
    let row : Row = record { span = span; level = parent.level + 1 } in
    let low : parent.level < length old =
    subst (λ (r : Row). r.level < length old) (sym read) (before.shallow at parent there) in
    let of : parent_of parents span ≡ Some parent.span = known ∙ ap (λ (r : Row). Some r.span) (sym read) in
    let shown : 0 < rows_of parent.span old = counted_at parent.span old at parent there
    (ap (λ (r : Row). r.span) (sym read)) in
    let over : get_or placed parent.span false ≡ true =
    placed_of marks parents placed old parent.span _ before shown refl in
    let once : rows_of parent.span [] + rows_of parent.span old ≤ 1 =
    omega (arith, before.once parent.span ∙ ap (λ (b : Bool). if b then 1 else 0) over) in
    record {
      row = row;
      at = at + 1;
      within = omega arith;
      is = is;
      shows = refl;
      shallow = omega (arith, low);
      under = rw (is, add-one) (insert_under marks parents [] old at row there
          (known ∙ ap (λ (r : Row). Some r.span) (get_or_default old at parent row there))
          (add-one parent.level ∙ ap (λ (r : Row). suc r.level) (read ∙ get_or_default old at parent row there))
          before.under);
      in_order = rw (is, add-one) (put_in_order marks parents old (suc at) row
          (none_above marks parents [] old at row parent parent.span before.under once there
          (ap (λ (r : Row). r.span) (sym read)) of (omega arith))
          (recursion_from_All (Precedes marks parents row) (drop (suc at) old)
          (All-drop (Precedes marks parents row) (suc at) old
          (All-from_recursion (Precedes marks parents row) old
          (later_siblings marks parents placed old row left (omega arith)
          (recursion_from_All (Waits marks parents placed) old before.wait)))))
          before.in_order);
      waits = λ deep other also ne same. before_total marks span other (λ e. ne (sym e))
          (last other also same);
    }

-- a row put in in front of roots that come later
pub put_front : (marks : List Mark) (parents : List (Option ℕ)) (placed : List Bool) (old : List Row) (span : ℕ)
    → ArePlaced marks parents placed old → IsLeft placed span → IsTop marks parents span
    → ((row : Row) → 0 < length old → ((get_or old 0 row).level ≡ 0)
    × (comes_before marks span (get_or old 0 row).span ≡ true))
    → IsPutIn marks parents placed old (record { span = span; level = 0 } ∷ old) span
put_front marks parents placed old span before left top first =
    let row : Row = record { span = span; level = 0 } in
    record {
      row = row;
      at = 0;
      within = omega arith;
      is = refl;
      shows = refl;
      shallow = omega arith;
      under = insert_root marks parents [] old 0 row (record { level = refl; top = top }) (λ l. (first row l).0)
          before.under;
      in_order = put_in_order marks parents old 0 row tt
          (roots_after marks parents old 0 row refl (first row) before.in_order) before.in_order;
      waits = λ deep. absurd (omega (arith, deep));
    }

-- where no span is left, there are as many rows as spans
pub all_counted : (placed : List Bool) → ((span : ℕ) → IsLeft placed span → ⊥)
    → count_by (λ has_row. has_row) placed ≡ length placed
all_counted [] h = refl
all_counted (true ∷ placed) h =
    omega (
      arith,
      sum_by-cons (λ (b : Bool). if b then 1 else 0) true placed,
      all_counted placed (λ span l. h (suc span) (record { there = omega (arith, l.there); left = l.left })),
    )
all_counted (false ∷ placed) h = absurd (h 0 (record { there = omega arith; left = refl }))

-- and each has one
pub not_left : (placed : List Bool) (span : ℕ) (held : Bool) → span < length placed → (IsLeft placed span → ⊥)
    → get_or placed span true ≡ held → get_or placed span false ≡ true
not_left placed span true there h e = get_or_default placed span false true there ∙ e
not_left placed span false there h e = absurd (h (record { there = there; left = e }))

pub each_placed : (marks : List Mark) (parents : List (Option ℕ)) (placed : List Bool) (rows : List Row)
    → ArePlaced marks parents placed rows
    → ((span : ℕ) → IsLeft placed span → ⊥) → (span : ℕ) → span < length placed → rows_of span rows ≡ 1
each_placed marks parents placed rows before h span there =
    before.once span ∙ ap (λ (b : Bool). if b then 1 else 0) (not_left placed span _ there (h span) refl)
