-- Reading one item after the other, as a loop does.
use Rattle.std.proofs.Common.{◌≡◌, ◌+◌, ◌≤◌, ◌<◌, ℕ, List, [], ◌∷◌, ◌++◌, Result, Ok, Err, length, get_or, drop, map}
use Rattle.std.proofs.Common.{refl, sym, ap, subst, ◌∙◌, append_assoc, append-nil}
use Rattle.std.proofs.lemmas.List.{drop_more, drop_all}
use Rattle.json.specs.Json.{Json}
use Rattle.otel_otlp_read.specs.declared.fault.Fault.{Fault}
use Rattle.otel_otlp_read.specs.declared.fault.ReadError.{ReadError}
use Rattle.otel_otlp_read.specs.declared.fault.ReadError.TheVariants as errors
use Rattle.otel_otlp_read.specs.Reading.{◌>>=◌, Fails, Gives, grown, joined, only}

-- nothing in front
pub grown-nil : {A : Type 0} (read : Result (List A) Fault) → grown [] read ≡ read
grown-nil (Ok more) = refl
grown-nil (Err fault) = refl

-- the first of what is read stands in front of the others
pub grown_then : {A : Type 0} (front : List A) (first others : Result (List A) Fault) (now : List A)
    → grown front first ≡ Ok now
    → grown front (first >>= λ a. others >>= λ b. Ok (a ++ b)) ≡ grown now others
grown_then front (Ok a) (Ok b) now e =
    let same : front ++ a ≡ now = cc in
    ap Ok (sym (append_assoc front a b)) ∙ ap (λ w. Ok (w ++ b)) same
grown_then front (Ok a) (Err fault) now e = refl
grown_then front (Err fault) others now e = absurd cc

-- and where it fails, all fails
pub grown_fails : {A : Type 0} (error : ReadError) (front : List A) (first : Result (List A) Fault)
    (next : List A → Result (List A) Fault) → Fails error (grown front first)
    → Fails error (grown front (first >>= next))
grown_fails errors.OutOfMemory front first next h = tt
grown_fails (errors.Fault fault) front (Ok a) next h = absurd cc
grown_fails (errors.Fault fault) front (Err other) next h = h

-- what stands in front of what is read, before it or with it
pub grown_prefix : {A : Type 0} (front first : List A) (read : Result (List A) Fault)
    → grown front (read >>= λ more. Ok (first ++ more)) ≡ grown (front ++ first) read
grown_prefix front first (Ok more) = ap Ok (sym (append_assoc front first more))
grown_prefix front first (Err fault) = refl

-- an error through an equation
pub fails_by : {A : Type 0} (error : ReadError) (read other : Result (List A) Fault) → other ≡ read → Fails error read
    → Fails error other
fails_by error read other e h = subst (λ r. Fails error r) (sym e) h

-- an answer through an equation
pub gives_by : {X A : Type 0} (seen : X → A) (answer : Result X ReadError) (read other : Result A Fault) → other ≡ read
    → Gives seen answer read → Gives seen answer other
gives_by seen answer read other e h = subst (λ r. Gives seen answer r) (sym e) h

-- one item alone
pub grown_only : {A : Type 0} (front new : List A) (read : Result A Fault) (x : A) → read ≡ Ok x → new ≡ front ++ x ∷ []
    → grown front (only read) ≡ Ok new
grown_only front new read x e is = ap (λ r. grown front (only r)) e ∙ ap Ok (sym is)

pub only_fails : {A : Type 0} (error : ReadError) (front : List A) (read : Result A Fault) → Fails error read
    → Fails error (grown front (only read))
only_fails errors.OutOfMemory front read h = tt
only_fails (errors.Fault fault) front read h = ap (λ r. grown front (only r)) h

-- what stands around what is read
pub grown_around : {A : Type 0} (front first now last : List A) (read : Result (List A) Fault)
    → grown (front ++ first) read ≡ Ok now
    → grown front (read >>= λ more. Ok (first ++ (more ++ last))) ≡ Ok (now ++ last)
grown_around front first now last (Ok more) e =
    let same : (front ++ first) ++ more ≡ now = cc in
    ap Ok (sym (append_assoc front first (more ++ last)) ∙ sym (append_assoc (front ++ first) more last))
    ∙ ap (λ w. Ok (w ++ last)) same
grown_around front first now last (Err fault) e = absurd cc

pub around_fails : {A : Type 0} (error : ReadError) (front first last : List A) (read : Result (List A) Fault)
    → Fails error (grown (front ++ first) read)
    → Fails error (grown front (read >>= λ more. Ok (first ++ (more ++ last))))
around_fails errors.OutOfMemory front first last read h = tt
around_fails (errors.Fault fault) front first last (Ok more) h = absurd cc
around_fails (errors.Fault fault) front first last (Err other) h = h

-- what is left, of which x is the first
pub first_left : {V : Type 0} (items : List V) (i : ℕ) (x : V) → i < length items → x ≡ get_or items i x
    → drop i items ≡ x ∷ drop (i + 1) items
first_left items i x within is = drop_more items i x within ∙ ap (λ y. y ∷ drop (i + 1) items) (sym is)

module _ {V A : Type 0} (view : V → Json) (read : Json → Result (List A) Fault) where
  -- one item more is read
  pub goes_on : (items : List V) (i : ℕ) (x : V) (front now : List A) (total : Result (List A) Fault)
      → i < length items → x ≡ get_or items i x
      → grown front (joined read (map view (drop i items))) ≡ total → grown front (read (view x)) ≡ Ok now
      → grown now (joined read (map view (drop (i + 1) items))) ≡ total
  goes_on items i x front now total within is so_far e =
      sym (grown_then front (read (view x)) (joined read (map view (drop (i + 1) items))) now e)
      ∙ sym (ap (λ ys. grown front (joined read (map view ys))) (first_left items i x within is)) ∙ so_far

  -- an item is not read
  pub stops : (error : ReadError) (items : List V) (i : ℕ) (x : V) (front : List A) (total : Result (List A) Fault)
      → i < length items → x ≡ get_or items i x
      → grown front (joined read (map view (drop i items))) ≡ total → Fails error (grown front (read (view x)))
      → Fails error total
  stops error items i x front total within is so_far h =
      let all : grown front (joined read (x' ∷ rest)) ≡ total =
      sym (ap (λ ys. grown front (joined read (map view ys))) (first_left items i x within is)) ∙ so_far in
      subst (λ r. Fails error r) all (grown_fails error front (read x') _ h)
    where
      x' : Json
      x' = view x

      rest : List Json
      rest = map view (drop (i + 1) items)

  -- nothing is left
  pub ends : (items : List V) (i : ℕ) (front : List A) (total : Result (List A) Fault) → length items ≤ i
      → grown front (joined read (map view (drop i items))) ≡ total → total ≡ Ok front
  ends items i front total past so_far =
      sym so_far ∙ ap (λ ys. grown front (joined read (map view ys))) (drop_all i items past)
      ∙ ap Ok (append-nil front)
