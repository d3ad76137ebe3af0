-- What stands at a place of a list, and where a member of an attributes string is cut.
use Rattle.std.proofs.Common.{◌≡◌, ◌≢◌, ◌∙◌, ◌<◌, ◌==◌, ℕ, zero, suc, Bool, true, false, not, IsTrue, List, [], ◌∷◌, ◌++◌, Some, None, All, Bor, length, get_or, take, ap, arith, inl, inr, lit<, refl, subst, sym}
use Rattle.std.proofs.lemmas.Bool.Decides.{nat_tests}
use Rattle.std.proofs.lemmas.List.Elements.{All-get_or, All-head, All-tail}
use Rattle.std.proofs.lemmas.Str.Pattern.{IsSplitOnceResult, split_after}
use Rattle.std.specs.Str.{trim}
use Rattle.otel_trace_run.specs.GivenAttributes.{GivesUnread, ReadsMember}

-- a list is what stands before a place, what stands there, and what comes after it
pub at_place : {X : Type 0} (all : List X) (n : ℕ) (x : X) → n < length all → x ≡ get_or all n x
    → (after : List X) × (all ≡ take n all ++ x ∷ after)
at_place [] n x within is = absurd (omega arith)
at_place (y ∷ ys) zero x within is = (ys, cc)
at_place (y ∷ ys) (suc n) x within is =
    let rest = at_place ys n x (omega arith) is in (rest.0, ap (λ l. y ∷ l) rest.1)

-- a text has bytes where a test for none fails
pub some_bytes : (text : List ℕ) (is_empty : Bool) → is_empty ≡ (length text == 0)
    → (IsTrue (not is_empty) → text ≢ []) × (text ≢ [] → IsTrue (not is_empty))
some_bytes [] true e = (λ h same. cc, λ some. absurd (some refl))
some_bytes [] false e = let no : ⊥ = cc in absurd no
some_bytes (b ∷ bs) true e = let no : ⊥ = grind (arith, nat_tests) in absurd no
some_bytes (b ∷ bs) false e = (λ h same. cc, λ some. refl)

-- a member without an equals sign reads where it is empty alone
pub unread_alone : (member : List ℕ) → IsSplitOnceResult 61 member None → member ≢ [] → ReadsMember member → ⊥
unread_alone member found some (inl none) = some none
unread_alone member found some (inr (key, value, e, free, has)) =
    split_after 61 member key value None found (lit< tt) e (λ i below. All-get_or (λ b. b ≢ 61) key i 0 below free)

-- a member that reads has a key in front of its first equals sign
pub read_by_key : (member : List ℕ) (key rest : Bor (List ℕ)) → IsSplitOnceResult 61 member (Some (key, rest)) → member ≢ []
    → ReadsMember member → trim key.now ≢ []
read_by_key member key rest found some (inl none) = absurd (some none)
read_by_key member key rest found some (inr (front, value, e, free, has)) =
    let same = split_after 61 member front value (Some (key, rest)) found (lit< tt) e (λ i below. All-get_or (λ b. b ≢ 61) front i 0 below free) in
    λ none. has (ap trim (sym same.0) ∙ none)

-- a member among others that read reads
reads_inside : (before after : List (List ℕ)) (member : List ℕ) → All ReadsMember (before ++ member ∷ after) → ReadsMember member
reads_inside [] after member all = All-head ReadsMember member after all
reads_inside (first ∷ before) after member all =
    reads_inside before after member (All-tail ReadsMember first (before ++ member ∷ after) all)

-- where each attribute reads, none is the first that does not
pub none_unread : (given : List (List ℕ)) (member : List ℕ) → GivesUnread given None → GivesUnread given (Some member) → ⊥
none_unread [] member all found = cc
none_unread (text ∷ more) member all (before, after, cut, reads, does_not) =
    does_not (reads_inside before after member (subst (All ReadsMember) cut all))
