-- A call of the object of a vtable, told at the vtable that it had before the call.
use Rattle.std.proofs.Common.{◌≡◌, refl, subst, ap}

-- what the call did to the object, where the box that it was lent from stays at its vtable
pub boxed_call : {I B : Type 0} (F : I → Type 0) (Q : (k : I) → F k → F k → Type 0) (box : (k : I) → F k → B) {i j : I} {x : F i} {y z : F j}
    → ◌≡◌ {A = (k : I) × F k} (j, y) (i, x) → Q j y z → (v : F i) × (box j z ≡ box i v) × Q i x v
boxed_call {I} F Q box {i} {j} {x} {y} {z} e h = let P : ((k : I) × F k) → Type 0 = λ p. (v : F p.0) × (box j z ≡ box p.0 v) × Q p.0 p.1 v in subst P e (z, refl, h)

-- what is read off the object is the same on both sides
pub same_boxed : {I B : Type 0} (F : I → Type 0) (f : (k : I) → F k → B) {i j : I} {x : F i} {y : F j}
    → ◌≡◌ {A = (k : I) × F k} (j, y) (i, x) → f j y ≡ f i x
same_boxed {I} F f e = ap (λ (p : (k : I) × F k). f p.0 p.1) e
