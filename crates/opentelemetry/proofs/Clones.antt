-- Lists whose elements are clones of each other.
use Rattle.std.proofs.Common.{◌≡◌, List, [], ◌∷◌, map, refl}
use Rattle.std.specs.List.{AllZip}

-- elements that look alike through f make equal lists through f
pub map_all_zip : {A B : Type 0} (f : A → B) (xs ys : List A) → AllZip (λ x y. f y ≡ f x) xs ys → map f ys ≡ map f xs
map_all_zip f [] [] h = refl
map_all_zip f [] (y ∷ ys) h = absurd h
map_all_zip f (x ∷ xs) [] h = absurd h
map_all_zip f (x ∷ xs) (y ∷ ys) h = let others : map f ys ≡ map f xs = map_all_zip f xs ys h.1 in let first : f y ≡ f x = h.0 in cc
