-- Columns follow time.
use Rattle.std.proofs.Common.{◌<◌, ◌≤◌, ◌/◌, ℕ, arith}
use Rattle.std.proofs.lemmas.Nat.{le-div, div-add-mod'}
use Rattle.std.proofs.lemmas.Grind.{common_steps}
use Rattle.otel_picture.specs.Bars.{column}

pub div_follows : (m n k : ℕ) → 0 < k → m ≤ n → m / k ≤ n / k
div_follows m n k p h = le-div (m / k) n k p (omega (arith, div-add-mod' m k))

pub column_follows : (first last columns earlier later : ℕ) → first ≤ last → earlier ≤ later
    → column first last columns earlier ≤ column first last columns later
column_follows first last columns earlier later o h = grind (arith, common_steps, div_follows)
