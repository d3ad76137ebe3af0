-- Whether what a processor leaves in its queue, and how many spans it dropped, is what it tells. The two proofs at the
-- end stand here and not in proofs/, since an `impl` cites them, which may cite specs/ alone.
use Rattle.std.specs.Prelude.{◌≡◌, ℕ, Bool, true, false, not, if◌then◌else◌, refl}

-- where a processor leaves what its telling says: while it is open, so many are left as its telling says wait
abbrev pub LeavesTold : (leaves_told is_open : Bool) (left waiting : ℕ) → Type 0
LeavesTold true true left waiting = left ≡ waiting
LeavesTold true false left waiting = Unit {0}
LeavesTold false is_open left waiting = Unit {0}

-- where a processor leaves what its telling says: it dropped as many as its telling says
abbrev pub DroppedTold : (leaves_told : Bool) (dropped told : ℕ) → Type 0
DroppedTold true dropped told = dropped ≡ told
DroppedTold false dropped told = Unit {0}

-- a processor without a queue
pub none_left : (is_open : Bool) → LeavesTold true is_open 0 0
none_left true = refl
none_left false = tt

-- a processor in which so many wait, and which leaves them while it is not shut
pub left_unless_shut : (is_shut : Bool) (waiting : ℕ)
    → LeavesTold true (not is_shut) (if is_shut then 0 else waiting) waiting
left_unless_shut true waiting = tt
left_unless_shut false waiting = refl
