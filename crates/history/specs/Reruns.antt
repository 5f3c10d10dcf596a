-- A rerun: what transactions would have read and left, had each run whole and alone, one after the other.
-- It is fed scripts, which say what was asked for, and never what was answered. Every list has the latest first.
use Rattle.std.specs.Prelude.{ℕ, Bool, cond, List, [], ◌∷◌, Some, None, Option, ◌==◌, unwrap_or}
use Rattle.std.specs.Option.{is_some}

-- what a transaction asks of an item
pub data Operation (V : Type 0) : Type 0 where
  reads : ℕ → Operation V
  writes : ℕ → V → Operation V

abbrev pub Script : Type 0 → Type 0
Script V = List (Operation V)

module _ {V : Type 0} where
  -- the value that a script wrote last to an item
  abbrev pub last_write : Script V → ℕ → Option V
  last_write [] i = None
  last_write (reads j ∷ ops) i = last_write ops i
  last_write (writes j v ∷ ops) i = cond (j == i) (Some v) (last_write ops i)

  abbrev pub writes_item : Script V → ℕ → Bool
  writes_item ops i = is_some (last_write ops i)

  -- an item as a script sees it: what the script wrote last, else what is held
  abbrev pub view : (ℕ → V) → Script V → ℕ → V
  view held ops i = unwrap_or (last_write ops i) (held i)

  -- what the reads of a script give when it runs alone
  abbrev pub alone : (ℕ → V) → Script V → List V
  alone held [] = []
  alone held (reads i ∷ ops) = view held ops i ∷ alone held ops
  alone held (writes i v ∷ ops) = alone held ops

  -- what is held after scripts: at the end of each, what it wrote replaces what was held
  abbrev pub held_after : (ℕ → V) → List (Script V) → ℕ → V
  held_after held [] = held
  held_after held (s ∷ ss) = view (held_after held ss) s

  -- what the reads of each of the scripts give
  abbrev pub rerun : (ℕ → V) → List (Script V) → List (List V)
  rerun held [] = []
  rerun held (s ∷ ss) = alone (held_after held ss) s ∷ rerun held ss
