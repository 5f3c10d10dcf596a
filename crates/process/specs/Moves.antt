-- A move: what an accepted call of one process does.
use Rattle.std.specs.Prelude.{ℕ, ◌+◌, List, slice_set}
use Rattle.table.specs.Sets.{start}
use Rattle.table.specs.declared.entry.Entry.{Entry}
use Rattle.table.specs.declared.entry.Part.{Part}
use Rattle.rows.specs.Primitives.{Touch}
use Rattle.process.specs.Tells.{Told}
use Rattle.process.specs.declared.record.Process.{Process}

-- of the table at most one entry of the process's own
pub data Note (V : Type 0) : Type 0 where
  keep : Note V
  put : Part → ℕ → Entry V → Note V

-- what an accepted call of a process does: what it tells, the process's own record anew, one touch of the bank, one own entry
pub record Move (V : Type 0) : Type 0 where
  pub tells : Told V
  pub process : Process
  pub touch : Touch V
  pub note : Note V

module _ {V : Type 0} where
  abbrev pub noted : List (Entry V) → ℕ → Note V → List (Entry V)
  noted es p keep = es
  noted es p (put part k e) = slice_set es (start p part + k) e
