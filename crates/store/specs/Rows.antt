-- The row that a process of the store stands before, with the remembered owner's entry where the row asks for it.
use Rattle.std.specs.Prelude.{ℕ, cond, None, Option}
use Rattle.table.specs.Tasks.{task, in_writes}
use Rattle.table.specs.declared.entry.Entry.{Entry}
use Rattle.rows.specs.declared.place.Place.{Place}
use Rattle.rows.specs.declared.place.Place.TheVariants.{Closed, Idle, R1, R2, R3, R4, R5, D1, D2, C, L1, L2, L3, L4, K, W, U, A1, A2, A3}
use Rattle.process.specs.Moves.{Move}
use Rattle.process.specs.Rows.{among, is_committed, move}
use Rattle.process.specs.declared.record.Process.{Process}
use Rattle.store.specs.Model.{Memory, State, process, task_of}

module _ {V : Type 0} (blank : V) where
  abbrev pub owner_of : Memory V → ℕ → Process
  owner_of s w = among s.processes s.number w

  -- the item's entry in the write set of an owner that has committed
  abbrev pub owned : Memory V → ℕ → ℕ → Option (Entry V)
  owned s w i = cond (is_committed (owner_of s w).status) (in_writes (task blank s.entries w (owner_of s w).sizes) i) None

  -- the entry of the remembered owner, where the row asks for it
  abbrev pub recalled : Memory V → Place → Option (Entry V)
  recalled s Closed = None
  recalled s Idle = None
  recalled s (R1 i) = None
  recalled s (R2 i m) = None
  recalled s (R3 i) = None
  recalled s (R4 i l) = None
  recalled s (R5 i l) = owned s l.owner i
  recalled s (D1 k abort) = None
  recalled s (D2 k m abort) = None
  recalled s C = None
  recalled s (L1 i) = None
  recalled s (L2 i l) = None
  recalled s (L3 i l) = owned s l.owner i
  recalled s (L4 i n) = None
  recalled s K = None
  recalled s (W k) = None
  recalled s (U i) = None
  recalled s (A1 i cause) = None
  recalled s (A2 i n cause) = None
  recalled s (A3 cause) = None

  -- the row that process p stands before
  abbrev pub row : State V → ℕ → Move V
  row s p = move blank s.cells (process s.memory p) (task_of blank s.memory p) (recalled s.memory (process s.memory p).place)
