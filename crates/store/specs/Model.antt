-- The whole state that the calls work on, what a call leaves of it, and what a move of one process makes of it.
use Rattle.std.specs.Prelude.{ℕ, ◌-◌, cond, ◌||◌, List, Some, None, Option, ◌==◌, nat_lt, slice_index_or, slice_set}
use Rattle.bank.specs.declared.record.Record.{Record}
use Rattle.table.specs.Tasks.{Task, task}
use Rattle.table.specs.declared.entry.Entry.{Entry}
use Rattle.rows.specs.Primitives.{touched}
use Rattle.process.specs.Moves.{Note, Move, noted}
use Rattle.process.specs.Tells.{Told}
use Rattle.process.specs.Traits.{fresh}
use Rattle.process.specs.declared.record.Process.{Process}
use Rattle.store.specs.declared.stored.Store.{Store}

-- the store and its working table: all but the bank
pub record Memory (V : Type 0) : Type 0 where
  pub processes : List Process
  pub number : ℕ
  pub life : ℕ
  pub entries : List (Entry V)

pub record State (V : Type 0) : Type 0 where
  pub cells : List (Record V)
  pub memory : Memory V

-- what a call tells, and the state that it leaves
pub record Outcome (V : Type 0) : Type 0 where
  pub tells : Told V
  pub after : State V

-- the record of a process, if there is one of this number
abbrev pub record_of : List Process → ℕ → ℕ → Option Process
record_of ps number p = cond (p == 0 || nat_lt number p) None (Some (slice_index_or ps (p - 1) fresh))

module _ {V : Type 0} where
  abbrev pub outcome : Told V → State V → Outcome V
  outcome t s = record { tells = t; after = s }

  abbrev pub memory : Store → List (Entry V) → Memory V
  memory st es = record { processes = st.processes; number = st.number; life = st.life; entries = es }

  abbrev pub state : List (Record V) → Store → List (Entry V) → State V
  state cs st es = record { cells = cs; memory = memory st es }

  abbrev pub process : Memory V → ℕ → Process
  process s p = slice_index_or s.processes (p - 1) fresh

  -- a process's own record and at most one of its entries anew
  abbrev pub with_own : Memory V → ℕ → Process → Note V → Memory V
  with_own s p q n = record { processes = slice_set s.processes (p - 1) q; number = s.number; life = s.life; entries = noted s.entries p n }

module _ {V : Type 0} (blank : V) where
  abbrev pub task_of : Memory V → ℕ → Task V
  task_of s p = task blank s.entries p (process s p).sizes

  abbrev pub moved : State V → ℕ → Move V → State V
  moved s p m = record { cells = touched blank s.cells m.touch; memory = with_own s.memory p m.process m.note }

  abbrev pub accepted : State V → ℕ → Move V → Outcome V
  accepted s p m = record { tells = m.tells; after = moved s p m }
