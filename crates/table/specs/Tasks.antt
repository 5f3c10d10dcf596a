-- A task: what a process has of the working table, and what is asked of it.
use Rattle.std.specs.Prelude.{ℕ, ◌+◌, List, Some, None, Option}
use Rattle.std.specs.Option.{option_or}
use Rattle.table.specs.declared.entry.Entry.{Entry}
use Rattle.table.specs.declared.entry.Part.{Part}
use Rattle.table.specs.declared.entry.Part.TheVariants.{Reads, Writes}
use Rattle.table.specs.declared.entry.Sizes.{Sizes}
use Rattle.table.specs.declared.task.Task as view
use Rattle.table.specs.Sets.{entry_at, start, set_of, find, slot, lowest}

-- a process's number, the sizes of its sets, its parts entry by entry, and its two sets
pub record Task (V : Type 0) : Type 0 where
  pub me : ℕ
  pub sizes : Sizes
  pub entry : Part → ℕ → Entry V
  pub reads : List (Entry V)
  pub writes : List (Entry V)

abbrev pub task : {V : Type 0} → V → List (Entry V) → ℕ → Sizes → Task V
task blank es p z =
    record {
      me = p;
      sizes = z;
      entry = λ part k. entry_at blank es (start p part + k);
      reads = set_of es p Reads z.reads;
      writes = set_of es p Writes z.writes;
    }

module _ {V : Type 0} where
  -- what the code's view of a process's sets is a view of
  abbrev pub seen : V → view.Task V → Task V
  seen blank v = task blank v.entries.now v.me v.sizes

  -- the number of the entry, or n where there is none
  abbrev pub sequence_or : ℕ → Option (Entry V) → ℕ
  sequence_or n None = n
  sequence_or n (Some e) = e.sequence

module _ {V : Type 0} (t : Task V) where
  -- the set in a part
  abbrev pub set_at : Part → List (Entry V)
  set_at Reads = t.reads
  set_at Writes = t.writes

  abbrev pub in_reads : ℕ → Option (Entry V)
  in_reads i = find i t.reads

  abbrev pub in_writes : ℕ → Option (Entry V)
  in_writes i = find i t.writes

  -- what a read of the item finds: the write set's entry, else the read set's
  abbrev pub found : ℕ → Option (Entry V)
  found i = option_or (in_writes i) (in_reads i)

  abbrev pub write_slot : ℕ → ℕ
  write_slot i = slot i t.writes

  -- the lowest item of the data set that is not below `from`
  abbrev pub next_item : ℕ → Option ℕ
  next_item from = lowest from (lowest from None t.reads) t.writes

  -- the number with which an item is unlocked: the write set's, else the read set's
  abbrev pub unlock_sequence : ℕ → ℕ
  unlock_sequence i = sequence_or (sequence_or 0 (in_reads i)) (in_writes i)
