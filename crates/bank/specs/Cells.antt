-- What a bank keeps for each item, and what its functions answer and change.
-- Items are numbered from 0; `blank` is the blank of the bank's kind.
use Rattle.std.specs.Prelude.{ℕ, Bool, cond, ◌&&◌, List, length, ◌==◌, nat_le, nat_lt, slice_index_or, slice_set}
use Rattle.std.specs.List.{list_all}
use Rattle.bank.specs.Limits.{most_processes, most_sequence}
use Rattle.bank.specs.declared.lock.Lock.{Lock}
use Rattle.bank.specs.declared.record.Record.{Record}

abbrev pub free : Lock
free = record { owner = 0; sequence = 0 }

-- the same owner and the same number
abbrev pub same_lock : Lock → Lock → Bool
same_lock a b = a.owner == b.owner && a.sequence == b.sequence

-- what a bank stores
abbrev pub storable : Lock → Bool
storable l = nat_le l.owner most_processes && nat_le l.sequence most_sequence

abbrev pub storable_count : ℕ → Bool
storable_count n = nat_le n most_processes

module _ {V : Type 0} where
  -- an item that the bank has not got reads as the blank, free, with no readers
  abbrev pub absent : V → Record V
  absent blank = record { value = blank; lock = free; count = 0 }

  abbrev pub cell_at : V → List (Record V) → ℕ → Record V
  cell_at blank cs i = slice_index_or cs i (absent blank)

  -- the bank has the item
  abbrev pub has : List (Record V) → ℕ → Bool
  has cs i = nat_lt i (length cs)

  -- what a write or a swap answers
  abbrev pub stores_lock : List (Record V) → ℕ → Lock → Bool
  stores_lock cs i l = has cs i && storable l

  abbrev pub swaps_lock : V → List (Record V) → ℕ → Lock → Lock → Bool
  swaps_lock blank cs i expected l = has cs i && storable l && same_lock (cell_at blank cs i).lock expected

  abbrev pub swaps_count : V → List (Record V) → ℕ → ℕ → ℕ → Bool
  swaps_count blank cs i expected n = has cs i && storable_count n && (cell_at blank cs i).count == expected

  -- each of the items has a count of 0
  abbrev pub all_zero : V → List (Record V) → List ℕ → Bool
  all_zero blank cs is = list_all (λ i. (cell_at blank cs i).count == 0) is

  -- one cell of a record anew
  abbrev pub with_lock : Lock → Record V → Record V
  with_lock l c = record { value = c.value; lock = l; count = c.count }

  abbrev pub with_value : V → Record V → Record V
  with_value v c = record { value = v; lock = c.lock; count = c.count }

  abbrev pub with_count : ℕ → Record V → Record V
  with_count n c = record { value = c.value; lock = c.lock; count = n }

  -- where `done`, the item's record is changed by f, and no other
  abbrev pub change : Bool → (Record V → Record V) → V → List (Record V) → ℕ → List (Record V)
  change done f blank cs i = cond done (slice_set cs i (f (cell_at blank cs i))) cs
