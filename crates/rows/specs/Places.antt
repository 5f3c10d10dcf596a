-- What a place asks of the bank, and where a process goes after its sets are counted out, an item is compared, or a lock given up.
use Rattle.std.specs.Prelude.{ℕ, ◌+◌, ◌-◌, Bool, true, false, cond, map, Some, None, Option, ◌==◌, nat_lt}
use Rattle.bank.specs.declared.lock.Lock.{Lock}
use Rattle.table.specs.Sets.{item_of}
use Rattle.table.specs.Tasks.{Task, in_reads, next_item, unlock_sequence}
use Rattle.table.specs.declared.entry.Entry.{Entry}
use Rattle.table.specs.declared.entry.Part.TheVariants.{Reads, Writes}
use Rattle.rows.specs.Primitives.{Primitive, nothing, read_lock, read_value, read_count, write_lock, write_value, swap_lock, swap_count, ask_zero}
use Rattle.rows.specs.declared.place.Place.{Place}
use Rattle.rows.specs.declared.place.Place.TheVariants.{Closed, Idle, R1, R2, R3, R4, R5, D1, D2, C, L1, L2, L3, L4, K, W, U, A1, A2, A3}

abbrev pub lock_of : ℕ → ℕ → Lock
lock_of owner n = record { owner = owner; sequence = n }

-- the next item of the data set is locked; after the last comes K
abbrev pub lock_to : Option ℕ → Place
lock_to None = K
lock_to (Some i) = L1 i

-- the next item of the data set is given up; after the last comes A3
abbrev pub abort_to : Option ℕ → Option ℕ → Place
abort_to cause None = A3 cause
abort_to cause (Some i) = A1 i cause

module _ {V : Type 0} (t : Task V) where
  -- the read set is counted out
  abbrev pub counted_out : Bool → Place
  counted_out true = abort_to None (next_item t 0)
  counted_out false = cond (t.sizes.writes == 0) C (lock_to (next_item t 0))

  -- entry k of the read set is counted out next
  abbrev pub count_from : ℕ → Bool → Place
  count_from k abort = cond (nat_lt k t.sizes.reads) (D1 k abort) (counted_out abort)

  -- n is the item's sequence number: if the read set has another, abort starts
  abbrev pub compared_with : ℕ → ℕ → Option (Entry V) → Place
  compared_with i n None = L4 i n
  compared_with i n (Some e) = cond (e.sequence == n) (L4 i n) (abort_to (Some i) (next_item t 0))

  abbrev pub compared : ℕ → ℕ → Place
  compared i n = compared_with i n (in_reads t i)

  -- without an owner the number is compared; else the owner is asked first
  abbrev pub seen_to : ℕ → Lock → Place
  seen_to i l = cond (l.owner == 0) (compared i l.sequence) (L3 i l)

  -- the item's lock is given up only by its owner
  abbrev pub released : ℕ → Lock → Option ℕ → Place
  released i l cause = cond (l.owner == t.me) (A2 i l.sequence cause) (abort_to cause (next_item t (i + 1)))

  abbrev pub asked : Place → Primitive V
  asked Closed = nothing
  asked Idle = nothing
  asked (R1 i) = read_count i
  asked (R2 i m) = swap_count i m (m + 1)
  asked (R3 i) = read_lock i
  asked (R4 i l) = read_value i
  asked (R5 i l) = nothing
  asked (D1 k abort) = read_count (t.entry Reads k).item
  asked (D2 k m abort) = cond (m == 0) nothing (swap_count (t.entry Reads k).item m (m - 1))
  asked C = nothing
  asked (L1 i) = read_lock i
  asked (L2 i l) = read_value i
  asked (L3 i l) = nothing
  asked (L4 i n) = swap_lock i (lock_of 0 n) (lock_of t.me n)
  asked K = ask_zero (map item_of t.writes)
  asked (W k) = write_value (t.entry Writes k).item (t.entry Writes k).value
  asked (U i) = write_lock i (lock_of 0 (unlock_sequence t i))
  asked (A1 i cause) = read_lock i
  asked (A2 i n cause) = write_lock i (lock_of 0 n)
  asked (A3 cause) = nothing
