-- What one step may ask of a bank, what the bank answers, and what of it that changes.
use Rattle.std.specs.Prelude.{ℕ, Bool, true, false, List, take, slice_set}
use Rattle.bank.specs.Cells.{free, cell_at, has, stores_lock, swaps_lock, swaps_count, all_zero, with_lock, with_value, with_count}
use Rattle.bank.specs.Limits.{set_size}
use Rattle.bank.specs.declared.lock.Lock.{Lock}
use Rattle.bank.specs.declared.record.Record.{Record}
use Rattle.rows.specs.declared.asking.Reply.{Reply}
use Rattle.rows.specs.declared.asking.Reply.TheVariants as reply

pub data Primitive (V : Type 0) : Type 0 where
  nothing : Primitive V
  read_lock : ℕ → Primitive V
  read_value : ℕ → Primitive V
  read_count : ℕ → Primitive V
  write_lock : ℕ → Lock → Primitive V
  write_value : ℕ → V → Primitive V
  swap_lock : ℕ → Lock → Lock → Primitive V
  swap_count : ℕ → ℕ → ℕ → Primitive V
  ask_zero : List ℕ → Primitive V

-- of a bank at most one cell is touched
pub data Touch (V : Type 0) : Type 0 where
  still : Touch V
  relock : ℕ → Lock → Touch V
  revalue : ℕ → V → Touch V
  recount : ℕ → ℕ → Touch V

module _ {V : Type 0} where
  -- what the bank answers
  abbrev pub replied : V → List (Record V) → Primitive V → Reply V
  replied blank cs nothing = reply.Nothing
  replied blank cs (read_lock i) = reply.Lock (cell_at blank cs i).lock
  replied blank cs (read_value i) = reply.Value (cell_at blank cs i).value
  replied blank cs (read_count i) = reply.Count (cell_at blank cs i).count
  replied blank cs (write_lock i l) = reply.Said (stores_lock cs i l)
  replied blank cs (write_value i v) = reply.Said (has cs i)
  replied blank cs (swap_lock i l k) = reply.Said (swaps_lock blank cs i l k)
  replied blank cs (swap_count i m n) = reply.Said (swaps_count blank cs i m n)
  replied blank cs (ask_zero is) = reply.Said (all_zero blank cs (take set_size is))

  -- the parts of a reply; where it has not got one, a zero, a blank or a no
  abbrev pub lock_in : Reply V → Lock
  lock_in reply.Nothing = free
  lock_in (reply.Lock l) = l
  lock_in (reply.Value v) = free
  lock_in (reply.Count m) = free
  lock_in (reply.Said b) = free

  abbrev pub value_in : V → Reply V → V
  value_in blank reply.Nothing = blank
  value_in blank (reply.Lock l) = blank
  value_in blank (reply.Value v) = v
  value_in blank (reply.Count m) = blank
  value_in blank (reply.Said b) = blank

  abbrev pub count_in : Reply V → ℕ
  count_in reply.Nothing = 0
  count_in (reply.Lock l) = 0
  count_in (reply.Value v) = 0
  count_in (reply.Count m) = m
  count_in (reply.Said b) = 0

  abbrev pub said : Reply V → Bool
  said reply.Nothing = false
  said (reply.Lock l) = false
  said (reply.Value v) = false
  said (reply.Count m) = false
  said (reply.Said b) = b

  -- what a primitive touches where the bank says yes
  abbrev pub touching : Primitive V → Touch V
  touching nothing = still
  touching (read_lock i) = still
  touching (read_value i) = still
  touching (read_count i) = still
  touching (write_lock i l) = relock i l
  touching (write_value i v) = revalue i v
  touching (swap_lock i l k) = relock i k
  touching (swap_count i m n) = recount i n
  touching (ask_zero is) = still

  abbrev pub if_said : Bool → Touch V → Touch V
  if_said true t = t
  if_said false t = still

  abbrev pub touched : V → List (Record V) → Touch V → List (Record V)
  touched blank cs still = cs
  touched blank cs (relock i l) = slice_set cs i (with_lock l (cell_at blank cs i))
  touched blank cs (revalue i v) = slice_set cs i (with_value v (cell_at blank cs i))
  touched blank cs (recount i n) = slice_set cs i (with_count n (cell_at blank cs i))
