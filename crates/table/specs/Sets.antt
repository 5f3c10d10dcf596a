-- The entries of the working table, and the sets that they make up.
-- A process has sixteen entries: eight for its read set, then eight for its write set.
use Rattle.std.specs.Prelude.{ℕ, ◌+◌, ◌-◌, ◌*◌, cond, List, length, take, drop, Some, None, Option, ◌==◌, nat_lt, slice_index_or, unwrap_or}
use Rattle.std.specs.List.{find as first_that, fold, position_from}
use Rattle.bank.specs.Limits.{set_size}
use Rattle.table.specs.declared.entry.Entry.{Entry}
use Rattle.table.specs.declared.entry.Part.{Part}
use Rattle.table.specs.declared.entry.Part.TheVariants.{Reads, Writes}
use Rattle.table.specs.declared.entry.Sizes.{Sizes}

-- where a process's part begins
abbrev pub start : ℕ → Part → ℕ
start p Reads = 2 * set_size * (p - 1)
start p Writes = 2 * set_size * (p - 1) + set_size

-- the size of the set in a part
abbrev pub size_of : Part → Sizes → ℕ
size_of Reads z = z.reads
size_of Writes z = z.writes

-- the lower of an item and the best so far, among those not below `from`
abbrev pub lower : ℕ → ℕ → Option ℕ → Option ℕ
lower from i None = cond (nat_lt i from) None (Some i)
lower from i (Some b) = cond (nat_lt i from) (Some b) (Some (cond (nat_lt i b) i b))

module _ {V : Type 0} where
  abbrev pub blank_entry : V → Entry V
  blank_entry blank = record { item = 0; sequence = 0; value = blank }

  abbrev pub entry_at : V → List (Entry V) → ℕ → Entry V
  entry_at blank es i = slice_index_or es i (blank_entry blank)

  -- a set: the first `size` entries of a process's part
  abbrev pub set_of : List (Entry V) → ℕ → Part → ℕ → List (Entry V)
  set_of es p part size = take size (drop (start p part) es)

  abbrev pub item_of : Entry V → ℕ
  item_of e = e.item

  -- the first entry that has the item
  abbrev pub find : ℕ → List (Entry V) → Option (Entry V)
  find i es = first_that (λ e. e.item == i) es

  -- where the first entry that has the item stands
  abbrev pub place : ℕ → List (Entry V) → Option ℕ
  place i es = position_from (λ e. e.item == i) 0 es

  -- where it stands, or where the set ends
  abbrev pub slot : ℕ → List (Entry V) → ℕ
  slot i es = unwrap_or (place i es) (length es)

  -- the lowest item not below `from`, of the set's and of the best so far
  abbrev pub lowest : ℕ → Option ℕ → List (Entry V) → Option ℕ
  lowest from best es = fold (λ found e. lower from e.item found) best es
