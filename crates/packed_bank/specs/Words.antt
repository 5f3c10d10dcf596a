-- The three words of an item, fields most significant first: the lock (owner in 8 bits, sequence number in 56),
-- the count (in 8 bits, then 56 bits that are written zero and ignored), and the packed value.
use Rattle.std.specs.Prelude.{ℕ, ◌+◌, ◌*◌, ◌/◌, ◌%◌, Bool, cond, ◌&&◌, List, map, length, ◌==◌, nat_le, nat_lt, slice_index, slice_set}
use Rattle.std.specs.List.{range_with_len}
use Rattle.kinds.specs.Fields.{field, from_bit}
use Rattle.packed_bank.specs.declared.words.Part.{Part}
use Rattle.packed_bank.specs.declared.words.Part.TheVariants as part
use Rattle.bank.specs.Cells.{with_lock, with_count, with_value}
use Rattle.bank.specs.Limits.{most_items}
use Rattle.bank.specs.declared.lock.Lock.{Lock}
use Rattle.bank.specs.declared.record.Record.{Record}

-- one item for every three words; none where there are more than 192 words or no multiple of three
abbrev pub item_count : List ℕ → ℕ
item_count ws = cond (nat_le (length ws) (3 * most_items) && length ws % 3 == 0) (length ws / 3) 0

abbrev pub has_words : List ℕ → ℕ → Bool
has_words ws i = nat_lt i (item_count ws)

-- which of the three words of an item holds a part
abbrev pub offset : Part → ℕ
offset part.Lock = 0
offset part.Count = 1
offset part.Value = 2

abbrev pub lock_of : ℕ → Lock
lock_of w = record { owner = field 56 8 w; sequence = field 0 56 w }

abbrev pub lock_word : Lock → ℕ
lock_word l = from_bit 56 l.owner + from_bit 0 l.sequence

abbrev pub count_of : ℕ → ℕ
count_of w = field 56 8 w

abbrev pub count_word : ℕ → ℕ
count_word n = from_bit 56 n

-- where `done`, the word at `at` is w; every other word is as it was
abbrev pub put_word : Bool → ℕ → ℕ → List ℕ → List ℕ
put_word done at w ws = cond done (slice_set ws at w) ws

module _ {V : Type 0} (unpack : ℕ → V) (ws : List ℕ) where
  -- the record of an item that the bank has
  abbrev pub record_in : ℕ → Record V
  record_in i = record { value = unpack (slice_index ws (3 * i + 2)); lock = lock_of (slice_index ws (3 * i)); count = count_of (slice_index ws (3 * i + 1)) }

  abbrev pub cells_in : List (Record V)
  cells_in = map record_in (range_with_len 0 (item_count ws))

-- the record of an item with one of its words anew
abbrev pub with_word : {V : Type 0} → (ℕ → V) → Part → ℕ → Record V → Record V
with_word unpack part.Lock w = with_lock (lock_of w)
with_word unpack part.Count w = with_count (count_of w)
with_word unpack part.Value w = with_value (unpack w)
