-- The limits that banks and stores share.
use Rattle.std.specs.Prelude.{ℕ, ◌-◌, ◌^◌}

-- the most items that a store serves
abbrev pub most_items : ℕ
most_items = 64

-- the most processes of a store: the highest owner, and the highest count of readers
abbrev pub most_processes : ℕ
most_processes = 16

-- the highest sequence number of a lock
abbrev pub most_sequence : ℕ
most_sequence = 2 ^ 56 - 1

-- the most entries of a read set or a write set
abbrev pub set_size : ℕ
set_size = 8
