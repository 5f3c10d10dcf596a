-- What a table is to its callers: its entries, and the name of the memory that was lent for them.
use Rattle.std.specs.Borrow.{GName}
use Rattle.std.specs.Prelude.{List}
use Rattle.table.specs.declared.entry.Entry.{Entry}
use Rattle.table.specs.declared.working_table.Table.{Table}

module _ {V : Type 0} where
  abbrev pub entries_of : Table V → List (Entry V)
  entries_of t = t.entries.now

  abbrev pub place_of : Table V → GName
  place_of t = t.entries.ghost_name
