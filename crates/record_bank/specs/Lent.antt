-- What a bank of records is to its callers: the records, and the name of the memory that was lent for them.
use Rattle.std.specs.Borrow.{GName}
use Rattle.std.specs.Prelude.{List}
use Rattle.bank.specs.declared.record.Record.{Record}
use Rattle.record_bank.specs.declared.RecordBank.{RecordBank}

module _ {V : Type 0} where
  abbrev pub records_of : RecordBank V → List (Record V)
  records_of b = b.records.now

  abbrev pub place_of : RecordBank V → GName
  place_of b = b.records.ghost_name
