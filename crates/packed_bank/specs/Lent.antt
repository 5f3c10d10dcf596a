-- What a packed bank is to its callers: the words, the records that they make, and the name of the memory that was lent for them.
use Rattle.std.specs.Borrow.{GName}
use Rattle.std.specs.Prelude.{ℕ, List}
use Rattle.bank.specs.declared.record.Record.{Record}
use Rattle.packed_bank.specs.Words.{cells_in}
use Rattle.packed_bank.specs.declared.packed.PackedBank.{PackedBank}

module _ {V : Type 0} where
  abbrev pub words_of : PackedBank V → List ℕ
  words_of b = b.words.now

  abbrev pub cells_of : (ℕ → V) → PackedBank V → List (Record V)
  cells_of unpack b = cells_in unpack b.words.now

  abbrev pub place_of : PackedBank V → GName
  place_of b = b.words.ghost_name
