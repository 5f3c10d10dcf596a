-- What clearing and copying leave of a bank's records.
use Rattle.std.specs.Prelude.{List, [], ◌∷◌}
use Rattle.bank.specs.Cells.{free, with_value}
use Rattle.bank.specs.declared.record.Record.{Record}

module _ {V : Type 0} where
  -- free, with no readers, and the value as it was
  abbrev pub cleared : Record V → Record V
  cleared c = record { value = c.value; lock = free; count = 0 }

  -- each item that both have takes the first one's value
  abbrev pub copied : List (Record V) → List (Record V) → List (Record V)
  copied [] to = to
  copied (f ∷ from) [] = []
  copied (f ∷ from) (c ∷ to) = with_value f.value c ∷ copied from to
