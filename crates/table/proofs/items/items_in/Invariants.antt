use Rattle.std.proofs.Common.{◌≡◌, map, length, take, drop, replicate}
use Rattle.table.specs.Sets.{item_of}
use Rattle.table.proofs.items.items_in.Given as goal

abbrev pub invariant-loop-at : goal.invariant-loop-at
invariant-loop-at g l = (length l.places ≡ 8) × (take l.at l.places ≡ take l.at (map item_of l.set)) × (drop l.at l.places ≡ drop l.at (replicate 8 0))
