-- The first items are cleared, the others as they were.
use Rattle.std.proofs.Common.{◌≡◌, ◌++◌, map, take, drop}
use Rattle.upkeep.specs.Upkeep.{cleared}
use Rattle.upkeep.proofs.clear.Given as goal

abbrev pub invariant-loop-item : goal.invariant-loop-item
invariant-loop-item g l =
    (g.B.Bank.cells l.bank ≡ map cleared (take l.item (g.B.Bank.cells l.initial.bank)) ++ drop l.item (g.B.Bank.cells l.initial.bank))
    × (g.B.Bank.places l.bank ≡ g.B.Bank.places l.initial.bank)
