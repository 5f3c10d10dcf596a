use Rattle.std.proofs.Common.{◌≡◌, take}
use Rattle.upkeep.specs.Upkeep.{copied}
use Rattle.upkeep.proofs.copy_values.Given as goal

abbrev pub invariant-loop-item : goal.invariant-loop-item
invariant-loop-item g l =
    (g.B.Bank.cells l.to ≡ copied (take l.item (g.A.Bank.cells l.from)) (g.B.Bank.cells l.initial.to))
    × (g.B.Bank.places l.to ≡ g.B.Bank.places l.initial.to)
