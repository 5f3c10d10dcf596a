-- What was told so far and what the calls left will tell make up the whole, and the calls left lead to the last state.
use Rattle.std.proofs.Common.{◌≡◌, ◌++◌, map, drop}
use Rattle.store.specs.Model.{state}
use Rattle.store.specs.Tells.{told}
use Rattle.history.specs.Invariants.{left_by}
use Rattle.history.specs.Performed.{tells_of}
use Rattle.history.proofs.perform.Given as goal

abbrev pub invariant-loop-call : goal.invariant-loop-call
invariant-loop-call g l =
    (map told l.answers.items ++ tells_of g.B.Value.Kind.blank (state (g.B.Bank.cells l.bank) l.store l.table.entries.now) (drop l.call-index l.calls)
    ≡ tells_of g.B.Value.Kind.blank (state (g.B.Bank.cells l.initial.bank) l.initial.store l.initial.table.entries.now) l.calls)
    × (left_by g.B.Value.Kind.blank (state (g.B.Bank.cells l.bank) l.store l.table.entries.now) (drop l.call-index l.calls)
    ≡ left_by g.B.Value.Kind.blank (state (g.B.Bank.cells l.initial.bank) l.initial.store l.initial.table.entries.now) l.calls)
    × (g.B.Bank.places l.bank ≡ g.B.Bank.places l.initial.bank)
    × (l.table.entries.ghost_name ≡ l.initial.table.entries.ghost_name)
