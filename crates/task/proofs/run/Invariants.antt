use Rattle.std.proofs.Common.{◌≡◌}
use Rattle.store.specs.Model.{state}
use Rattle.task.specs.Whole.{stepped}
use Rattle.task.proofs.run.Given as goal

abbrev pub invariant-loop-done : goal.invariant-loop-done
invariant-loop-done g l =
    (state (g.B.Bank.cells l.bank) l.store l.table.entries.now ≡ stepped g.B.Value.Kind.blank l.ticket.process l._done (state (g.B.Bank.cells l.initial.bank) l.initial.store l.initial.table.entries.now))
    × (g.B.Bank.places l.bank ≡ g.B.Bank.places l.initial.bank)
    × (l.table.entries.ghost_name ≡ l.initial.table.entries.ghost_name)
