-- What is printed so far, and what the lines left will print, make up the whole; the lines so far lead to the present state.
use Rattle.std.proofs.Common.{◌≡◌, ◌+◌, ◌≤◌, ◌++◌, length, string_bytes}
use Rattle.script.specs.Grammar.{lines_of}
use Rattle.script.specs.Lines.{lines_left}
use Rattle.store.specs.Model.{state}
use Rattle.bench.specs.Plays.{printed, Reaches}
use Rattle.bench.proofs.session.play_lines.Given as goal

abbrev pub invariant-loop-i : goal.invariant-loop-i
invariant-loop-i g l =
    (string_bytes l.out ++ printed g.B.Value.Kind.blank g.B.Value.Kind.packing g.B.Value.Kind.unpacking (state (g.B.Bank.cells l.bank) l.store l.table.entries.now) (l.i-iterator.count + 1) (lines_left l.i-iterator.iter)
    ≡ printed g.B.Value.Kind.blank g.B.Value.Kind.packing g.B.Value.Kind.unpacking (state (g.B.Bank.cells l.fn.bank) l.fn.store l.fn.table.entries.now) 1 (lines_of l.fn.input))
    × (l.i-iterator.count + length (lines_left l.i-iterator.iter) ≤ length l.fn.input)
    × ((r : Reaches g.B.Value.Kind.blank g.B.Value.Kind.packing g.B.Value.Kind.unpacking (state (g.B.Bank.cells l.fn.bank) l.fn.store l.fn.table.entries.now) (lines_of l.fn.input) (state (g.B.Bank.cells l.bank) l.store l.table.entries.now)) × (r.rest ≡ lines_left l.i-iterator.iter))
    × (g.B.Bank.places l.bank ≡ g.B.Bank.places l.fn.bank)
    × (l.table.entries.ghost_name ≡ l.fn.table.entries.ghost_name)
