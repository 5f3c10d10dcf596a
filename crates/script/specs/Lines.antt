-- The lines that an iterator over an input has yet to give.
use Rattle.std.specs.Prelude.{ℕ, List}
use Rattle.script.specs.Grammar.{lines_of}
use Rattle.script.specs.declared.Lines.{Lines}

abbrev pub lines_left : Lines → List (List ℕ)
lines_left l = lines_of l.rest.now
