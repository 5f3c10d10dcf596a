use Rattle.std.proofs.Common.{sym, ◌∙◌}
use Rattle.script.proofs.Cuts.{lines_next}
use Rattle.script.proofs.next_line.Goals as goal

pub returns : goal.returns
returns c = lines_next _ _ _ c.line_length.result (sym c.is_empty.ensures ∙ c.if-is_empty.false) c.line_length.ensures.count c.cut_at.ensures.line c.cut_at.ensures.rest
