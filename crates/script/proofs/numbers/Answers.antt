use Rattle.std.proofs.Common.{rules, ◌∙◌}
use Rattle.std.proofs.lemmas.List.{length-set}
use Rattle.script.proofs.Taken.{taken}
use Rattle.script.proofs.numbers.Goals as goal

pub loop-slot-preserved : goal.loop-slot-preserved
loop-slot-preserved g c =
    let before = c.loop-slot.invariant in (
      length-set _ _ _ ∙ before.0,
      taken g.row.N c.loop-slot.slot-index c.loop-slot.left.now _ c.loop-slot.slot-items c.in_ok-number.rest.now _ (search rules) (search rules) (search rules) before.1,
    )
