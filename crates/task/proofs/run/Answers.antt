use Rattle.std.proofs.Common.{◌∙◌}
use Rattle.task.proofs.Stepping.{step_more}
use Rattle.task.proofs.run.Goals as goal

pub loop-done-preserved : goal.loop-done-preserved
loop-done-preserved g c =
    let known = c.step.ensures in
    let before = c.loop-done.invariant in
    (step_more g.B.Value.Kind.blank c.args.ticket.now.process c.loop-done._done _ _ _ _ before.0 known.exact, known.bank ∙ before.1, known.table ∙ before.2)
