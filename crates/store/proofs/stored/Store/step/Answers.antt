use Rattle.std.proofs.Common.{◌-◌, get_or, sym, ap, subst}
use Rattle.table.specs.Tasks.{task}
use Rattle.process.specs.Traits.{Fits, fresh}
use Rattle.process.specs.Turns.{Stepped}
use Rattle.process.specs.declared.record.Process.{Process}
use Rattle.store.proofs.Fitting.{fits_set, stepped_fits}
use Rattle.store.proofs.stored.Store.step.Goals as goal

pub invariant_of-self-clause-fit : goal.invariant_of-self-clause-fit
invariant_of-self-clause-fit g c =
    let q : Process = get_or c.args.self.now.processes (c.args.process - 1) fresh in
    let es = c.args.table.now.entries.now in
    let left = stepped_fits q (task g.B.Value.Kind.blank es c.args.process q.sizes) (c.args.self.now.fit (c.args.process - 1)) g.B.Value.Kind.blank (g.B.Bank.cells c.args.bank.now) es c.args.process c.recalled-owned.result in
    fits_set c.args.self.now.processes (c.args.process - 1) _ c.args.self.now.fit (subst Fits (sym (ap (λ (d : Stepped g.row.B-Value.Denot). d.process) c.step.ensures.exact)) left)
