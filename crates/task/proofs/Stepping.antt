-- One step more.
use Rattle.std.proofs.Common.{◌≡◌, ℕ, ◌+◌, sym, ap, ◌∙◌, add-one}
use Rattle.store.specs.Calls.{step}
use Rattle.store.specs.Model.{State, Outcome, outcome}
use Rattle.process.specs.Tells.{Told}
use Rattle.task.specs.Whole.{stepped}

module _ {V : Type 0} (blank : V) (p : ℕ) where
  pub step_more : (n : ℕ) (first before later : State V) (t : Told V) → before ≡ stepped blank p n first → outcome t later ≡ step blank before p → later ≡ stepped blank p (n + 1) first
  step_more n first before later t h e =
      ap (λ (o : Outcome V). o.after) e
      ∙ ap (λ (s : State V). (step blank s p).after) h
      ∙ ap (λ (k : ℕ). stepped blank p k first) (sym (add-one n))
