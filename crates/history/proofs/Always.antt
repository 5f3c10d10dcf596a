-- The invariants stand after an accepted set-up and every list of calls.
use Rattle.std.proofs.Common.{◌≡◌, ℕ, List}
use Rattle.process.specs.Tells.{done}
use Rattle.store.specs.Calls.{called, set_up}
use Rattle.store.specs.Model.{State}
use Rattle.store.specs.declared.calling.Call.{Call}
use Rattle.history.specs.Invariants.{Count, Storable, Standing, Ties, Freshes, Changes, left_by}
use Rattle.history.proofs.Changing.{changes}
use Rattle.history.proofs.CountCalls.{Fresh, through, set_up_fresh}
use Rattle.history.proofs.FreshCalls.{fresh_call, fresh_start}
use Rattle.history.proofs.OwnerCalls.{standing_call, standing_fresh, storable_standing}
use Rattle.history.proofs.TieCalls.{ties_call, ties_fresh}

module _ {V : Type 0} (blank : V) (s : State V) (number life : ℕ) (accepted : (set_up s number life).tells ≡ done) (cs : List (Call V)) where
  -- all invariants of a state
  abbrev pub All : State V → Type 0
  All t = Standing blank t × Ties blank t × Freshes blank t

  pub always : All (left_by blank (set_up s number life).after cs)
  always =
      let f : Fresh blank (set_up s number life).after = set_up_fresh blank s number life accepted in
      through blank All (λ t c h. (standing_call blank t c h.0, ties_call blank t c h.0 h.1, fresh_call blank t c h.0 h.1 h.2)) (set_up s number life).after cs
      (standing_fresh blank (set_up s number life).after f, ties_fresh blank (set_up s number life).after f, fresh_start blank (set_up s number life).after f.none)

  pub always_counted : Count blank (left_by blank (set_up s number life).after cs)
  always_counted = always.0.counts.count

  pub always_storable : Storable blank (left_by blank (set_up s number life).after cs)
  always_storable = storable_standing blank _ always.0

  -- and the next call changes no current value, but where a transaction commits
  pub always_changes : (c : Call V) → Changes blank (left_by blank (set_up s number life).after cs) (called blank (left_by blank (set_up s number life).after cs) c).after
  always_changes c = changes blank _ always.0 always.1 c
