-- How a history follows its calls: its state is the one that they leave, its moment is their number,
-- and a call changes the notes of its own process only.
use Rattle.std.proofs.Common.{◌≡◌, refl, ap, ◌∙◌, ℕ, eqb, List, [], ◌∷◌, ◌++◌, reverse, length, arith}
use Rattle.std.proofs.lemmas.Bool.{cond-false, ne_eqb}
use Rattle.std.proofs.lemmas.List.{reverse-append}
use Rattle.store.specs.Calls.{called}
use Rattle.store.specs.Model.{State}
use Rattle.store.specs.declared.calling.Call.{Call}
use Rattle.history.specs.Notes.{caller}
use Rattle.history.specs.Invariants.{left_by}
use Rattle.history.specs.History.{history}

module _ {V : Type 0} (blank : V) where
  -- a call made before all the others
  state-history-first : (s : State V) (cs : List (Call V)) (c : Call V) → (history blank s (cs ++ c ∷ [])).state ≡ (history blank (called blank s c).after cs).state
  state-history-first s [] c = refl
  state-history-first s (d ∷ cs) c = ap (λ (t : State V). (called blank t d).after) (state-history-first s cs c)

  -- the state of a history is the one that its calls leave, call after call
  pub state-history : (s : State V) (cs : List (Call V)) → (history blank s (reverse cs)).state ≡ left_by blank s cs
  state-history s [] = refl
  state-history s (c ∷ cs) =
      ap (λ (ds : List (Call V)). (history blank s ds).state) (reverse-append (c ∷ []) cs)
      ∙ state-history-first s (reverse cs) c
      ∙ state-history (called blank s c).after cs

  module _ (start : State V) where
    pub moment-history : (cs : List (Call V)) → (history blank start cs).moment ≡ length cs
    moment-history [] = refl
    moment-history (c ∷ cs) = let h : (history blank start cs).moment ≡ length cs = moment-history cs in omega (arith, h)

    -- what is noted of another process stays
    pub notes-other : (c : Call V) (cs : List (Call V)) (p : ℕ) → (p ≡ caller c → ⊥) → (history blank start (c ∷ cs)).notes p ≡ (history blank start cs).notes p
    notes-other c cs p ne = cond-false (eqb p (caller c)) _ _ (ne_eqb p (caller c) ne)
