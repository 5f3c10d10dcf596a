-- A list of calls performed after set-up: what each told, the first call first, and the state that they left; or the set-up's refusal.
use Rattle.std.specs.Prelude.{◌≡◌, List, [], ◌∷◌, map, Ok, Err, Result, ℕ}
use Rattle.process.specs.Tells.{Told, done, refused}
use Rattle.process.specs.declared.answer.Answer.{Answer}
use Rattle.store.specs.Calls.{called, set_up}
use Rattle.store.specs.Model.{State}
use Rattle.store.specs.Tells.{refusal_number, told}
use Rattle.store.specs.declared.answer.Refusal.{Refusal}
use Rattle.store.specs.declared.calling.Call.{Call}
use Rattle.history.specs.Invariants.{left_by}

module _ {V : Type 0} (blank : V) where
  -- what each of the calls tells
  abbrev pub tells_of : State V → List (Call V) → List (Told V)
  tells_of s [] = []
  tells_of s (c ∷ cs) = (called blank s c).tells ∷ tells_of (called blank s c).after cs

  -- with the answers, and the state at the end
  abbrev pub Performed : State V → ℕ → ℕ → List (Call V) → Result (List (Result (Answer V) Refusal)) Refusal → State V → Type 0
  Performed s number life cs (Ok answers) t =
      ((set_up s number life).tells ≡ done) × (map told answers ≡ tells_of (set_up s number life).after cs) × (t ≡ left_by blank (set_up s number life).after cs)
  Performed s number life cs (Err refusal) t = ((set_up s number life).tells ≡ refused (refusal_number refusal)) × (t ≡ s)
