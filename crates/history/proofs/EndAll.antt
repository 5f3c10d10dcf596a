-- From any state that calls leave, in which every open transaction is past try-commit or abort, some list of steps ends them all: one that can advance is
-- stepped alone to its next advance, and with each advance less is left to do.
use Rattle.std.proofs.Common.{◌≡◌, ℕ, zero, suc, ◌<◌, ◌≤◌, true, false, eqb, List, [], ◌∷◌, ◌++◌, sym, refl, ap, subst, inl, inr, arith}
use Rattle.std.proofs.lemmas.Bool.{cond_both}
use Rattle.bank.specs.Cells.{cell_at}
use Rattle.rows.specs.declared.place.Place.{Place}
use Rattle.rows.specs.declared.place.Place.TheVariants.{Closed, Idle, R1, R2, R3, R4, R5, D1, D2, C, L1, L2, L3, L4, K, W, U, A1, A2, A3}
use Rattle.process.specs.Tells.{done}
use Rattle.process.specs.Traits.{traits}
use Rattle.store.specs.Calls.{called, set_up}
use Rattle.store.specs.Model.{State, process}
use Rattle.store.specs.declared.calling.Call.{Call}
use Rattle.store.specs.declared.calling.Call.TheVariants as call
use Rattle.history.specs.Invariants.{Here, own, Standing, left_by}
use Rattle.history.specs.Endings.{AllCelled, AllEnding, need, is_ending, left, weight, todo, stepped_by, Ends}
use Rattle.history.proofs.Sums.{total_part}
use Rattle.history.proofs.CountCalls.{through, Fresh, set_up_fresh}
use Rattle.history.proofs.OwnerCalls.{standing_call, standing_fresh}
use Rattle.history.proofs.Celling.{celled_call, celled_fresh}
use Rattle.history.proofs.Measure.{positive}
use Rattle.history.proofs.Highest.{highest}
use Rattle.history.proofs.Advancing.{Can, patience, item_at}
use Rattle.history.proofs.AllEnding.{Closing, patience_of, Stepped, step_any}
use Rattle.history.proofs.Able.{Able, able}

module _ {V : Type 0} (blank : V) where
  stepped_before : (s : State V) (p : ℕ) (ps : List ℕ) → stepped_by blank s (ps ++ p ∷ []) ≡ stepped_by blank (called blank s (call.Step p)).after ps
  stepped_before s p [] = refl
  stepped_before s p (q ∷ ps) = ap (λ t. (called blank t (call.Step q)).after) (stepped_before s p ps)

  -- with one step before
  after_one : (s : State V) (p : ℕ) → Ends blank (called blank s (call.Step p)).after → Ends blank s
  after_one s p e = record { steps = e.steps ++ p ∷ []; closed = subst (λ t. (q : ℕ) → Here t q → (traits (process t.memory q).place).is_open ≡ false) (sym (stepped_before s p e.steps)) e.closed }

  -- p ends and can advance
  record Free (s : State V) (p : ℕ) : Type 0 where
    pub here : Here s p
    pub ends : is_ending (process s.memory p).place ≡ true
    pub can : Can blank s.cells (need (process s.memory p).place)

  -- one that can advance, stepped alone to its next advance
  alone : (n : ℕ) (s : State V) (p : ℕ) → Closing blank s → Free s p → patience_of blank s p < n → ((t : State V) → Closing blank t → todo t < todo s → Ends blank t) → Ends blank s
  alone zero s p c f l k = absurd (omega arith)
  alone (suc n) s p c f l k =
      let w : Stepped blank s p (called blank s (call.Step p)).after = step_any blank s c p f.here f.ends in
      after_one s p (elim w.way [
        | inl less ↦ k (called blank s (call.Step p)).after w.after less
        | inr x ↦ alone n (called blank s (call.Step p)).after p w.after (record { here = record { low = f.here.low; high = (let a = f.here.high in let b = w.number in omega arith) }; ends = x.ends; can = rw (x.cells_same, x.like) f.can }) (let y = x.sooner f.can in omega arith) (λ t ct lt. k t ct (let y = x.todo_same in omega arith))
      ])

  patient : (s : State V) (p : ℕ) (pl : Place) → patience blank s.cells (item_at blank s p) pl < 6
  patient s p Closed = omega arith
  patient s p Idle = omega arith
  patient s p (R1 i) = omega arith
  patient s p (R2 i m) = omega arith
  patient s p (R3 i) = omega arith
  patient s p (R4 i l) = omega arith
  patient s p (R5 i l) = omega arith
  patient s p (D1 k a) = omega arith
  patient s p (D2 k m a) = cond_both (eqb (cell_at blank s.cells (item_at blank s p k)).count m) 0 2 (λ x. x < 6) (λ _. omega arith) (λ _. omega arith)
  patient s p C = omega arith
  patient s p (L1 i) = omega arith
  patient s p (L2 i l) = cond_both (eqb l.owner 0) _ 5 (λ x. x < 6) (λ _. cond_both (eqb (cell_at blank s.cells i).lock.sequence l.sequence) 1 5 (λ x. x < 6) (λ _. omega arith) (λ _. omega arith)) (λ _. omega arith)
  patient s p (L3 i l) = omega arith
  patient s p (L4 i n) = cond_both (eqb (cell_at blank s.cells i).lock.sequence n) 0 3 (λ x. x < 6) (λ _. omega arith) (λ _. omega arith)
  patient s p K = omega arith
  patient s p (W k) = omega arith
  patient s p (U i) = omega arith
  patient s p (A1 i z) = omega arith
  patient s p (A2 i n z) = omega arith
  patient s p (A3 z) = omega arith

  -- where one ends, something is left to do
  some_left : (s : State V) (p : ℕ) → Here s p → is_ending (process s.memory p).place ≡ true → 0 < todo s
  some_left s p h e = let a = total_part (λ q. weight (own s q)) s.memory.number p h.low h.high in let b = positive (left (own s p)) (process s.memory p).place e in omega arith

  ends_in : (n : ℕ) (s : State V) → Closing blank s → todo s ≤ n → Ends blank s
  ends_in zero s c l = elim (highest (λ q. (traits (process s.memory q).place).is_open) (λ _. 0) s.memory.number) [
    | inl w ↦ (let h : Here s w.who = record { low = w.low; high = w.high } in absurd (let k = some_left s w.who h (c.ending w.who h w.yes) in omega arith))
    | inr z ↦ record { steps = []; closed = λ p h. z p h.low h.high }
  ]
  ends_in (suc n) s c l = elim (highest (λ q. (traits (process s.memory q).place).is_open) (λ _. 0) s.memory.number) [
    | inl w ↦ (let h : Here s w.who = record { low = w.low; high = w.high } in
        let a : Able blank s = able blank s c w.who h (c.ending w.who h w.yes) in
        alone 6 s a.who c (record { here = a.here; ends = a.ends; can = a.can }) (patient s a.who (process s.memory a.who).place) (λ t ct lt. ends_in n t ct (omega arith)))
    | inr z ↦ record { steps = []; closed = λ p h. z p h.low h.high }
  ]

  -- every open transaction is past an accepted try-commit or abort: all can end
  pub ends_all : (s : State V) → Standing blank s → AllCelled s → AllEnding s → Ends blank s
  ends_all s v c e = ends_in (todo s) s (record { standing = v; celled = c; ending = e }) (omega arith)

module _ {V : Type 0} (blank : V) (s : State V) (number life : ℕ) (accepted : (set_up s number life).tells ≡ done) (cs : List (Call V)) where
  -- after an accepted set-up and every list of calls every item of a data set is one of the bank's
  pub always_celled : Standing blank (left_by blank (set_up s number life).after cs) × AllCelled (left_by blank (set_up s number life).after cs)
  always_celled =
      let f : Fresh blank (set_up s number life).after = set_up_fresh blank s number life accepted in
      through blank (λ t. Standing blank t × AllCelled t) (λ t c h. (standing_call blank t c h.0, celled_call blank t c h.0.counts h.1)) (set_up s number life).after cs
      (standing_fresh blank (set_up s number life).after f, celled_fresh blank (set_up s number life).after f)

  -- and if all that is open then is past an accepted try-commit or abort, all can end
  pub always_ends : AllEnding (left_by blank (set_up s number life).after cs) → Ends blank (left_by blank (set_up s number life).after cs)
  always_ends e = ends_all blank _ always_celled.0 always_celled.1 e
