-- After its accepted try-commit or abort a transaction is neither at rest nor reading, until its process begins anew: so once all that are open have
-- come that far, some list of steps leaves none open.
use Rattle.std.proofs.Common.{◌≡◌, ℕ, ◌+◌, Bool, true, false, ◌||◌, List, [], ◌∷◌, ◌++◌, map, is_some, refl, sym, ap, ◌∙◌, subst, inl, inr}
use Rattle.std.proofs.lemmas.Bool.{both_ways, false≢true, cases_Bool, cond-true}
use Rattle.rows.specs.Places.{count_from}
use Rattle.rows.specs.declared.place.Place.{Place}
use Rattle.rows.specs.declared.place.Place.TheVariants.{Closed, Idle, R1, R2, R3, R4, R5, D1, D2, C, L1, L2, L3, L4, K, W, U, A1, A2, A3}
use Rattle.process.specs.Tells.{Told, value, refused, done}
use Rattle.process.specs.Traits.{traits, fresh}
use Rattle.process.specs.declared.record.Process.{Process}
use Rattle.store.specs.Calls.{called, older, no_process, set_up}
use Rattle.store.specs.Model.{State, process, task_of}
use Rattle.store.specs.Rows.{row}
use Rattle.store.specs.declared.calling.Call.{Call}
use Rattle.store.specs.declared.calling.Call.TheVariants.{Begin, Read, Write, TryCommit, Abort, Step}
use Rattle.history.specs.Endings.{AllCelled, AllEnding, is_ending, stepped_by, Ends}
use Rattle.history.specs.History.{History, history, is_open, is_closing}
use Rattle.history.specs.Invariants.{Here, Own, Counts, Standing}
use Rattle.history.specs.Notes.{Notes, caller, call_noted}
use Rattle.history.proofs.Celling.{celled_call, celled_fresh}
use Rattle.history.proofs.CountCalls.{Fresh, set_up_fresh}
use Rattle.history.proofs.Deeds.{Deeds, Ready, begin_move, start_move, write_move, by_deed, here}
use Rattle.history.proofs.EndAll.{ends_all}
use Rattle.history.proofs.Forced.{chose_step}
use Rattle.history.proofs.Noting.{OfAll, After, stays, moves}
use Rattle.history.proofs.OwnerCalls.{standing_call, standing_fresh}
use Rattle.history.proofs.Standing.{counts, process_at_here}
use Rattle.history.proofs.StatusCalls.{real_rewrite, real_write, real_row}
use Rattle.history.proofs.Tried.{Away, count_away, row_away, tried_step}

module _ {V : Type 0} where
  -- past an accepted try-commit or abort
  abbrev pub closing : Notes V → Bool
  closing n = is_some n.tried || n.chose_abort

  abbrev pub ClosingAway : Notes V → Own V → Type 0
  ClosingAway n o = closing n ≡ true → Away o.process.place

  closing_step : (m p : ℕ) (x : Told V) (n : Notes V) → closing (call_noted m (Step p) x n) ≡ closing n
  closing_step m p x n = ap (λ t. is_some t || (call_noted m (Step p) x n).chose_abort) (tried_step m p x n) ∙ ap (λ b. is_some n.tried || b) (chose_step m p x n)

module _ {V : Type 0} (blank : V) (s : State V) (v : Counts blank s) (m : ℕ) (n : ℕ → Notes V) (f : OfAll ClosingAway s n) where
  rest_open : {A : Type 0} (p : ℕ) → Ready s p → closing (n p) ≡ true → A
  rest_open p r e = absurd (subst Away r.rests (f p r.at e))

  closing_deeds : Deeds blank s (After blank ClosingAway s m n)
  closing_deeds =
      record {
        refuses = λ c k. stays blank ClosingAway s m n f c (refused k) (λ h. f (caller c) h);
        begins = λ p h a b l.
            moves blank ClosingAway s m n f (Begin p) (older blank s) begin_move (λ q. refl) refl (record { sixteen = v.formed.sixteen; few = v.formed.few; long = v.formed.long }) h tt (λ e. absurd (false≢true e));
        finds_write = λ p i y r a b w. stays blank ClosingAway s m n f (Read p i) (value y.value) (λ h. f p h);
        finds_read = λ p i y r a b w g. stays blank ClosingAway s m n f (Read p i) (value y.value) (λ h. f p h);
        reads = λ p i r a b w g l. moves blank ClosingAway s m n f (Read p i) s (start_move (process s.memory p) (R1 i)) (λ q. refl) refl v.formed r.at tt (λ e. rest_open p r e);
        rewrites = λ p i x y r a b w.
            moves blank ClosingAway s m n f (Write p i x) s (write_move (process s.memory p) (task_of blank s.memory p) i x _) (λ q. refl) refl v.formed r.at (real_rewrite blank s v p i y r w) (λ e. rest_open p r e);
        writes = λ p i x r a b w g.
            moves blank ClosingAway s m n f (Write p i x) s (write_move (process s.memory p) (task_of blank s.memory p) i x _) (λ q. refl) refl v.formed r.at (real_write blank s v p i r w g) (λ e. rest_open p r e);
        tries = λ p r.
            moves blank ClosingAway s m n f (TryCommit p) s (start_move (process s.memory p) (count_from (task_of blank s.memory p) 0 false)) (λ q. refl) refl v.formed r.at tt
            (λ e. count_away blank (process s.memory p) (task_of blank s.memory p) 0 false);
        aborts = λ p r.
            moves blank ClosingAway s m n f (Abort p) s (start_move (process s.memory p) (count_from (task_of blank s.memory p) 0 true)) (λ q. refl) refl v.formed r.at tt
            (λ e. count_away blank (process s.memory p) (task_of blank s.memory p) 0 true);
        steps = λ p h u.
            moves blank ClosingAway s m n f (Step p) s (row blank s p) (λ q. refl) refl v.formed h (real_row blank s v p h u)
            (λ e. (row_away blank (process s.memory p) (task_of blank s.memory p) (process s.memory p).place _ _ (f p h (sym (closing_step m p (row blank s p).tells (n p)) ∙ e))).0);
      }

  pub closing_call : (c : Call V) → After blank ClosingAway s m n c (called blank s c)
  closing_call c = by_deed blank s (After blank ClosingAway s m n) closing_deeds c

away_ending : (pl : Place) → Away pl → (traits pl).is_open ≡ true → is_ending pl ≡ true
away_ending Closed a o = absurd (both_ways false refl o)
away_ending Idle a o = absurd a
away_ending (R1 i) a o = absurd a
away_ending (R2 i m) a o = absurd a
away_ending (R3 i) a o = absurd a
away_ending (R4 i l) a o = absurd a
away_ending (R5 i l) a o = absurd a
away_ending (D1 k b) a o = refl
away_ending (D2 k m b) a o = refl
away_ending C a o = refl
away_ending (L1 i) a o = refl
away_ending (L2 i l) a o = refl
away_ending (L3 i l) a o = refl
away_ending (L4 i n) a o = refl
away_ending K a o = refl
away_ending (W k) a o = refl
away_ending (U i) a o = refl
away_ending (A1 i z) a o = refl
away_ending (A2 i n z) a o = refl
away_ending (A3 z) a o = refl

module _ {V : Type 0} (blank : V) (start : State V) (started : Fresh blank start) where
  abbrev then : List (Call V) → History V
  then cs = history blank start cs

  closings : (cs : List (Call V)) → OfAll ClosingAway (then cs).state (then cs).notes
  closings [] p h = λ e. absurd (false≢true e)
  closings (c ∷ cs) p h = closing_call blank (then cs).state (counts blank start started cs) ((then cs).moment + 1) (then cs).notes (closings cs) c p h

  stood : (cs : List (Call V)) → Standing blank (then cs).state × AllCelled (then cs).state
  stood [] = (standing_fresh blank start started, celled_fresh blank start started)
  stood (c ∷ cs) = (standing_call blank (then cs).state c (stood cs).0, celled_call blank (then cs).state c (stood cs).0.counts (stood cs).1)

  -- the state after steps
  after_steps : (ps : List ℕ) (cs : List (Call V)) → (then (map Step ps ++ cs)).state ≡ stepped_by blank (then cs).state ps
  after_steps [] cs = refl
  after_steps (p ∷ ps) cs = ap (λ t. (called blank t (Step p)).after) (after_steps ps cs)

  -- where no transaction is open at the processes of the store, none is
  none_open : (s : State V) → ((p : ℕ) → Here s p → (traits (process s.memory p).place).is_open ≡ false) → (p : ℕ) → is_open s p ≡ false
  none_open s h p = elim (cases_Bool (no_process s.memory p)) [
    | inl y ↦ ap (λ (q : Process). (traits q.place).is_open) (cond-true (no_process s.memory p) fresh (process s.memory p) y)
    | inr n ↦ (let l : Here s p = here blank s p n in ap (λ (q : Process). (traits q.place).is_open) (process_at_here blank s p l) ∙ h p l)
  ]

  pub all_end : (cs : List (Call V)) → ((p : ℕ) → is_open (then cs).state p ≡ true → is_closing (then cs) p ≡ true) → (ps : List ℕ) × ((p : ℕ) → is_open (then (map Step ps ++ cs)).state p ≡ false)
  all_end cs a =
      let e : AllEnding (then cs).state = λ p h o. away_ending (process (then cs).state.memory p).place (closings cs p h (a p (ap (λ (q : Process). (traits q.place).is_open) (process_at_here blank (then cs).state p h) ∙ o))) o in
      let r : Ends blank (then cs).state = ends_all blank (then cs).state (stood cs).0 (stood cs).1 e in
      (r.steps, λ p. ap (λ s. is_open s p) (after_steps r.steps cs) ∙ none_open (stepped_by blank (then cs).state r.steps) r.closed p)

-- part c of the claim, after every accepted set-up
pub ends_claim : {V : Type 0} (blank : V) (s : State V) (number life : ℕ) → (set_up s number life).tells ≡ done → (cs : List (Call V))
    → ((p : ℕ) → is_open (history blank (set_up s number life).after cs).state p ≡ true → is_closing (history blank (set_up s number life).after cs) p ≡ true)
    → (ps : List ℕ) × ((p : ℕ) → is_open (history blank (set_up s number life).after (map Step ps ++ cs)).state p ≡ false)
ends_claim blank s number life accepted cs a = all_end blank (set_up s number life).after (set_up_fresh blank s number life accepted) cs a
