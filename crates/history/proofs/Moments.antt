-- No moment that is noted is still to come: an accepted call notes its own moment at most, and a commit has that of its step or of its try-commit.
use Rattle.std.proofs.Common.{◌≡◌, refl, ℕ, ◌+◌, ◌<◌, ◌≤◌, not, ◌&&◌, eqb, List, [], ◌∷◌, Some, None, Option, unwrap_or, arith}
use Rattle.std.proofs.lemmas.Bool.{cond_both}
use Rattle.process.specs.Tells.{Told}
use Rattle.store.specs.Calls.{called}
use Rattle.store.specs.Model.{State}
use Rattle.store.specs.declared.calling.Call.{Call}
use Rattle.store.specs.declared.calling.Call.TheVariants.{Begin, Read, Write, TryCommit, Abort, Step}
use Rattle.history.specs.Notes.{Notes, is_refused, value_told, caller, read_noted, step_noted, accepted_noted, call_noted}
use Rattle.history.specs.History.{history, is_update, has_committed, next_commit}
use Rattle.history.proofs.Putting.{AllBefore, AllBefore-later, AllBefore-put_in}

module _ {V : Type 0} where
  -- the moment of the try-commit
  abbrev pub tried_at : Notes V → ℕ
  tried_at n = unwrap_or n.tried 0

  read_tried : (i : ℕ) (r : Option V) (n : Notes V) → tried_at (read_noted i r n) ≡ tried_at n
  read_tried i None n = refl
  read_tried i (Some v) n = refl

  step_tried : (m : ℕ) (r : Option V) (n : Notes V) → tried_at (step_noted m r n) ≡ tried_at n
  step_tried m None n = refl
  step_tried m (Some v) n = refl

  accepted_tried : (m : ℕ) (c : Call V) (r : Option V) (n : Notes V) → tried_at n ≤ m → tried_at (accepted_noted m c r n) ≤ m
  accepted_tried m (Begin p) r n h = omega arith
  accepted_tried m (Read p i) r n h = let e = read_tried i r n in omega arith
  accepted_tried m (Write p i v) r n h = h
  accepted_tried m (TryCommit p) r n h = omega arith
  accepted_tried m (Abort p) r n h = h
  accepted_tried m (Step p) r n h = let e = step_tried m r n in omega arith

  call_tried : (m : ℕ) (c : Call V) (t : Told V) (n : Notes V) → tried_at n ≤ m → tried_at (call_noted m c t n) ≤ m
  call_tried m c t n h = cond_both (is_refused t) _ _ (λ (k : Notes V). tried_at k ≤ m) (λ e. h) (λ e. accepted_tried m c (value_told t) n h)

module _ {V : Type 0} (blank : V) (start : State V) where
  pub tried-early : (cs : List (Call V)) (p : ℕ) → tried_at ((history blank start cs).notes p) ≤ (history blank start cs).moment
  tried-early [] p = omega arith
  tried-early (c ∷ cs) p =
      let h : tried_at ((history blank start cs).notes p) ≤ (history blank start cs).moment + 1 = omega (arith, tried-early cs p) in
      cond_both (eqb p (caller c)) _ _ (λ (n : Notes V). tried_at n ≤ (history blank start cs).moment + 1)
      (λ e. call_tried ((history blank start cs).moment + 1) c _ ((history blank start cs).notes p) h)
      (λ e. h)

  pub next_commit-early : (cs : List (Call V)) (p : ℕ) → (next_commit (history blank start cs) p).moment < (history blank start cs).moment + 2
  next_commit-early cs p =
      cond_both (is_update (history blank start cs).state p) _ _ (λ (m : ℕ). m < (history blank start cs).moment + 2)
      (λ e. omega arith)
      (λ e. omega (arith, tried-early cs p))

  pub commits-early : (cs : List (Call V)) → AllBefore ((history blank start cs).moment + 1) (history blank start cs).commits
  commits-early [] = tt
  commits-early (c ∷ cs) =
      let h = history blank start cs in
      let a : AllBefore (h.moment + 1 + 1) h.commits = AllBefore-later (h.moment + 1) (h.moment + 1 + 1) h.commits (omega arith) (commits-early cs) in
      cond_both (not (has_committed h.state (caller c)) && has_committed (called blank h.state c).after (caller c)) _ _ (AllBefore (h.moment + 1 + 1))
      (λ e. AllBefore-put_in (next_commit h (caller c)) (h.moment + 1 + 1) h.commits a (omega (arith, next_commit-early cs (caller c))))
      (λ e. a)
