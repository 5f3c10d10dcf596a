-- The claim of the empty list of calls: after an accepted set-up nothing has happened yet.
-- No process is in a transaction and nobody owns an item, so nothing is committed, nobody is forced, and each item's value is the bank's.
use Rattle.std.proofs.Common.{◌≡◌, refl, sym, ap, ◌∙◌, ℕ, ◌==◌, nat_lt, true, false, not, ◌&&◌, ◌||◌, [], Some, None, Option, is_some}
use Rattle.std.proofs.lemmas.Bool.{true≢false, false≢true, cond_both}
use Rattle.bank.specs.Cells.{cell_at}
use Rattle.process.specs.Tells.{Told, done, value}
use Rattle.process.specs.Traits.{traits, fresh}
use Rattle.process.specs.declared.record.Process.{Process}
use Rattle.store.specs.Calls.{called, begin_grounds, first_ground, unless}
use Rattle.store.specs.Model.{State, Outcome}
use Rattle.store.specs.Rows.{owned}
use Rattle.store.specs.declared.calling.Call.{Call}
use Rattle.store.specs.declared.calling.Call.TheVariants.{Begin, Read, Write, TryCommit, Abort, Step}
use Rattle.history.proofs.CountCalls.{Fresh}
use Rattle.history.proofs.Closed.{begins, called-closed}
use Rattle.history.specs.Notes.{is_refused, value_told, caller}
use Rattle.history.specs.History.{history, process_at, is_open, is_update, is_forced, is_aborting, commits_now, forces_now, decides, current, rerun_value, value_or}

module _ {V : Type 0} (blank : V) (start : State V) (started : Fresh blank start) where
  -- no process is found in a transaction
  process_at-started : (p : ℕ) → process_at start p ≡ fresh
  process_at-started p = cond_both (p == 0 || nat_lt start.memory.number p) _ _ (λ (q : Process). q ≡ fresh) (λ e. refl) (λ e. started.none p)

  nobody_owns : (i : ℕ) → owned blank start.memory 0 i ≡ None
  nobody_owns i = refl

  pub leaves-start : (i : ℕ) → rerun_value blank start [] i ≡ current blank start i
  leaves-start i = ap (λ (o : ℕ). value_or (cell_at blank start.cells i).value (owned blank start.memory o i)) (sym (started.owners i))

  pub forces_updates-start : (p : ℕ) → is_forced (history blank start []) p ≡ true → is_update (history blank start []).state p ≡ true
  forces_updates-start p e = absurd (false≢true (ap (λ (q : Process). is_aborting q.place && true) (sym (process_at-started p)) ∙ e))

  pub forces_overtaken-start : (c : Call V) → decides blank start c [] ≡ false
  forces_overtaken-start c = ap (λ (q : Process). not (q.sizes.writes == 0) && (commits_now blank start c [] || forces_now blank start c [])) (process_at-started (caller c))

  pub ends-start : (p : ℕ) → is_open (history blank start []).state p ≡ false
  ends-start p = ap (λ (q : Process). (traits q.place).is_open) (process_at-started p)

  begin_gives : (r : Option ℕ) (o : Outcome V) (v : V) → o.tells ≡ done → (unless r start o).tells ≡ value v → ⊥
  begin_gives None o v d e = false≢true (ap (λ (t : Told V). is_some (value_told t)) (sym d ∙ e))
  begin_gives (Some n) o v d e = true≢false (ap is_refused e)

  closed_gives : (c : Call V) (v : V) → begins c ≡ false → (called blank start c).tells ≡ value v → ⊥
  closed_gives c v b e = true≢false (sym (called-closed blank start c b (ap (λ (q : Process). (traits q.place).is_open) (started.none (caller c)))) ∙ ap is_refused e)

  -- no call ends a read
  pub reads_fit-start : (c : Call V) (v : V) → (called blank start c).tells ≡ value v → ⊥
  reads_fit-start (Begin p) v = begin_gives (first_ground (begin_grounds start.memory p)) _ v refl
  reads_fit-start (Read p i) v = closed_gives (Read p i) v refl
  reads_fit-start (Write p i x) v = closed_gives (Write p i x) v refl
  reads_fit-start (TryCommit p) v = closed_gives (TryCommit p) v refl
  reads_fit-start (Abort p) v = closed_gives (Abort p) v refl
  reads_fit-start (Step p) v = closed_gives (Step p) v refl
