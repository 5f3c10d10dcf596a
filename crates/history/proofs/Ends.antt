-- A call that ends a read leaves its process at rest.
use Rattle.std.proofs.Common.{◌≡◌, ℕ, ◌+◌, true, false, eqb, ltb, Some, None, Option, is_some, refl, ap, ◌∙◌}
use Rattle.std.proofs.lemmas.Bool.{false≢true, cond_both}
use Rattle.table.specs.Tasks.{Task, next_item}
use Rattle.table.specs.declared.entry.Entry.{Entry}
use Rattle.rows.specs.Primitives.{said}
use Rattle.rows.specs.declared.asking.Reply.{Reply}
use Rattle.rows.specs.declared.place.Place.{Place}
use Rattle.rows.specs.declared.place.Place.TheVariants.{Closed, Idle, R1, R2, R3, R4, R5, D1, D2, C, L1, L2, L3, L4, K, W, U, A1, A2, A3}
use Rattle.process.specs.Rows.{Turn, unlock_to, next_at}
use Rattle.process.specs.declared.record.Process.{Process}
use Rattle.store.specs.Calls.{called}
use Rattle.store.specs.Model.{State, Outcome, process, task_of}
use Rattle.store.specs.Rows.{row}
use Rattle.store.specs.declared.calling.Call.{Call}
use Rattle.history.specs.Invariants.{Own, Counts}
use Rattle.history.specs.Notes.{value_told, caller}
use Rattle.history.proofs.Deeds.{Ready, by_deed}
use Rattle.history.proofs.StatusCalls.{real_row}
use Rattle.history.proofs.Views.{mine_after}

module _ {V : Type 0} (blank : V) (q : Process) (t : Task V) where
  abbrev Good : Turn V → Type 0
  Good x = is_some (value_told x.tells) ≡ true → x.process.place ≡ Idle

  no : {A : Type 0} → false ≡ true → A
  no h = absurd (false≢true h)

  unlock_gives : (x : Option ℕ) → Good (unlock_to q x)
  unlock_gives None = no
  unlock_gives (Some i) = no

  row_gives : (pl : Place) (e : Option (Entry V)) (r : Reply V) → Good (next_at q t blank pl e r)
  row_gives Closed e r = no
  row_gives Idle e r = no
  row_gives (R1 i) e r = no
  row_gives (R2 i m) e r = cond_both (said r) _ _ Good (λ x. no) (λ x. no)
  row_gives (R3 i) e r = no
  row_gives (R4 i l) e r = cond_both (eqb l.owner 0) _ _ Good (λ x h. refl) (λ x. no)
  row_gives (R5 i l) None r = λ h. refl
  row_gives (R5 i l) (Some e) r = λ h. refl
  row_gives (D1 k a) e r = no
  row_gives (D2 k m a) e r = cond_both (said r) _ _ Good (λ x. no) (λ x. no)
  row_gives C e r = no
  row_gives (L1 i) e r = no
  row_gives (L2 i l) e r = no
  row_gives (L3 i l) e r = no
  row_gives (L4 i n) e r = cond_both (said r) _ _ Good (λ x. no) (λ x. no)
  row_gives K e r = cond_both (said r) _ _ Good (λ x. no) (λ x. no)
  row_gives (W k) e r = cond_both (ltb (k + 1) t.sizes.writes) _ _ Good (λ x. no) (λ x. unlock_gives (next_item t 0))
  row_gives (U i) e r = unlock_gives (next_item t (i + 1))
  row_gives (A1 i z) e r = no
  row_gives (A2 i n z) e r = no
  row_gives (A3 z) e r = no

module _ {V : Type 0} (blank : V) (s : State V) (v : Counts blank s) where
  abbrev Rests : Call V → Outcome V → Type 0
  Rests c o = is_some (value_told o.tells) ≡ true → Ready o.after (caller c)

  pub read_rests : (c : Call V) → Rests c (called blank s c)
  read_rests =
      by_deed blank s Rests
      (record {
        refuses = λ c k e. absurd (false≢true e);
        begins = λ p h a b l e. absurd (false≢true e);
        finds_write = λ p i y r a b w e. r;
        finds_read = λ p i y r a b w g e. r;
        reads = λ p i r a b w g l e. absurd (false≢true e);
        rewrites = λ p i x y r a b w e. absurd (false≢true e);
        writes = λ p i x r a b w g e. absurd (false≢true e);
        tries = λ p r e. absurd (false≢true e);
        aborts = λ p r e. absurd (false≢true e);
        steps = λ p h u e.
            record {
              at = record { low = h.low; high = h.high };
              rests =
                  ap (λ (o : Own V). o.process.place) (mine_after blank s p (row blank s p) v.formed h (real_row blank s v p h u))
                  ∙ row_gives blank (process s.memory p) (task_of blank s.memory p) (process s.memory p).place _ _ e;
            };
      })
