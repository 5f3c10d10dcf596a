-- The history claim: what every list of calls comes to, from a state that an accepted set-up left.
-- It is told in transactions: when they committed, what they read and left, and which were forced to abort.
-- Every list has the latest first, so what was before a call is the list's tail. The moment of a call is how many calls were made up to it.
use Rattle.std.specs.Prelude.{◌≡◌, ℕ, ◌+◌, Bool, true, false, cond, not, ◌&&◌, ◌||◌, List, [], ◌∷◌, ◌++◌, map, Some, None, Option, ◌==◌, nat_lt, unwrap_or}
use Rattle.std.specs.List.{list_any}
use Rattle.std.specs.Option.{is_some}
use Rattle.bank.specs.Cells.{cell_at}
use Rattle.table.specs.declared.entry.Entry.{Entry}
use Rattle.rows.specs.declared.place.Place.{Place}
use Rattle.rows.specs.declared.place.Place.TheVariants.{A1, A2, A3}
use Rattle.process.specs.Rows.{among, is_committed}
use Rattle.process.specs.Tells.{done, value}
use Rattle.process.specs.Traits.{traits}
use Rattle.process.specs.declared.record.Process.{Process}
use Rattle.store.specs.Calls.{called, set_up}
use Rattle.store.specs.Model.{State, Outcome}
use Rattle.store.specs.Rows.{owned}
use Rattle.store.specs.declared.calling.Call.{Call}
use Rattle.store.specs.declared.calling.Call.TheVariants.{Step}
use Rattle.history.specs.Notes.{Notes, no_notes, caller, call_noted}
use Rattle.history.specs.Reruns.{Script, writes_item, alone, held_after, rerun}

-- a transaction that has committed
pub record Commit (V : Type 0) : Type 0 where
  pub moment : ℕ
  pub script : Script V
  pub got : List V

-- how many calls were made, the state that they left, the notes of each process, and the commits in order of their moments
pub record History (V : Type 0) : Type 0 where
  pub moment : ℕ
  pub state : State V
  pub notes : ℕ → Notes V
  pub commits : List (Commit V)

-- on the way out of a transaction that does not commit
abbrev pub is_aborting : Place → Bool
is_aborting (A1 i cause) = true
is_aborting (A2 i n cause) = true
is_aborting (A3 cause) = true
is_aborting pl = false

module _ {V : Type 0} where
  -- a commit is put in before the later ones
  abbrev pub put_in : Commit V → List (Commit V) → List (Commit V)
  put_in k [] = k ∷ []
  put_in k (l ∷ ls) = cond (nat_lt l.moment k.moment) (k ∷ l ∷ ls) (l ∷ put_in k ls)

  abbrev pub scripts : List (Commit V) → List (Script V)
  scripts ks = map (λ k. k.script) ks

  abbrev pub value_or : V → Option (Entry V) → V
  value_or v None = v
  value_or v (Some e) = e.value

  module _ (s : State V) (p : ℕ) where
    abbrev pub process_at : Process
    process_at = among s.memory.processes s.memory.number p

    abbrev pub is_open : Bool
    is_open = (traits process_at.place).is_open

    abbrev pub has_committed : Bool
    has_committed = is_committed process_at.status

    -- an update transaction has something in its write set
    abbrev pub is_update : Bool
    is_update = not (process_at.sizes.writes == 0)

  module _ (h : History V) (p : ℕ) where
    -- past an accepted try-commit or abort
    abbrev pub is_closing : Bool
    is_closing = is_some (h.notes p).tried || (h.notes p).chose_abort

    -- aborting, though no abort was accepted
    abbrev pub is_forced : Bool
    is_forced = is_aborting (process_at h.state p).place && not (h.notes p).chose_abort

    -- of an item that the transaction read from the bank, a commit after that read wrote it
    abbrev pub is_overtaken : Bool
    is_overtaken = list_any (λ r. list_any (λ k. nat_lt r.moment k.moment && writes_item k.script r.item) h.commits) (h.notes p).bank_reads

    -- the transaction commits with the next call: an update transaction at that moment, a read-only one as of its try-commit
    abbrev pub next_commit : Commit V
    next_commit =
        record {
          moment = cond (is_update h.state p) (h.moment + 1) (unwrap_or (h.notes p).tried 0);
          script = (h.notes p).script;
          got = (h.notes p).got;
        }

module _ {V : Type 0} (blank : V) where
  -- an item's value: in the write set of its owner, if that has committed and writes it, else in the bank
  abbrev pub current : State V → ℕ → V
  current s i = value_or (cell_at blank s.cells i).value (owned blank s.memory (cell_at blank s.cells i).lock.owner i)

  -- one call more, of which the outcome is given
  abbrev pub grown : History V → Call V → Outcome V → History V
  grown h c o =
      record {
        moment = h.moment + 1;
        state = o.after;
        notes = λ p. cond (p == caller c) (call_noted (h.moment + 1) c o.tells (h.notes p)) (h.notes p);
        commits =
            cond (not (has_committed h.state (caller c)) && has_committed o.after (caller c))
            (put_in (next_commit h (caller c)) h.commits)
            h.commits;
      }

  abbrev pub next : History V → Call V → History V
  next h c = grown h c (called blank h.state c)

  module _ (start : State V) where
    abbrev pub history : List (Call V) → History V
    history [] = record { moment = 0; state = start; notes = λ p. no_notes; commits = [] }
    history (c ∷ cs) = next (history cs) c

    -- the values in the bank at the start
    abbrev pub first_value : ℕ → V
    first_value i = (cell_at blank start.cells i).value

    -- what a rerun of the commits holds at its end
    abbrev pub rerun_value : List (Call V) → ℕ → V
    rerun_value cs = held_after first_value (scripts (history cs).commits)

    -- the latest call committed its process's transaction, or forced it to abort
    abbrev pub commits_now : Call V → List (Call V) → Bool
    commits_now c cs = not (has_committed (history cs).state (caller c)) && has_committed (history (c ∷ cs)).state (caller c)

    abbrev pub forces_now : Call V → List (Call V) → Bool
    forces_now c cs = not (is_forced (history cs) (caller c)) && is_forced (history (c ∷ cs)) (caller c)

    -- and that was the decision of an update transaction
    abbrev pub decides : Call V → List (Call V) → Bool
    decides c cs = is_update (history cs).state (caller c) && (commits_now c cs || forces_now c cs)

    pub record Permissive : Type 0 where
      -- a. The commits, one after the other in order of their moments, would have read what they read, and would have left the current values;
      -- and whenever a read ends, all that its transaction has read so far is what it would have read alone after the commits up to then.
      pub reads_as_rerun : (cs : List (Call V)) → rerun first_value (scripts (history cs).commits) ≡ map (λ k. k.got) (history cs).commits
      pub leaves_as_rerun : (cs : List (Call V)) (i : ℕ) → rerun_value cs i ≡ current (history cs).state i
      pub reads_fit : (c : Call V) (cs : List (Call V)) (v : V) → (called blank (history cs).state c).tells ≡ value v
          → alone (rerun_value (c ∷ cs)) ((history (c ∷ cs)).notes (caller c)).script ≡ ((history (c ∷ cs)).notes (caller c)).got
      -- b. Only an update transaction is ever forced to abort, and it is exactly if, at its decision, it was overtaken.
      pub forces_updates : (cs : List (Call V)) (p : ℕ) → is_forced (history cs) p ≡ true → is_update (history cs).state p ≡ true
      pub forces_overtaken : (c : Call V) (cs : List (Call V)) → decides c cs ≡ true → is_forced (history (c ∷ cs)) (caller c) ≡ is_overtaken (history cs) (caller c)
      -- c. If every open transaction is past try-commit or abort, some list of steps leaves none open.
      pub ends : (cs : List (Call V)) → ((p : ℕ) → is_open (history cs).state p ≡ true → is_closing (history cs) p ≡ true)
          → (ps : List ℕ) × ((p : ℕ) → is_open (history (map Step ps ++ cs)).state p ≡ false)

-- every list of calls, after every accepted set-up
abbrev pub AlwaysPermissive : {V : Type 0} → V → Type 0
AlwaysPermissive {V} blank = (s : State V) (number life : ℕ) → (set_up s number life).tells ≡ done → Permissive blank (set_up s number life).after
