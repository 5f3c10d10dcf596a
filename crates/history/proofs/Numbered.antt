-- What has to be known of numbers for part b, for every history: at rest and at K a process has read the numbers of now, and a call that
-- forces an update transaction to abort finds an outdated entry.
use Rattle.std.proofs.Common.{◌≡◌, ℕ, ◌+◌, true, not, ◌&&◌, eqb, List, [], ◌∷◌, refl, sym, ap, ◌∙◌, arith}
use Rattle.std.specs.List.{list_any}
use Rattle.std.proofs.lemmas.Bool.{and_parts, not-true, cond-true, eq-eqb, ne_eqb}
use Rattle.std.proofs.lemmas.List.Folds.{list_any_at}
use Rattle.table.specs.Sets.{blank_entry}
use Rattle.table.specs.declared.entry.Entry.{Entry}
use Rattle.store.specs.Calls.{called}
use Rattle.store.specs.Model.{State}
use Rattle.store.specs.declared.calling.Call.{Call}
use Rattle.history.specs.Ages.{Ages}
use Rattle.history.specs.History.{History, history, process_at, is_aborting, forces_now}
use Rattle.history.specs.Invariants.{own, reads_in}
use Rattle.history.specs.Notes.{Notes, caller, call_noted}
use Rattle.history.proofs.AgeCalls.{ages_call, ages_start}
use Rattle.history.proofs.CountCalls.{Fresh}
use Rattle.history.proofs.Dates.{written, outdated}
use Rattle.history.proofs.Decisions.{latest, Numbers}
use Rattle.history.proofs.Finding.{find_index}
use Rattle.history.proofs.Forced.{fine}
use Rattle.history.proofs.Forcing.{Old, call_forces}
use Rattle.history.proofs.Keeping.{stands}
use Rattle.history.proofs.Matching.{list_any-reverse, at_rest, at_k}
use Rattle.history.proofs.Stamps.{stamp, freshes}
use Rattle.history.proofs.Standing.{counts}

module _ {V : Type 0} (blank : V) (start : State V) (started : Fresh blank start) where
  abbrev past : List (Call V) → History V
  past cs = history blank start cs

  pub ages : (cs : List (Call V)) → Ages blank (past cs).state
  ages [] = ages_start blank start started.none
  ages (c ∷ cs) = ages_call blank (past cs).state (stands blank start started cs).0 (stands blank start started cs).1 (ages cs) c (freshes blank start started (c ∷ cs))

  -- an entry that is older than its item is outdated
  old_outdated : (cs : List (Call V)) (p : ℕ) → Old blank (past cs).state p → list_any (outdated (past cs).commits) (latest (own (past cs).state p)) ≡ true
  old_outdated cs p o =
      let es : List (Entry V) = reads_in (own (past cs).state p) in
      let w = find_index o.0 es o.1 (blank_entry blank) o.2 in
      let a : written (past cs).commits o.1.item ≡ written (past cs).commits o.0 = ap (written (past cs).commits) w.3 in
      let b = stamp blank start started cs o.0 in
      let l = o.3 in
      let d : outdated (past cs).commits o.1 ≡ true = ap not (ne_eqb o.1.sequence (written (past cs).commits o.1.item) (λ e. omega (arith, e, a, b, l))) in
      list_any-reverse (outdated (past cs).commits) es
      ∙ list_any_at (outdated (past cs).commits) es w.0 (blank_entry blank) w.1 (ap (outdated (past cs).commits) w.2 ∙ d)

  forcing : (c : Call V) (cs : List (Call V)) → forces_now blank start c cs ≡ true → list_any (outdated (past cs).commits) (latest (own (past cs).state (caller c))) ≡ true
  forcing c cs e =
      let n : (past (c ∷ cs)).notes (caller c) ≡ call_noted ((past cs).moment + 1) c (called blank (past cs).state c).tells ((past cs).notes (caller c)) = cond-true (eqb (caller c) (caller c)) _ _ (eq-eqb (caller c) (caller c) refl) in
      old_outdated cs (caller c)
      (call_forces blank (past cs).state (counts blank start started cs) (ages cs) ((past cs).moment + 1) (past cs).notes (fine blank start started cs) c
      (not-true _ (and_parts _ _ e).0)
      (ap (λ (k : Notes V). is_aborting (process_at (past (c ∷ cs)).state (caller c)).place && not k.chose_abort) (sym n) ∙ (and_parts _ _ e).1))

  pub numbers : Numbers blank start
  numbers =
      record {
        at_rest = at_rest blank start started;
        at_k = at_k blank start started;
        forcing = λ c cs u e. forcing c cs e;
      }
