-- Part a of the claim, for every list of calls: the commits in order of their moments would have read what they read and would have left the current
-- values, and a read that ends fits them.
use Rattle.std.proofs.Common.{◌≡◌, ℕ, List, ◌∷◌, map}
use Rattle.process.specs.Tells.{value}
use Rattle.store.specs.Calls.{called}
use Rattle.store.specs.Model.{State}
use Rattle.store.specs.declared.calling.Call.{Call}
use Rattle.history.specs.History.{history, scripts, current, first_value, rerun_value}
use Rattle.history.specs.Notes.{caller}
use Rattle.history.specs.Reruns.{alone, rerun}
use Rattle.history.proofs.CountCalls.{Fresh}
use Rattle.history.proofs.Holding.{at_rest, at_k}
use Rattle.history.proofs.Keeping.{kept, kept_by_read_only}
use Rattle.history.proofs.Replacing.{replaced}
use Rattle.history.proofs.Serial as serial
use Rattle.history.proofs.Serial.{Current}

module _ {V : Type 0} (blank : V) (start : State V) (started : Fresh blank start) where
  -- what has to be known of current values
  pub values_hold : Current blank start
  values_hold =
      record {
        kept = kept blank start started;
        kept_by_read_only = kept_by_read_only blank start started;
        replaced = replaced blank start started;
        at_rest = at_rest blank start started;
        at_k = at_k blank start started;
      }

  pub reads_as_rerun : (cs : List (Call V)) → rerun (first_value blank start) (scripts (history blank start cs).commits) ≡ map (λ k. k.got) (history blank start cs).commits
  reads_as_rerun = serial.reads_as_rerun blank start started values_hold

  pub leaves_as_rerun : (cs : List (Call V)) (i : ℕ) → rerun_value blank start cs i ≡ current blank (history blank start cs).state i
  leaves_as_rerun = serial.leaves_as_rerun blank start started values_hold

  pub reads_fit : (c : Call V) (cs : List (Call V)) (v : V) → (called blank (history blank start cs).state c).tells ≡ value v
      → alone (rerun_value blank start (c ∷ cs)) ((history blank start (c ∷ cs)).notes (caller c)).script ≡ ((history blank start (c ∷ cs)).notes (caller c)).got
  reads_fit = serial.reads_fit blank start started values_hold
