-- The claim whole: a from what holds of current values, b from the places and from numbers, c from a measure of what is left to do.
use Rattle.store.specs.Calls.{set_up}
use Rattle.store.specs.Model.{State}
use Rattle.history.specs.History.{Permissive, AlwaysPermissive}
use Rattle.history.proofs.Closings.{all_end}
use Rattle.history.proofs.CountCalls.{Fresh, set_up_fresh}
use Rattle.history.proofs.Decisions.{forces_overtaken}
use Rattle.history.proofs.Forced.{forces_updates}
use Rattle.history.proofs.Numbered.{numbers}
use Rattle.history.proofs.Values.{reads_as_rerun, leaves_as_rerun, reads_fit}

module _ {V : Type 0} (blank : V) where
  pub permissive : (start : State V) → Fresh blank start → Permissive blank start
  permissive start started =
      record {
        reads_as_rerun = reads_as_rerun blank start started;
        leaves_as_rerun = leaves_as_rerun blank start started;
        reads_fit = reads_fit blank start started;
        forces_updates = forces_updates blank start started;
        forces_overtaken = forces_overtaken blank start started (numbers blank start started);
        ends = all_end blank start started;
      }

  -- from an accepted set-up on, after every list of calls
  pub always_permissive : AlwaysPermissive blank
  always_permissive s number life accepted = permissive (set_up s number life).after (set_up_fresh blank s number life accepted)
