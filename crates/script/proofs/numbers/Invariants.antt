use Rattle.std.proofs.Common.{◌≡◌, ◌-◌, length, take}
use Rattle.script.specs.Walk.{behind, exactly}
use Rattle.script.proofs.Taken.{after}
use Rattle.script.proofs.numbers.Given as goal

-- the numbers so far, and those that are left, make up the whole
abbrev pub invariant-loop-slot : goal.invariant-loop-slot
invariant-loop-slot g l =
    (length l.slot-items ≡ g.row.N) × (exactly g.row.N (behind l.initial.left) ≡ after (take l.slot-index l.slot-items) (exactly (g.row.N - l.slot-index) (behind l.left)))
