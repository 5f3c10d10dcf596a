-- A call, and another that differs in its value.
use Rattle.std.specs.Prelude.{◌≡◌}
use Rattle.store.specs.declared.calling.Call.{Call}
use Rattle.store.specs.declared.calling.Call.TheVariants.{Begin, Read, Write, TryCommit, Abort, Step}

-- P of the call's value, where it has one
abbrev pub AtValue : {V : Type 0} → Call V → (V → Type 0) → Type 0
AtValue (Write p i v) P = P v
AtValue (Begin p) P = Unit {0}
AtValue (Read p i) P = Unit {0}
AtValue (TryCommit p) P = Unit {0}
AtValue (Abort p) P = Unit {0}
AtValue (Step p) P = Unit {0}

-- d is c, with a value that R leads to in place of its own
abbrev pub WithValue : {V W : Type 0} → (V → W → Type 0) → Call V → Call W → Type 0
WithValue {W = W} R (Write p i v) d = (w : W) × R v w × (d ≡ Write p i w)
WithValue R (Begin p) d = d ≡ Begin p
WithValue R (Read p i) d = d ≡ Read p i
WithValue R (TryCommit p) d = d ≡ TryCommit p
WithValue R (Abort p) d = d ≡ Abort p
WithValue R (Step p) d = d ≡ Step p
