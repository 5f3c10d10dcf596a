-- An answer, and another that differs in its value.
use Rattle.std.specs.Prelude.{◌≡◌}
use Rattle.process.specs.declared.answer.Answer.{Answer}
use Rattle.process.specs.declared.answer.Answer.TheVariants.{Done, Going, Waiting, Value, Committed, Aborted}

-- P of the answer's value, where it has one
abbrev pub AtValue : {V : Type 0} → Answer V → (V → Type 0) → Type 0
AtValue (Value v) P = P v
AtValue Done P = Unit {0}
AtValue Going P = Unit {0}
AtValue Waiting P = Unit {0}
AtValue Committed P = Unit {0}
AtValue (Aborted cause) P = Unit {0}

-- b is a, with a value that R leads to in place of its own
abbrev pub WithValue : {V W : Type 0} → (V → W → Type 0) → Answer V → Answer W → Type 0
WithValue {W = W} R (Value v) b = (w : W) × R v w × (b ≡ Value w)
WithValue R Done b = b ≡ Done
WithValue R Going b = b ≡ Going
WithValue R Waiting b = b ≡ Waiting
WithValue R Committed b = b ≡ Committed
WithValue R (Aborted cause) b = b ≡ Aborted cause
