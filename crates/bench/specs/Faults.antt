-- What the player tells of a line: what the store told, or refusal 12 for what is no call line.
use Rattle.std.specs.Prelude.{◌≡◌, ℕ, List, ◌++◌, Ok, Err, Result, codes, decimal}
use Rattle.process.specs.Tells.{Told, refused, answer_told}
use Rattle.store.specs.Tells.{refusal_number}
use Rattle.process.specs.declared.answer.Answer.{Answer}
use Rattle.store.specs.declared.answer.Refusal.{Refusal}
use Rattle.bench.specs.declared.fault.AtLine.{AtLine}
use Rattle.bench.specs.declared.fault.Cause.{Cause}
use Rattle.bench.specs.declared.fault.Cause.TheVariants.{NotACall, Store}
use Rattle.bench.specs.declared.fault.Fault.{Fault}

abbrev pub cause_number : Cause → ℕ
cause_number NotACall = 12
cause_number (Store r) = refusal_number r

abbrev pub fault_text : Fault → List ℕ
fault_text f = codes "refused " ++ decimal (cause_number f.cause)

abbrev pub store_fault : AtLine → Fault
store_fault a = record { line = a.line; cause = Store a.refusal }

abbrev pub on_line : {A : Type 0} → ℕ → Result A Refusal → Result A AtLine
on_line n (Ok x) = Ok x
on_line n (Err r) = Err (record { line = n; refusal = r })

abbrev pub line_told : {V : Type 0} → Result (Answer V) Fault → Told V
line_told (Ok a) = answer_told a
line_told (Err f) = refused (cause_number f.cause)

-- a fault has the line's number
abbrev pub At : {A : Type 0} → ℕ → Result A Fault → Type 0
At n (Ok a) = Unit {0}
At n (Err f) = f.line ≡ n
