-- The refusals by their numbers, and what a call tells by its result.
use Rattle.std.specs.Prelude.{ℕ, Some, None, Ok, Err, Option, Result}
use Rattle.process.specs.Tells.{Told, done, refused, answer_told}
use Rattle.process.specs.declared.answer.Answer.{Answer}
use Rattle.store.specs.declared.answer.Refusal.{Refusal}
use Rattle.store.specs.declared.answer.Refusal.TheVariants.{ShortTable, NoProcess, AlreadyOpen, NotOpen, UnderWay, NotUnderWay, Remembered, LifeUsed, NoItem, SetFull, OutsideLimits}

abbrev pub refusal_number : Refusal → ℕ
refusal_number ShortTable = 1
refusal_number NoProcess = 2
refusal_number AlreadyOpen = 3
refusal_number NotOpen = 4
refusal_number UnderWay = 5
refusal_number NotUnderWay = 6
refusal_number Remembered = 7
refusal_number LifeUsed = 8
refusal_number NoItem = 9
refusal_number SetFull = 10
refusal_number OutsideLimits = 11

abbrev pub told : {V : Type 0} → Result (Answer V) Refusal → Told V
told (Ok a) = answer_told a
told (Err r) = refused (refusal_number r)

-- the number of the refusal, if there is one
abbrev pub refused_with : {A : Type 0} → Result A Refusal → Option ℕ
refused_with (Ok x) = None
refused_with (Err r) = Some (refusal_number r)

-- set-up has no answer but that it is done
abbrev pub set_up_told : {V : Type 0} → Result (Unit {0}) Refusal → Told V
set_up_told (Ok u) = done
set_up_told (Err r) = refused (refusal_number r)
