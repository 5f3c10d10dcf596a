-- What a call tells: an answer with its values, or a refusal by its number.
use Rattle.std.specs.Prelude.{ℕ, Option}
use Rattle.process.specs.declared.answer.Answer.{Answer}
use Rattle.process.specs.declared.answer.Answer.TheVariants as answer

pub data Told (V : Type 0) : Type 0 where
  done : Told V
  going : Told V
  waiting : Told V
  value : V → Told V
  committed : Told V
  aborted : Option ℕ → Told V
  refused : ℕ → Told V

abbrev pub answer_told : {V : Type 0} → Answer V → Told V
answer_told answer.Done = done
answer_told answer.Going = going
answer_told answer.Waiting = waiting
answer_told (answer.Value v) = value v
answer_told answer.Committed = committed
answer_told (answer.Aborted cause) = aborted cause
