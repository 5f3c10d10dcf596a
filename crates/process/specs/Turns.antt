-- What the code that runs a row leaves: of the process and the table, and of the bank too.
use Rattle.std.specs.Prelude.{ℕ, cond, List, Some, None, Option}
use Rattle.bank.specs.declared.record.Record.{Record}
use Rattle.table.specs.declared.entry.Entry.{Entry}
use Rattle.rows.specs.Primitives.{touched}
use Rattle.process.specs.Moves.{Move, keep, noted}
use Rattle.process.specs.Rows.{Turn}
use Rattle.process.specs.Tells.{Told, answer_told}
use Rattle.process.specs.Traits.{full}
use Rattle.process.specs.declared.answer.Answer.{Answer}
use Rattle.process.specs.declared.record.Process.{Process}

pub record Turned (V : Type 0) : Type 0 where
  pub tells : Told V
  pub process : Process
  pub entries : List (Entry V)

-- with the bank
pub record Ran (V : Type 0) : Type 0 where
  pub tells : Told V
  pub cells : List (Record V)
  pub process : Process
  pub entries : List (Entry V)

-- and where there was no room, nothing told
pub record Stepped (V : Type 0) : Type 0 where
  pub tells : Option (Told V)
  pub cells : List (Record V)
  pub process : Process
  pub entries : List (Entry V)

module _ {V : Type 0} where
  -- that leaves the table alone
  abbrev pub turn_by : Answer V → Process → Turn V
  turn_by a q = record { tells = answer_told a; process = q; note = keep }

  abbrev pub done_by : Answer V → Process → List (Entry V) → Turned V
  done_by a q es = record { tells = answer_told a; process = q; entries = es }

  abbrev pub turned : List (Entry V) → ℕ → Turn V → Turned V
  turned es p u = record { tells = u.tells; process = u.process; entries = noted es p u.note }

  abbrev pub ran_by : Answer V → List (Record V) → Process → List (Entry V) → Ran V
  ran_by a cs q es = record { tells = answer_told a; cells = cs; process = q; entries = es }

  abbrev pub ran : V → List (Record V) → List (Entry V) → ℕ → Move V → Ran V
  ran blank cs es p m = record { tells = m.tells; cells = touched blank cs m.touch; process = m.process; entries = noted es p m.note }

  abbrev pub option_told : Option (Answer V) → Option (Told V)
  option_told None = None
  option_told (Some a) = Some (answer_told a)

  abbrev pub stepped_by : Option (Answer V) → List (Record V) → Process → List (Entry V) → Stepped V
  stepped_by a cs q es = record { tells = option_told a; cells = cs; process = q; entries = es }

  -- a move seen from the process; where a read finds no room for its entry, nothing is done
  abbrev pub stepped : V → List (Record V) → Process → List (Entry V) → ℕ → Move V → Stepped V
  stepped blank cs q es p m =
      cond (full q) (record { tells = None; cells = cs; process = q; entries = es })
      (record { tells = Some m.tells; cells = touched blank cs m.touch; process = m.process; entries = noted es p m.note })
