-- What the calls of tickets tell, in the words of the store, and whose tickets they hand out.
use Rattle.std.specs.Prelude.{◌≡◌, ℕ, ◌<◌, Some, None, Ok, Err, Option, Result}
use Rattle.process.specs.Tells.{Told, going, refused}
use Rattle.store.specs.Tells.{refusal_number}
use Rattle.store.specs.declared.answer.Ending.{Ending}
use Rattle.store.specs.declared.answer.Refusal.{Refusal}
use Rattle.ticket.specs.declared.open.Refused.{Refused}
use Rattle.ticket.specs.declared.ticket.Closing.{Closing}
use Rattle.ticket.specs.declared.ticket.Open.{Open}
use Rattle.ticket.specs.declared.ticket.Ticket.{Ticket}

module _ {V : Type 0} where
  -- a call that tells t if it is accepted
  abbrev pub told_as : {A : Type 0} → Told V → Result A Refusal → Told V
  told_as t (Ok x) = t
  told_as t (Err r) = refused (refusal_number r)

  -- a ticket is closing where the try-commit or the abort is under way
  abbrev pub closing_told : Result (Ticket Closing) Refused → Told V
  closing_told (Ok t) = going
  closing_told (Err e) = refused (refusal_number e.refusal)

-- the ticket, if there is one, is the process's, and not that of no process
abbrev pub Begun : Result (Ticket Open) Refusal → ℕ → Type 0
Begun (Ok t) p = (t.process ≡ p) × (0 < p)
Begun (Err r) p = Unit {0}

-- whose the ticket is, the closing one or the open one that was handed back
abbrev pub holder_of : Result (Ticket Closing) Refused → ℕ
holder_of (Ok t) = t.process
holder_of (Err e) = e.ticket.process

-- how the transaction ended, if it did
abbrev pub ended : Result Ending (Ticket Closing) → Option Ending
ended (Ok e) = Some e
ended (Err t) = None

-- the ticket, if it is handed back, is the process's
abbrev pub Back : Result Ending (Ticket Closing) → ℕ → Type 0
Back (Ok e) p = Unit {0}
Back (Err t) p = t.process ≡ p
