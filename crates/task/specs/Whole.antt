-- What a task's whole transaction leaves: of the state, and to the task.
use Rattle.std.specs.Prelude.{◌≡◌, ℕ, ◌<◌, zero, suc, Bool, true, false, cond, Some, None, Ok, Err, Option, Result}
use Rattle.store.specs.Calls.{begin, write, try_commit, abort, step}
use Rattle.store.specs.Endings.{ended_in}
use Rattle.store.specs.Model.{State, Outcome}
use Rattle.process.specs.Tells.{Told, done, going, waiting, value, committed, aborted, refused}
use Rattle.store.specs.Tells.{refusal_number}
use Rattle.store.specs.declared.stored.Store.{Store}
use Rattle.ticket.specs.declared.ticket.Closing as stage
use Rattle.ticket.specs.declared.ticket.Ticket.{Ticket}
use Rattle.ticket.specs.declared.open.Refused.{Refused}
use Rattle.task.specs.declared.Unfinished.{Unfinished}
use Rattle.task.specs.declared.Unfinished.TheVariants.{NotBegun, Open, Closing}
use Rattle.store.specs.declared.answer.Ending.{Ending}

-- which call of the transaction was refused, if one was that the task cannot go on without, and by which number
pub data Stop : Type 0 where
  at_begin : ℕ → Stop
  at_close : ℕ → Stop
  nowhere : Stop

-- a begin that is refused stops the task there
abbrev pub stop_begin : Option ℕ → Stop → Stop
stop_begin None later = later
stop_begin (Some n) later = at_begin n

-- and so does a try-commit or an abort
abbrev pub stop_close : Option ℕ → Stop
stop_close None = nowhere
stop_close (Some n) = at_close n

-- which hands the ticket back
abbrev pub stop_closed : Result (Ticket stage.Closing) Refused → Stop
stop_closed (Ok t) = nowhere
stop_closed (Err e) = at_close (refusal_number e.refusal)

module _ {V : Type 0} where
  abbrev pub is_refused : Told V → Bool
  is_refused done = false
  is_refused going = false
  is_refused waiting = false
  is_refused (value v) = false
  is_refused committed = false
  is_refused (aborted cause) = false
  is_refused (refused n) = true

  -- the number of the refusal that a call told, if it told one
  abbrev pub refused_by : Told V → Option ℕ
  refused_by done = None
  refused_by going = None
  refused_by waiting = None
  refused_by (value v) = None
  refused_by committed = None
  refused_by (aborted cause) = None
  refused_by (refused n) = Some n

module _ {V : Type 0} (blank : V) where
  -- so many steps of the process
  abbrev pub stepped : ℕ → ℕ → State V → State V
  stepped p zero s = s
  stepped p (suc n) s = (step blank (stepped p n s) p).after

  -- a closing ticket steps on; one that was handed back does not
  abbrev pub stepped_by : Result (Ticket stage.Closing) Refused → ℕ → State V → State V
  stepped_by (Ok t) n s = stepped t.process n s
  stepped_by (Err e) n s = s

  -- after a try-commit or an abort
  abbrev pub after_close : ℕ → ℕ → Outcome V → State V
  after_close p n o = cond (is_refused o.tells) o.after (stepped p n o.after)

  -- after a write: it is committed, or aborted where it was refused
  abbrev pub after_write : ℕ → ℕ → Outcome V → State V
  after_write p n o = cond (is_refused o.tells) (after_close p n (abort blank o.after p)) (after_close p n (try_commit blank o.after p))

  -- where the task stops after a write
  abbrev pub stop_write : ℕ → Outcome V → Stop
  stop_write p o = stop_close (cond (is_refused o.tells) (refused_by (abort blank o.after p).tells) (refused_by (try_commit blank o.after p).tells))

  -- after a begin
  abbrev pub after_begin : ℕ → ℕ → V → ℕ → Outcome V → State V
  after_begin p i v n o = cond (is_refused o.tells) o.after (after_write p n (write blank o.after p i v))

  -- a transaction that writes v to item i, with n steps for its commit
  abbrev pub put : ℕ → ℕ → V → ℕ → State V → State V
  put p i v n s = after_begin p i v n (begin blank s p)

  -- and where it stops
  abbrev pub stop_put : ℕ → ℕ → V → State V → Stop
  stop_put p i v s = stop_begin (refused_by (begin blank s p).tells) (stop_write p (write blank (begin blank s p).after p i v))

-- the refusal that is left to the task
abbrev pub stop_left : Result Ending Unfinished → Stop
stop_left (Ok e) = nowhere
stop_left (Err (NotBegun r)) = at_begin (refusal_number r)
stop_left (Err (Open e)) = at_close (refusal_number e.refusal)
stop_left (Err (Closing t)) = nowhere

-- a ticket that is left is the process's, and not that of no process; and the latest transaction has ended so, or not yet
abbrev pub Leaves : Result Ending Unfinished → ℕ → Store → Type 0
Leaves (Ok e) p st = ended_in st p ≡ Some e
Leaves (Err (NotBegun r)) p st = Unit {0}
Leaves (Err (Open e)) p st = (e.ticket.process ≡ p) × (0 < p)
Leaves (Err (Closing t)) p st = (t.process ≡ p) × (0 < p) × (ended_in st p ≡ None)
