-- What is noted of a process's latest transaction: its calls, and how they ended.
-- Every list has the latest first. The moment of a call is how many calls were made up to it.
use Rattle.std.specs.Prelude.{ℕ, Bool, true, false, cond, List, [], ◌∷◌, Some, None, Option}
use Rattle.process.specs.Tells.{Told, value, refused}
use Rattle.store.specs.declared.calling.Call.{Call}
use Rattle.store.specs.declared.calling.Call.TheVariants.{Begin, Read, Write, TryCommit, Abort, Step}
use Rattle.history.specs.Reruns.{Script, reads, writes}

-- a read that took steps, and the moment at which it ended
pub record BankRead : Type 0 where
  pub item : ℕ
  pub moment : ℕ

pub record Notes (V : Type 0) : Type 0 where
  -- its accepted writes, and its reads that ended
  pub script : Script V
  -- the values with which these reads ended
  pub got : List V
  -- those of these reads that took steps, and the item of the latest that was to take steps
  pub bank_reads : List BankRead
  pub reading : ℕ
  -- the moment of its accepted try-commit, and whether an abort was accepted
  pub tried : Option ℕ
  pub chose_abort : Bool

module _ {V : Type 0} where
  abbrev pub no_notes : Notes V
  no_notes = record { script = []; got = []; bank_reads = []; reading = 0; tried = None; chose_abort = false }

  abbrev pub caller : Call V → ℕ
  caller (Begin p) = p
  caller (Read p i) = p
  caller (Write p i v) = p
  caller (TryCommit p) = p
  caller (Abort p) = p
  caller (Step p) = p

  abbrev pub is_refused : Told V → Bool
  is_refused (refused n) = true
  is_refused t = false

  -- the value with which a call ended a read
  abbrev pub value_told : Told V → Option V
  value_told (value v) = Some v
  value_told t = None

  -- a read was answered at once, or is to take steps
  abbrev pub read_noted : ℕ → Option V → Notes V → Notes V
  read_noted i (Some v) n = record n { script = reads i ∷ n.script; got = v ∷ n.got }
  read_noted i None n = record n { reading = i }

  -- a step ended the read, or did not
  abbrev pub step_noted : ℕ → Option V → Notes V → Notes V
  step_noted m (Some v) n =
      record n {
        script = reads n.reading ∷ n.script;
        got = v ∷ n.got;
        bank_reads = record { item = n.reading; moment = m } ∷ n.bank_reads;
      }
  step_noted m None n = n

  -- an accepted call was made at a moment
  abbrev pub accepted_noted : ℕ → Call V → Option V → Notes V → Notes V
  accepted_noted m (Begin p) r n = no_notes
  accepted_noted m (Read p i) r n = read_noted i r n
  accepted_noted m (Write p i v) r n = record n { script = writes i v ∷ n.script }
  accepted_noted m (TryCommit p) r n = record n { tried = Some m }
  accepted_noted m (Abort p) r n = record n { chose_abort = true }
  accepted_noted m (Step p) r n = step_noted m r n

  -- a call was told something; of a refused one nothing is noted
  abbrev pub call_noted : ℕ → Call V → Told V → Notes V → Notes V
  call_noted m c t n = cond (is_refused t) n (accepted_noted m c (value_told t) n)
