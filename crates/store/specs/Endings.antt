-- How the latest transaction of a process ended.
use Rattle.std.specs.Prelude.{ℕ, cond, List, Some, None, Option}
use Rattle.process.specs.Rows.{among}
use Rattle.process.specs.Traits.{traits}
use Rattle.store.specs.declared.answer.Ending.{Ending}
use Rattle.store.specs.declared.answer.Ending.TheVariants as ending
use Rattle.store.specs.declared.stored.Store.{Store}
use Rattle.process.specs.declared.record.Process.{Process}
use Rattle.process.specs.declared.record.Status.{Status}
use Rattle.process.specs.declared.record.Status.TheVariants.{Null, Committed, Aborted}

abbrev pub ending_by : Status → Ending
ending_by Null = ending.Aborted
ending_by Committed = ending.Committed
ending_by Aborted = ending.Aborted

-- none while it is open; aborted if there was none
abbrev pub ending_of : List Process → ℕ → ℕ → Option Ending
ending_of ps number p = cond (traits (among ps number p).place).is_open None (Some (ending_by (among ps number p).status))

-- of a process of the store
abbrev pub ended_in : Store → ℕ → Option Ending
ended_in st p = ending_of st.processes st.number p
