-- The definitions of the history claim compute: small histories of two processes over two items that hold 10 and 20,
-- with the commits, notes, values and forced aborts that one finds by hand. Each proof is a computation.
use Rattle.std.proofs.Common.{◌≡◌, refl, ℕ, true, false, List, [], ◌∷◌, ◌++◌, reverse, replicate}
use Rattle.std.specs.Prelude.{Some, None, map}
use Rattle.bank.specs.declared.record.Record.{Record}
use Rattle.table.specs.Sets.{blank_entry}
use Rattle.process.specs.Traits.{fresh}
use Rattle.store.specs.Calls.{set_up}
use Rattle.store.specs.Model.{State}
use Rattle.store.specs.declared.calling.Call.{Call}
use Rattle.store.specs.declared.calling.Call.TheVariants.{Begin, Read, Write, TryCommit, Abort, Step}
use Rattle.history.specs.Reruns.{reads, writes, rerun}
use Rattle.history.specs.Notes.{no_notes}
use Rattle.history.specs.History.{Commit, History, history, decides, is_forced, is_overtaken, is_open, is_closing, current, first_value, rerun_value, scripts}

-- an item that was in use before set-up
abbrev item : ℕ → Record ℕ
item n = record { value = n; lock = record { owner = 3; sequence = 9 }; count = 4 }

abbrev start : State ℕ
start =
    (set_up
    (record {
      cells = item 10 ∷ item 20 ∷ [];
      memory = record { processes = replicate 16 fresh; number = 0; life = 0; entries = replicate 32 (blank_entry 0) };
    })
    2 1000
    ).after

-- what calls, the first first, come to
abbrev past : List (Call ℕ) → History ℕ
past cs = history 0 start (reverse cs)

abbrev commits : List (Call ℕ) → List (Commit ℕ)
commits cs = (past cs).commits

-- what two items hold
abbrev both : (ℕ → ℕ) → List ℕ
both f = f 0 ∷ f 1 ∷ []

-- at the end of the rerun, and now
abbrev rerun_values : List (Call ℕ) → List ℕ
rerun_values cs = both (rerun_value 0 start (reverse cs))

abbrev current_values : List (Call ℕ) → List ℕ
current_values cs = both (current 0 (past cs).state)

-- what the reads of the commits give in the rerun
abbrev reads_again : List (Call ℕ) → List (List ℕ)
reads_again cs = rerun (first_value 0 start) (scripts (commits cs))

abbrev steps : ℕ → ℕ → List (Call ℕ)
steps n p = replicate n (Step p)

-- A read-only transaction (1) and a writer (2): 1 has read item 0, and 2 stands at K with a write of it.
abbrev read_then_k : List (Call ℕ)
read_then_k = (Begin 1 ∷ Read 1 0 ∷ []) ++ steps 4 1 ++ (Begin 2 ∷ Write 2 0 7 ∷ TryCommit 2 ∷ []) ++ steps 3 2

pub notes_of_a_read : (past read_then_k).notes 1
    ≡ record { script = reads 0 ∷ []; got = 10 ∷ []; bank_reads = record { item = 0; moment = 6 } ∷ []; reading = 0; tried = None; chose_abort = false }
notes_of_a_read = refl

pub notes_of_a_writer : (past read_then_k).notes 2 ≡ record { script = writes 0 7 ∷ []; got = []; bank_reads = []; reading = 0; tried = Some 9; chose_abort = false }
notes_of_a_writer = refl

pub none_yet : commits read_then_k ≡ []
none_yet = refl

-- 1 tries to commit at moment 13; 2 commits at 16; only then is 1 told that it has committed, and it counts as of 13
abbrev around_k : List (Call ℕ)
around_k = read_then_k ++ (TryCommit 1 ∷ []) ++ steps 2 1 ++ steps 1 2 ++ steps 1 1

pub before_the_later : commits around_k ≡ record { moment = 16; script = writes 0 7 ∷ []; got = [] } ∷ record { moment = 13; script = reads 0 ∷ []; got = 10 ∷ [] } ∷ []
before_the_later = refl

pub reads_as_before : reads_again around_k ≡ [] ∷ (10 ∷ []) ∷ []
reads_as_before = refl

pub leaves_the_write : rerun_values around_k ≡ 7 ∷ 20 ∷ []
leaves_the_write = refl

pub now_the_write : current_values around_k ≡ 7 ∷ 20 ∷ []
now_the_write = refl

-- The same, but 1 has also written item 1: then it is forced to abort, at L2 of item 0, since the commit at 17 came after its read at 6.
abbrev overtaken : List (Call ℕ)
overtaken = read_then_k ++ (Write 1 1 8 ∷ TryCommit 1 ∷ []) ++ steps 2 1 ++ steps 3 2 ++ steps 1 1

pub not_yet : (is_forced (past overtaken) 1 ≡ false) × (is_overtaken (past overtaken) 1 ≡ true)
not_yet = (refl, refl)

pub forced_now : (is_forced (past (overtaken ++ steps 1 1)) 1 ≡ true) × (decides 0 start (Step 1) (reverse overtaken) ≡ true)
forced_now = (refl, refl)

pub only_the_other : commits (overtaken ++ steps 4 1) ≡ record { moment = 17; script = writes 0 7 ∷ []; got = [] } ∷ []
only_the_other = refl

pub forced_leaves_nothing : (rerun_values (overtaken ++ steps 4 1) ≡ 7 ∷ 20 ∷ []) × (current_values (overtaken ++ steps 4 1) ≡ 7 ∷ 20 ∷ [])
forced_leaves_nothing = (refl, refl)

-- 1 has committed a write of 5 at moment 7, and the bank has not got it yet; 2 reads it all the same, and then writes.
abbrev written_ahead : List (Call ℕ)
written_ahead = (Begin 1 ∷ Write 1 0 5 ∷ TryCommit 1 ∷ []) ++ steps 4 1

abbrev reads_ahead : List (Call ℕ)
reads_ahead = written_ahead ++ (Begin 2 ∷ Read 2 0 ∷ []) ++ steps 5 2

pub current_ahead : (current_values written_ahead ≡ 5 ∷ 20 ∷ []) × (map (λ c. c.value) (past written_ahead).state.cells ≡ 10 ∷ 20 ∷ [])
current_ahead = (refl, refl)

pub got_ahead : (past reads_ahead).notes 2
    ≡ record { script = reads 0 ∷ []; got = 5 ∷ []; bank_reads = record { item = 0; moment = 14 } ∷ []; reading = 0; tried = None; chose_abort = false }
got_ahead = refl

-- 1 ends; 2 counts out, locks both items, and stands at K: no commit came after its read, and it commits
abbrev not_overtaken : List (Call ℕ)
not_overtaken = reads_ahead ++ (Write 2 1 9 ∷ []) ++ steps 2 1 ++ (TryCommit 2 ∷ []) ++ steps 8 2

pub commits_at_k : (decides 0 start (Step 2) (reverse not_overtaken) ≡ true) × (is_forced (past (not_overtaken ++ steps 1 2)) 2 ≡ false) × (is_overtaken (past not_overtaken) 2 ≡ false)
commits_at_k = (refl, refl, refl)

pub one_after_the_other : commits (not_overtaken ++ steps 1 2)
    ≡ record { moment = 27; script = writes 1 9 ∷ reads 0 ∷ []; got = 5 ∷ [] } ∷ record { moment = 7; script = writes 0 5 ∷ []; got = [] } ∷ []
one_after_the_other = refl

pub read_in_order : reads_again (not_overtaken ++ steps 1 2) ≡ (5 ∷ []) ∷ [] ∷ []
read_in_order = refl

pub left_in_order : (rerun_values (not_overtaken ++ steps 1 2) ≡ 5 ∷ 9 ∷ []) × (current_values (not_overtaken ++ steps 1 2) ≡ 5 ∷ 9 ∷ [])
left_in_order = (refl, refl)

-- Of calls that are refused nothing is noted; a read of what one wrote oneself takes no steps; an abort that was accepted is not forced.
pub refused_is_not_noted : (past (Step 1 ∷ Read 1 0 ∷ Begin 3 ∷ [])).notes 1 ≡ no_notes
refused_is_not_noted = refl

abbrev own_write : List (Call ℕ)
own_write = Begin 1 ∷ Write 1 0 5 ∷ Read 1 0 ∷ Abort 1 ∷ []

pub own_write_read : (past own_write).notes 1 ≡ record { script = reads 0 ∷ writes 0 5 ∷ []; got = 5 ∷ []; bank_reads = []; reading = 0; tried = None; chose_abort = true }
own_write_read = refl

pub chosen_is_not_forced : (is_forced (past own_write) 1 ≡ false) × (commits (own_write ++ steps 2 1) ≡ []) × (is_open (past (own_write ++ steps 2 1)).state 1 ≡ false)
chosen_is_not_forced = (refl, refl, refl)

-- Both are closing, 2 waits at K for 1 to count out; steps of 1 and then of 2 leave neither open. In the order of the claim the latest step is first.
abbrev both_closing : List (Call ℕ)
both_closing = read_then_k ++ TryCommit 1 ∷ []

abbrev ends : List ℕ
ends = replicate 3 2 ++ replicate 3 1

pub closing_ends : (is_closing (past both_closing) 1 ≡ true) × (is_closing (past both_closing) 2 ≡ true)
    × (is_open (history 0 start (map Step ends ++ reverse both_closing)).state 1 ≡ false) × (is_open (history 0 start (map Step ends ++ reverse both_closing)).state 2 ≡ false)
closing_ends = (refl, refl, refl, refl)
