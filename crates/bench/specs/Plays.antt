-- A script played line by line, from a state: what each line tells, and which bytes are printed.
-- Values go in as counts and come out as words, by the kind's packing and unpacking.
use Rattle.std.specs.Prelude.{◌≡◌, ℕ, ◌+◌, List, [], ◌∷◌, ◌++◌, take, replicate, Some, None, Option}
use Rattle.kinds.specs.Settings.{setting_word}
use Rattle.kinds.specs.declared.setting.Setting.TheVariants.{Count}
use Rattle.bank.specs.Limits.{most_processes}
use Rattle.bank.specs.declared.record.Record.{Record}
use Rattle.table.specs.declared.entry.Entry.{Entry}
use Rattle.process.specs.Traits.{fresh}
use Rattle.store.specs.Calls.{called, set_up}
use Rattle.store.specs.Model.{State}
use Rattle.script.specs.Grammar.{call_of, lines_of}
use Rattle.bench.specs.Texts.{line_text}
use Rattle.process.specs.Tells.{Told, done, going, waiting, value, committed, aborted, refused}
use Rattle.store.specs.declared.calling.Call.{Call}
use Rattle.store.specs.declared.calling.Call.TheVariants.{Begin, Read, Write, TryCommit, Abort, Step}

abbrev pub call_with : {A B : Type 0} → (A → B) → Call A → Call B
call_with f (Begin p) = Begin p
call_with f (Read p i) = Read p i
call_with f (Write p i v) = Write p i (f v)
call_with f (TryCommit p) = TryCommit p
call_with f (Abort p) = Abort p
call_with f (Step p) = Step p

abbrev pub told_with : {A B : Type 0} → (A → B) → Told A → Told B
told_with f done = done
told_with f going = going
told_with f waiting = waiting
told_with f (value v) = value (f v)
told_with f committed = committed
told_with f (aborted cause) = aborted cause
told_with f (refused n) = refused n

-- what a line tells, and the state that it leaves
pub record Turn (V : Type 0) : Type 0 where
  pub tells : Told ℕ
  pub after : State V

abbrev pub turn : {V : Type 0} → Told ℕ → State V → Turn V
turn t s = record { tells = t; after = s }

-- a store that was never set up
abbrev pub unused : {V : Type 0} → List (Record V) → List (Entry V) → State V
unused cs es = record { cells = cs; memory = record { processes = replicate most_processes fresh; number = 0; life = 0; entries = es } }

-- the most bytes of a script that are played
abbrev pub most_input : ℕ
most_input = 65536

-- the lines of a script that are played
abbrev pub script_lines : List ℕ → List (List ℕ)
script_lines input = lines_of (take most_input input)

-- how many processes the player sets up
abbrev pub player_processes : ℕ
player_processes = 4

-- how many transactions may be begun
abbrev pub player_life : ℕ
player_life = 1000

module _ {V : Type 0} where
  -- set up for the player
  abbrev pub started : List (Record V) → List (Entry V) → State V
  started cs es = (set_up (unused cs es) player_processes player_life).after

  -- lent records and entries hold what a state says of them
  abbrev pub Holds : State V → List (Record V) → List (Entry V) → Type 0
  Holds s cs es = (cs ≡ s.cells) × (es ≡ s.memory.entries)

module _ {V : Type 0} (blank : V) (pack : V → ℕ) (unpack : ℕ → V) where
  -- a count goes in as the value of the word that it has as a setting
  abbrev pub made : State V → Call ℕ → Turn V
  made s c =
      turn (told_with pack (called blank s (call_with (λ n. unpack (setting_word (Count n))) c)).tells)
      (called blank s (call_with (λ n. unpack (setting_word (Count n))) c)).after

  -- whatever is no call line is refused 12
  abbrev pub line_by : State V → Option (Call ℕ) → Turn V
  line_by s None = turn (refused 12) s
  line_by s (Some c) = made s c

  abbrev pub line_turn : State V → List ℕ → Turn V
  line_turn s line = line_by s (call_of line)

  -- the bytes printed of the lines, the first of which is numbered n
  abbrev pub printed : State V → ℕ → List (List ℕ) → List ℕ
  printed s n [] = []
  printed s n (l ∷ ls) = line_text n (line_turn s l).tells ++ printed (line_turn s l).after (n + 1) ls

  -- the state that the lines leave
  abbrev pub lines_after : State V → List (List ℕ) → State V
  lines_after s [] = s
  lines_after s (l ∷ ls) = lines_after (line_turn s l).after ls

  -- the first of the lines, and no others, lead from s to t
  pub record Reaches (s : State V) (ls : List (List ℕ)) (t : State V) : Type 0 where
    pub first : List (List ℕ)
    pub rest : List (List ℕ)
    pub whole : first ++ rest ≡ ls
    pub after : t ≡ lines_after s first

  -- the bytes that a script prints, from set-up on
  abbrev pub played : List (Record V) → List (Entry V) → List ℕ → List ℕ
  played cs es input = printed (started cs es) 1 (script_lines input)

  -- what the first of a script's lines, and no others, leave in records and entries
  pub record HoldsSome (cs : List (Record V)) (es : List (Entry V)) (input : List ℕ) (cs' : List (Record V)) (es' : List (Entry V)) : Type 0 where
    pub state : State V
    pub reaches : Reaches (started cs es) (script_lines input) state
    pub holds : Holds state cs' es'
