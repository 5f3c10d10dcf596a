-- Examples worked through on the definitions: words, and histories of two processes over two items that hold 10 and 20.
-- Behind the words stand the rules of a setting's word in the large.
use Rattle.std.specs.Prelude.{◌≡◌, ℕ, ◌-◌, ◌<◌, true, false, List, [], ◌∷◌, ◌++◌, length, drop, replicate, negsuc, Some, Float}
use Rattle.std.specs.Float.{nan, fin, binary32}
use Rattle.std.specs.Float.Ieee.{nan_bits}
use Rattle.kinds.specs.Fields.{field}
use Rattle.kinds.specs.Knots.{knot_word}
use Rattle.kinds.specs.Settings.{setting_word, setting_of, IsHeldSetting}
use Rattle.kinds.specs.declared.setting.Setting.{Setting}
use Rattle.kinds.specs.declared.setting.Setting.TheVariants.{Off, Speed, Tension, Count}
use Rattle.bank.specs.declared.record.Record.{Record}
use Rattle.store.specs.Calls.{called, set_up}
use Rattle.store.specs.Model.{State}
use Rattle.process.specs.Tells.{Told, going, waiting, value, committed, aborted}
use Rattle.process.specs.Traits.{fresh}
use Rattle.store.specs.declared.calling.Call.{Call}
use Rattle.store.specs.declared.calling.Call.TheVariants.{Begin, Read, Write, TryCommit, Step}
use Rattle.table.specs.Sets.{blank_entry}

-- 1.5 is 3 · 2⁻¹
abbrev pub one_and_a_half : Float
one_and_a_half = fin false 3 (negsuc 0)

-- an item that was in use before set-up
abbrev pub item : ℕ → Record Setting
item n = record { value = Count n; lock = record { owner = 3; sequence = 9 }; count = 4 }

abbrev pub start : State Setting
start =
    (set_up
    (record {
      cells = item 10 ∷ item 20 ∷ [];
      memory = record { processes = replicate 16 fresh; number = 0; life = 0; entries = replicate 32 (blank_entry Off) };
    })
    2 1000
    ).after

-- what the calls tell, one after the other
abbrev pub tells_from : State Setting → List (Call Setting) → List (Told Setting)
tells_from s [] = []
tells_from s (c ∷ cs) = (called Off s c).tells ∷ tells_from (called Off s c).after cs

-- what the last n of the calls tell
abbrev pub last : ℕ → List (Call Setting) → List (Told Setting)
last n cs = drop (length cs - n) (tells_from start cs)

abbrev pub steps : ℕ → ℕ → List (Call Setting)
steps n p = replicate n (Step p)

abbrev pub reading : ℕ → ℕ → List (Call Setting)
reading p i = Begin p ∷ Read p i ∷ []

-- process 2 is to write 7 into item 0, and has locked it
abbrev pub writer_at_k : List (Call Setting)
writer_at_k = (Begin 2 ∷ Write 2 0 (Count 7) ∷ TryCommit 2 ∷ []) ++ steps 3 2

-- process 1 has read item 0, and process 2 stands at K
abbrev pub read_then_k : List (Call Setting)
read_then_k = reading 1 0 ++ steps 4 1 ++ writer_at_k

-- process 1 tries to commit and counts out, and then process 2 commits and ends
abbrev pub overtaken : List (Call Setting)
overtaken = (TryCommit 1 ∷ []) ++ steps 2 1 ++ steps 3 2

pub record Worked : Type 0 where
  -- words
  pub tension : setting_word (Tension one_and_a_half) ≡ 0x020000003FC00000
  pub knot : knot_word (record { angle = 90; offset = negsuc 1; time = 1000 }) ≡ 0x005AFFFE000003E8
  pub lowest_knot : knot_word (record { angle = 0; offset = negsuc 32767; time = 0 }) ≡ 0x0000800000000000
  -- alone, a first read of a free item takes four steps
  pub four_steps : last 4 (reading 1 0 ++ steps 4 1) ≡ going ∷ going ∷ going ∷ value (Count 10) ∷ []
  -- after K and before W, another's read takes five steps and gives the new value
  pub five_steps : last 5 (writer_at_k ++ steps 1 2 ++ reading 1 0 ++ steps 5 1) ≡ going ∷ going ∷ going ∷ going ∷ value (Count 7) ∷ []
  -- K waits at a count of 1, and goes on at 0
  pub waits_at_one : last 1 (read_then_k ++ steps 1 2) ≡ waiting ∷ []
  pub goes_on_at_zero : last 1 (read_then_k ++ steps 1 2 ++ (TryCommit 1 ∷ []) ++ steps 2 1 ++ steps 1 2) ≡ going ∷ []
  -- process 1 has read item 0 and written item 1; process 2, held at K with item 0, commits after process 1 has counted out:
  -- process 1 is aborted by item 0
  pub aborted_by_0 : last 1 (read_then_k ++ (Write 1 1 (Count 8) ∷ []) ++ overtaken ++ steps 5 1) ≡ aborted (Some 0) ∷ []
  -- the same where process 1 wrote nothing: it commits
  pub read_only_commits : last 1 (read_then_k ++ overtaken ++ steps 1 1) ≡ committed ∷ []
  -- what is not a number has one pattern, and every pattern that is not a number gives it
  pub nan_out : setting_word (Speed nan) ≡ 0x010000007FC00000
  pub nan_in : (w : ℕ) → field 56 8 w ≡ 1 → nan_bits binary32 (field 0 32 w) ≡ true → setting_of w ≡ Speed nan
  -- bits 55 to 32 are written zero, and ignored
  pub zero_out : (s : Setting) → IsHeldSetting s → field 32 24 (setting_word s) ≡ 0
  pub ignored_in : (v w : ℕ) → field 56 8 v ≡ field 56 8 w → field 0 32 v ≡ field 0 32 w → setting_of v ≡ setting_of w
  -- a case above 3 is off
  pub off_in : (w : ℕ) → 3 < field 56 8 w → setting_of w ≡ Off
