-- A drive with four settings, all off, and the working memory of the player's processes, on which a script is played.
use Rattle.std.specs.Prelude.{ℕ, ◌*◌, List, replicate}
use Rattle.kinds.specs.Settings.{setting_word, setting_of}
use Rattle.kinds.specs.declared.setting.Setting.{Setting}
use Rattle.kinds.specs.declared.setting.Setting.TheVariants.{Off}
use Rattle.bank.specs.Cells.{absent}
use Rattle.bank.specs.declared.record.Record.{Record}
use Rattle.table.specs.Sets.{blank_entry}
use Rattle.table.specs.declared.entry.Entry.{Entry}
use Rattle.bench.specs.Plays.{played, player_processes}

-- how many settings the drive has
abbrev pub drive_items : ℕ
drive_items = 4

abbrev pub drive_records : List (Record Setting)
drive_records = replicate drive_items (absent Off)

-- sixteen entries for each process
abbrev pub drive_entries : List (Entry Setting)
drive_entries = replicate (16 * player_processes) (blank_entry Off)

-- the bytes that a script prints there
abbrev pub drive_played : List ℕ → List ℕ
drive_played input = played Off setting_word setting_of drive_records drive_entries input
