-- What is printed: for each line its number and what it told, by single spaces, and a line feed.
-- The values are words of settings: a count is printed as its number, anything else as off.
use Rattle.std.specs.Prelude.{ℕ, List, ◌++◌, Some, None, codes, decimal}
use Rattle.kinds.specs.Settings.{setting_of}
use Rattle.kinds.specs.declared.setting.Setting.{Setting}
use Rattle.kinds.specs.declared.setting.Setting.TheVariants.{Off, Speed, Tension, Count}
use Rattle.process.specs.Tells.{Told, done, going, waiting, value, committed, aborted, refused}
use Rattle.bench.specs.Faults.{line_told}
use Rattle.bench.specs.declared.report.Report.{Report}

abbrev pub setting_text : Setting → List ℕ
setting_text Off = codes "off"
setting_text (Speed x) = codes "off"
setting_text (Tension x) = codes "off"
setting_text (Count n) = decimal n

abbrev pub word_text : ℕ → List ℕ
word_text w = setting_text (setting_of w)

abbrev pub told_text : Told ℕ → List ℕ
told_text done = codes " ok"
told_text going = codes " going"
told_text waiting = codes " waiting"
told_text (value w) = codes " value " ++ word_text w
told_text committed = codes " committed"
told_text (aborted None) = codes " aborted"
told_text (aborted (Some i)) = codes " aborted " ++ decimal i
told_text (refused n) = codes " refused " ++ decimal n

abbrev pub report_text : Report → List ℕ
report_text r = decimal r.line ++ told_text (line_told r.result)

abbrev pub line_text : ℕ → Told ℕ → List ℕ
line_text n t = decimal n ++ told_text t ++ codes "\n"
