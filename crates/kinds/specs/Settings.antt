-- The word of a setting: bits 63 to 56 are its case, bits 31 to 0 its float's bits or its count.
-- Bits 55 to 32 are written zero and ignored; a case above 3 is off.
use Rattle.std.specs.Prelude.{ℕ, zero, suc, ◌+◌, ◌^◌, ◌<◌, T, from_bits, to_bits}
use Rattle.std.specs.Float.{binary32}
use Rattle.std.specs.Float.Ieee.{fits}
use Rattle.kinds.specs.declared.setting.Setting.{Setting}
use Rattle.kinds.specs.declared.setting.Setting.TheVariants.{Off, Speed, Tension, Count}
use Rattle.kinds.specs.Fields.{field, from_bit}

abbrev pub setting_case : Setting → ℕ
setting_case Off = 0
setting_case (Speed x) = 1
setting_case (Tension x) = 2
setting_case (Count n) = 3

-- to_bits gives 0x7FC00000 for what is not a number, and from_bits takes every such pattern to it
abbrev pub setting_low : Setting → ℕ
setting_low Off = 0
setting_low (Speed x) = to_bits binary32 x
setting_low (Tension x) = to_bits binary32 x
setting_low (Count n) = n

abbrev pub setting_word : Setting → ℕ
setting_word s = from_bit 56 (setting_case s) + from_bit 0 (setting_low s)

-- the setting of a case and its low bits
abbrev pub setting_by : ℕ → ℕ → Setting
setting_by zero low = Off
setting_by (suc zero) low = Speed (from_bits binary32 low)
setting_by (suc (suc zero)) low = Tension (from_bits binary32 low)
setting_by (suc (suc (suc zero))) low = Count low
setting_by (suc (suc (suc (suc k)))) low = Off

abbrev pub setting_of : ℕ → Setting
setting_of word = setting_by (field 56 8 word) (field 0 32 word)

-- the settings whose float or count has 32 bits
abbrev pub IsHeldSetting : Setting → Type 0
IsHeldSetting Off = Unit {0}
IsHeldSetting (Speed x) = T (fits binary32 x)
IsHeldSetting (Tension x) = T (fits binary32 x)
IsHeldSetting (Count n) = n < 2 ^ 32
