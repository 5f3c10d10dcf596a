-- A packed setting comes back.
use Rattle.std.specs.Prelude.{◌≡◌, ℕ, ◌+◌, ◌^◌, ◌<◌, refl}
use Rattle.std.proofs.Common.{ap, ◌∙◌, arith}
use Rattle.std.specs.Float.{binary32}
use Rattle.std.specs.Float.Ieee.Bits.{of_bits-to_bits, to_bits-lt}
use Rattle.kinds.specs.Fields.{field, from_bit}
use Rattle.kinds.specs.Settings.{setting_case, setting_low, setting_word, setting_by, setting_of, IsHeldSetting}
use Rattle.kinds.specs.declared.setting.Setting.{Setting}
use Rattle.kinds.specs.declared.setting.Setting.TheVariants.{Off, Speed, Tension, Count}

case_lt : (s : Setting) → setting_case s < 4
case_lt Off = omega arith
case_lt (Speed x) = omega arith
case_lt (Tension x) = omega arith
case_lt (Count n) = omega arith

pub low_lt : (s : Setting) → IsHeldSetting s → setting_low s < 2 ^ 32
low_lt Off h = omega arith
low_lt (Speed x) h = to_bits-lt binary32 x h
low_lt (Tension x) h = to_bits-lt binary32 x h
low_lt (Count n) h = h

by_parts : (s : Setting) → IsHeldSetting s → setting_by (setting_case s) (setting_low s) ≡ s
by_parts Off h = refl
by_parts (Speed x) h = ap Speed (of_bits-to_bits binary32 x h)
by_parts (Tension x) h = ap Tension (of_bits-to_bits binary32 x h)
by_parts (Count n) h = refl

high_of : (c t : ℕ) → c < 4 → t < 2 ^ 32 → field 56 8 (from_bit 56 c + from_bit 0 t) ≡ c
high_of c t p q = omega arith

low_of : (c t : ℕ) → t < 2 ^ 32 → field 0 32 (from_bit 56 c + from_bit 0 t) ≡ t
low_of c t q = omega arith

pub setting_back : (s : Setting) → IsHeldSetting s → setting_of (setting_word s) ≡ s
setting_back s h =
    ap (λ (c : ℕ). setting_by c (field 0 32 (setting_word s))) (high_of (setting_case s) (setting_low s) (case_lt s) (low_lt s h))
    ∙ ap (setting_by (setting_case s)) (low_of (setting_case s) (setting_low s) (low_lt s h))
    ∙ by_parts s h
