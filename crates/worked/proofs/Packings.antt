-- The rules of a setting's word in the large.
use Rattle.std.proofs.Common.{◌≡◌, ℕ, zero, suc, ◌+◌, ◌^◌, ◌<◌, true, false, sym, refl, ap, ◌∙◌, arith}
use lib.Ieee.{Float, nan, inf, fin, binary32, is_nan, nan_bits, of_bits}
use lib.Ieee.Bits.{nan_bits_is}
use Rattle.std.proofs.lemmas.Bool.{both_ways}
use Rattle.kinds.specs.SettingsLemmas.{low_lt}
use Rattle.kinds.specs.Fields.{field, from_bit}
use Rattle.kinds.specs.Settings.{setting_word, setting_of, setting_by, setting_case, setting_low, IsHeldSetting}
use Rattle.kinds.specs.declared.setting.Setting.{Setting}
use Rattle.kinds.specs.declared.setting.Setting.TheVariants.{Off, Speed}

nan_only : (v : Float) → is_nan v ≡ true → v ≡ nan
unfolding is_nan
nan_only nan e = refl
nan_only (inf s) e = absurd (both_ways false refl e)
nan_only (fin s m x) e = absurd (both_ways false refl e)

pub nan_in : (w : ℕ) → field 56 8 w ≡ 1 → nan_bits binary32 (field 0 32 w) ≡ true → setting_of w ≡ Speed nan
nan_in w c e =
    ap (λ (n : ℕ). setting_by n (field 0 32 w)) c
    ∙ ap Speed (nan_only (of_bits binary32 (field 0 32 w)) (sym (nan_bits_is binary32 (field 0 32 w)) ∙ e))

apart : (c t : ℕ) → t < 2 ^ 32 → field 32 24 (from_bit 56 c + from_bit 0 t) ≡ 0
apart c t h = omega arith

pub zero_out : (s : Setting) → IsHeldSetting s → field 32 24 (setting_word s) ≡ 0
zero_out s h = apart (setting_case s) (setting_low s) (low_lt s h)

pub ignored_in : (v w : ℕ) → field 56 8 v ≡ field 56 8 w → field 0 32 v ≡ field 0 32 w → setting_of v ≡ setting_of w
ignored_in v w c l = λ i. setting_by (c i) (l i)

small : (c : ℕ) → 3 < c → c < 4 → ⊥
small c h k = omega arith

above : (c t : ℕ) → 3 < c → setting_by c t ≡ Off
above zero t h = absurd (small 0 h (omega arith))
above (suc zero) t h = absurd (small 1 h (omega arith))
above (suc (suc zero)) t h = absurd (small 2 h (omega arith))
above (suc (suc (suc zero))) t h = absurd (small 3 h (omega arith))
above (suc (suc (suc (suc c)))) t h = refl

pub off_in : (w : ℕ) → 3 < field 56 8 w → setting_of w ≡ Off
off_in w h = above (field 56 8 w) (field 0 32 w) h
