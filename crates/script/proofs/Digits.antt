-- The digits of a number, and how large it can be.
use Rattle.std.proofs.Common.{◌≡◌, ℕ, ◌-◌, ◌^◌, ◌<◌, ◌≤◌, true, List, length, take, arith, lit<, length-take-le}
use native.Mathlib.Nat.{pow-le-pow_right}
use Rattle.std.specs.Str.Parse.{digits_value, AllDigits}
use Rattle.std.specs.Char.{digit_value as digitValue}
use Rattle.std.proofs.lemmas.Int.Digits.{digits_value-lt}
use Rattle.std.proofs.lemmas.Bool.Decides.{nat_tests}
use Rattle.script.specs.Grammar.{is_digit}

pub digit_bounds : (b : ℕ) → is_digit b ≡ true → (48 ≤ b) × (b ≤ 57)
digit_bounds b h = grind (arith, nat_tests)

pub digit_value : (b : ℕ) → 48 ≤ b → b ≤ 57 → digitValue b ≡ b - 48
digit_value b h k = grind (arith, nat_tests)

pub small : (ds : List ℕ) (i v : ℕ) → v ≡ digits_value 10 (take i ds) → AllDigits 10 (take i ds) → i < length ds → length ds ≤ 9 → v < 100000000
small ds i v e d h k =
    let n : length (take i ds) ≤ 8 = omega (arith, length-take-le i ds (omega arith)) in
    let p : 10 ^ length (take i ds) ≤ 100000000 = pow-le-pow_right {n = 10} (lit< tt) n in
    omega (arith, digits_value-lt 10 (take i ds) d)
