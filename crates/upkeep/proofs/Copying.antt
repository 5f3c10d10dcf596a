-- Copying value after value copies them all.
use Rattle.std.proofs.Common.{◌≡◌, ℕ, zero, suc, ◌+◌, ◌<◌, List, [], ◌∷◌, length, take, set, refl, ap, add-one, arith}
use Rattle.std.proofs.lemmas.Grind.{common_steps}
use Rattle.std.proofs.lemmas.List.{take_all}
use Rattle.bank.specs.Cells.{cell_at, has, change, with_value}
use Rattle.bank.specs.declared.record.Record.{Record}
use Rattle.upkeep.specs.Upkeep.{copied}

module _ {V : Type 0} (blank : V) where
  more : (n : ℕ) (fs cs : List (Record V)) → n < length fs
      → set (copied (take n fs) cs) n (with_value (cell_at blank fs n).value (cell_at blank (copied (take n fs) cs) n)) ≡ copied (take (suc n) fs) cs
  more n [] cs h = absurd (omega arith)
  more zero (f ∷ fs) [] h = refl
  more zero (f ∷ fs) (c ∷ cs) h = refl
  more (suc n) (f ∷ fs) [] h = refl
  more (suc n) (f ∷ fs) (c ∷ cs) h = ap (λ ds. with_value f.value c ∷ ds) (more n fs cs (omega arith))

  -- one more value; a write past the end changes nothing
  pub copied_more : (n : ℕ) (fs cs ds : List (Record V)) → n < length fs → ds ≡ copied (take n fs) cs
      → change (has ds n) (with_value (cell_at blank fs n).value) blank ds n ≡ copied (take (n + 1) fs) cs
  copied_more n fs cs ds h e = let m = more n fs cs h in grind (arith, common_steps, add-one n)

pub ruleset copying = (copied_more, take_all)
