-- Clearing an item, and clearing item after item.
use Rattle.std.proofs.Common.{◌≡◌, ℕ, ◌+◌, ◌++◌, ◌<◌, List, map, length, set, take, drop, arith}
use Rattle.std.proofs.lemmas.Grind.{common_steps}
use Rattle.std.proofs.lemmas.List.{map_more, set-append_right, set-set}
use Rattle.bank.specs.Cells.{free, absent, cell_at, with_lock, with_count}
use Rattle.bank.specs.declared.record.Record.{Record}
use Rattle.upkeep.specs.Upkeep.{cleared}

module _ {V : Type 0} where
  -- one more item
  pub one_more : (blank : V) (cs ds : List (Record V)) (i : ℕ) → i < length cs → ds ≡ map cleared (take i cs) ++ drop i cs
      → set ds i (cleared (cell_at blank ds i)) ≡ map cleared (take (i + 1) cs) ++ drop (i + 1) cs
  one_more blank cs ds i h e = grind (arith, common_steps, map_more cleared cs i (absent blank), set-append_right (map cleared (take i cs)) (drop i cs) i i)

  -- an item's lock made free, then its count made 0
  pub both : (blank : V) (cs ds es : List (Record V)) (i : ℕ) → i < length cs → ds ≡ set cs i (with_lock free (cell_at blank cs i)) → es ≡ set ds i (with_count 0 (cell_at blank ds i)) → es ≡ set cs i (cleared (cell_at blank cs i))
  both blank cs ds es i h e f = grind (arith, common_steps, set-set)

pub ruleset clearing = (one_more, both)
