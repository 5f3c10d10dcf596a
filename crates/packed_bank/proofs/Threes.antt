-- Words read as records, three words an item: what a read finds, and what one word anew changes.
use Rattle.std.proofs.Common.{◌≡◌, ℕ, ◌+◌, ◌*◌, ◌<◌, ◌≤◌, cond, ◌≢◌, List, length, set, sym, ◌∙◌, arith, length-set}
use Rattle.std.proofs.lemmas.Grind.{common_steps}
use Rattle.std.proofs.lemmas.Bool.Decides.{nat_tests}
use Rattle.std.proofs.lemmas.List.FromFn.{length-map-range_with_len, get_or-map-range_with_len}
use Rattle.std.proofs.lemmas.List.{get_or_past, ext_get_or}
use Rattle.bank.specs.Cells.{absent, cell_at}
use Rattle.packed_bank.specs.Words.{item_count, has_words, offset, record_in, cells_in, with_word}
use Rattle.packed_bank.specs.declared.words.Part.{Part}

-- the words of an item that the bank has are there
within : (ws : List ℕ) (i : ℕ) → i < item_count ws → 3 * i + 3 ≤ length ws
within ws i h = grind (arith, nat_tests)

count_set : (ws : List ℕ) (p w : ℕ) → item_count (set ws p w) ≡ item_count ws
count_set ws p w = simp length-set

module _ {V : Type 0} (unpack : ℕ → V) (ws : List ℕ) where
  pub items_are : length (cells_in unpack ws) ≡ item_count ws
  items_are = length-map-range_with_len (record_in unpack ws) 0 (item_count ws)

module _ {V : Type 0} (unpack : ℕ → V) (blank : V) (ws : List ℕ) where
  -- the record that is read, by whether the bank has the item
  pub cell_is : (i : ℕ) → cell_at blank (cells_in unpack ws) i ≡ cond (has_words ws i) (record_in unpack ws i) (absent blank)
  cell_is i = grind (arith, common_steps, nat_tests, items_are unpack ws, get_or-map-range_with_len (record_in unpack ws) 0 (item_count ws) i i (absent blank), get_or_past (cells_in unpack ws) i (absent blank))

module _ {V : Type 0} (unpack : ℕ → V) (blank : V) (ws : List ℕ) where
  -- a word anew gives the item that it belongs to a new record
  same : (k : Part) (w i : ℕ) → i < item_count ws → record_in unpack (set ws (3 * i + offset k) w) i ≡ with_word unpack k w (record_in unpack ws i)
  same k w i h = let n : 3 * i + 3 ≤ length ws = within ws i h in grind (arith, common_steps)

  -- and leaves the records of the other items
  other : (k : Part) (w i j : ℕ) → j ≢ i → record_in unpack (set ws (3 * i + offset k) w) j ≡ record_in unpack ws j
  other k w i j e = grind (arith, common_steps)

  pub put_is : (k : Part) (w i : ℕ) → i < item_count ws
      → cells_in unpack (set ws (3 * i + offset k) w) ≡ set (cells_in unpack ws) i (with_word unpack k w (cell_at blank (cells_in unpack ws) i))
  put_is k w i h = ext_get_or (absent blank) _ _ (long ∙ sym (length-set (cells_in unpack ws) i _ ∙ items_are unpack ws)) (λ j l. each j (omega (arith, long)))
    where
      long : length (cells_in unpack (set ws (3 * i + offset k) w)) ≡ item_count ws
      long = items_are unpack (set ws (3 * i + offset k) w) ∙ count_set ws (3 * i + offset k) w

      each : (j : ℕ) → j < item_count ws
          → cell_at blank (cells_in unpack (set ws (3 * i + offset k) w)) j
          ≡ cell_at blank (set (cells_in unpack ws) i (with_word unpack k w (cell_at blank (cells_in unpack ws) i))) j
      each j l =
          let there : j < length (cells_in unpack ws) = omega (arith, items_are unpack ws) in
          grind (arith, common_steps, cell_is unpack blank (set ws (3 * i + offset k) w), cell_is unpack blank ws, count_set, same, other)
