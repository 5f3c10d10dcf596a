-- The first line of an input, and the lines of what follows it.
use Rattle.std.proofs.Common.{◌≡◌, ℕ, ◌+◌, ◌<◌, Bool, true, false, true≢false, ◌==◌, cond, not, List, [], ◌∷◌, length, take, drop, sym, refl, ap, ◌∙◌, one-add, arith, length-drop}
use Rattle.std.specs.List.{prefix_len}
use Rattle.script.specs.Grammar.{onto, lines_of, is_line_feed}
use Rattle.script.specs.Walk.{in_line}

abbrev CutFirst : List ℕ → ℕ → Type 0
CutFirst s n = lines_of s ≡ take n s ∷ lines_of (drop 1 (drop n s))

last : (b : ℕ) (t : Bool) → cond t ([] ∷ []) ((b ∷ []) ∷ []) ≡ take (cond (not t) 1 0) (b ∷ []) ∷ lines_of (drop 1 (drop (cond (not t) 1 0) (b ∷ [])))
last b true = refl
last b false = refl

longer : (b : ℕ) (s : List ℕ) (t : Bool) → CutFirst s (prefix_len in_line s) →
    cond t ([] ∷ lines_of s) (onto b (lines_of s)) ≡ take (cond (not t) (1 + prefix_len in_line s) 0) (b ∷ s) ∷ lines_of (drop 1 (drop (cond (not t) (1 + prefix_len in_line s) 0) (b ∷ s)))
longer b s true e = refl
longer b s false e = rw (one-add (prefix_len in_line s)) (ap (onto b) e)

cut_first : (b : ℕ) (s : List ℕ) → CutFirst (b ∷ s) (prefix_len in_line (b ∷ s))
cut_first b [] = last b (is_line_feed b)
cut_first b (c ∷ s) = longer b (c ∷ s) (is_line_feed b) (cut_first c s)

pub lines_none : (s : List ℕ) → length s ≡ 0 → lines_of s ≡ []
lines_none [] e = refl
lines_none (b ∷ s) e = absurd (omega arith)

pub lines_next : (s line rest : List ℕ) (n : ℕ) → (length s == 0) ≡ false → n ≡ prefix_len in_line s → line ≡ take n s → rest ≡ drop 1 (drop n s) →
    (lines_of s ≡ line ∷ lines_of rest) × (length rest < length s)
lines_next [] line rest n h e p q = absurd (true≢false h)
lines_next (b ∷ s) line rest n h e p q =
    let first : CutFirst (b ∷ s) n = rw e (cut_first b s) in (
      first ∙ sym (λ i. p i ∷ lines_of (q i)),
      omega (arith, ap length q, length-drop 1 (drop n (b ∷ s)), length-drop n (b ∷ s)),
    )
