-- One line more of a script, and the memory that a played script leaves.
use Rattle.std.proofs.Common.{◌≡◌, ℕ, ◌+◌, ◌≤◌, Bool, true, false, cond, arith, length, List, [], ◌∷◌, ◌++◌, take, refl, ap, sym, subst, ◌∙◌, append_assoc}
use Rattle.bank.specs.declared.record.Record.{Record}
use Rattle.table.specs.declared.entry.Entry.{Entry}
use Rattle.script.specs.Grammar.{lines_of, is_line_feed, onto}
use Rattle.store.specs.Model.{State}
use Rattle.bench.specs.Plays.{line_turn, lines_after, printed, most_input, started, script_lines, Reaches, HoldsSome}
use Rattle.bench.specs.Texts.{line_text}

fewer : (b : ℕ) (ls : List (List ℕ)) (n : ℕ) → length ls ≤ n → length (onto b ls) ≤ n + 1
fewer b [] n h = omega (arith, h)
fewer b (l ∷ ls) n h = omega (arith, h)

short_one : (b n : ℕ) (ls : List (List ℕ)) (t : Bool) → length ls ≤ n → length (cond t ([] ∷ ls) (onto b ls)) ≤ n + 1
short_one b n ls true h = omega (arith, h)
short_one b n ls false h = fewer b ls n h

-- an input has no more lines than bytes
pub lines_short : (s : List ℕ) → length (lines_of s) ≤ length s
lines_short [] = omega arith
lines_short (b ∷ s) = omega (arith, short_one b (length s) (lines_of s) (is_line_feed b) (lines_short s))

module _ {V : Type 0} (blank : V) (pack : V → ℕ) (unpack : ℕ → V) where
  -- what is printed so far, and what the lines left will print, make up the whole
  pub line_more : (s t : State V) (n i m : ℕ) (left rest : List (List ℕ)) (line out new all : List ℕ) → left ≡ line ∷ rest → i ≡ n → m ≡ n + 1
      → t ≡ (line_turn blank pack unpack s line).after → new ≡ out ++ line_text i (line_turn blank pack unpack s line).tells
      → out ++ printed blank pack unpack s n left ≡ all → new ++ printed blank pack unpack t m rest ≡ all
  line_more s t n i m left rest line out new all cut same next played written before =
      (λ j. (written ∙ ap (λ k. out ++ line_text k (line_turn blank pack unpack s line).tells) same) j ++ printed blank pack unpack (played j) (next j) rest)
      ∙ append_assoc out (line_text n (line_turn blank pack unpack s line).tells) (printed blank pack unpack (line_turn blank pack unpack s line).after (n + 1) rest)
      ∙ ap (λ (ls : List (List ℕ)). out ++ printed blank pack unpack s n ls) (sym cut)
      ∙ before

  lines_more : (s : State V) (first : List (List ℕ)) (l : List ℕ) → lines_after blank pack unpack s (first ++ l ∷ []) ≡ (line_turn blank pack unpack (lines_after blank pack unpack s first) l).after
  lines_more s [] l = refl
  lines_more s (x ∷ first) l = lines_more (line_turn blank pack unpack s x).after first l

  -- the state is reached by one line more
  pub reaches_more : (s t u : State V) (ls rest : List (List ℕ)) (line : List ℕ) (r : Reaches blank pack unpack s ls t)
      → r.rest ≡ line ∷ rest → u ≡ (line_turn blank pack unpack t line).after → (q : Reaches blank pack unpack s ls u) × (q.rest ≡ rest)
  reaches_more s t u ls rest line r cut played = (
    record {
      first = r.first ++ line ∷ [];
      rest = rest;
      whole = append_assoc r.first (line ∷ []) rest ∙ ap (λ (x : List (List ℕ)). r.first ++ x) (sym cut) ∙ r.whole;
      after = played ∙ ap (λ (x : State V). (line_turn blank pack unpack x line).after) r.after ∙ sym (lines_more s r.first line);
    },
    refl,
  )

module _ {V : Type 0} (blank : V) (pack : V → ℕ) (unpack : ℕ → V) (cs : List (Record V)) (es : List (Entry V)) (input bytes : List ℕ) (after t : State V) where
  -- what the first lines after set-up leave in the memory that was lent
  pub holds_some : after ≡ started cs es → bytes ≡ take most_input input → Reaches blank pack unpack after (lines_of bytes) t
      → (cs' : List (Record V)) (es' : List (Entry V)) → cs' ≡ t.cells → es' ≡ t.memory.entries → HoldsSome blank pack unpack cs es input cs' es'
  holds_some e b r cs' es' c d =
      record {
        state = t;
        reaches =
            subst (λ (s : State V). Reaches blank pack unpack s (script_lines input) t) e
            (subst (λ (x : List ℕ). Reaches blank pack unpack after (lines_of x) t) b r);
        holds = (c, d);
      }
