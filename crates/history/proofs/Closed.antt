-- A process with no open transaction is refused everything but a begin.
use Rattle.std.proofs.Common.{◌≡◌, refl, sym, ℕ, Bool, true, false, cond, not, Some, None, Option, is_some}
use Rattle.std.proofs.lemmas.Bool.{false≢true, not_from_false}
use Rattle.store.specs.Calls.{called, unless, or_else, open_at, short_table, no_process, first_ground, operation_grounds, step_grounds, item_refusal}
use Rattle.store.specs.Model.{State, Outcome}
use Rattle.store.specs.declared.calling.Call.{Call}
use Rattle.store.specs.declared.calling.Call.TheVariants.{Begin, Read, Write, TryCommit, Abort, Step}
use Rattle.history.specs.Notes.{is_refused, caller}

-- the third of three grounds holds
third : (a b d : Bool) (k l m : ℕ) (rest : Option ℕ) → d ≡ true → is_some (cond a (Some k) (cond b (Some l) (cond d (Some m) rest))) ≡ true
third true b d k l m rest e = refl
third false true d k l m rest e = refl
third false false true k l m rest e = refl
third false false false k l m rest e = absurd (false≢true e)

is_some-or_else : (r t : Option ℕ) → is_some r ≡ true → is_some (or_else r t) ≡ true
is_some-or_else None t e = absurd (false≢true e)
is_some-or_else (Some n) t e = refl

module _ {V : Type 0} (s : State V) where
  refused_unless : (r : Option ℕ) (o : Outcome V) → is_some r ≡ true → is_refused (unless r s o).tells ≡ true
  refused_unless None o e = absurd (false≢true e)
  refused_unless (Some n) o e = refl

  operation_refused : (p : ℕ) → open_at s.memory p ≡ false → is_some (first_ground (operation_grounds s.memory p)) ≡ true
  operation_refused p e = third (short_table s.memory.entries s.memory.number) (no_process s.memory p) (not (open_at s.memory p)) 1 2 4 _ (not_from_false _ e)

  step_refused : (p : ℕ) → open_at s.memory p ≡ false → is_some (first_ground (step_grounds s.memory p)) ≡ true
  step_refused p e = third (short_table s.memory.entries s.memory.number) (no_process s.memory p) (not (open_at s.memory p)) 1 2 4 _ (not_from_false _ e)

-- whether a call is a begin
abbrev pub begins : {V : Type 0} → Call V → Bool
begins (Begin p) = true
begins c = false

module _ {V : Type 0} (blank : V) (s : State V) where
  pub called-closed : (c : Call V) → begins c ≡ false → open_at s.memory (caller c) ≡ false → is_refused (called blank s c).tells ≡ true
  called-closed (Begin p) b e = absurd (false≢true (sym b))
  called-closed (Read p i) b e = refused_unless s (item_refusal s p i) _ (is_some-or_else _ _ (operation_refused s p e))
  called-closed (Write p i v) b e = refused_unless s (item_refusal s p i) _ (is_some-or_else _ _ (operation_refused s p e))
  called-closed (TryCommit p) b e = refused_unless s (first_ground (operation_grounds s.memory p)) _ (operation_refused s p e)
  called-closed (Abort p) b e = refused_unless s (first_ground (operation_grounds s.memory p)) _ (operation_refused s p e)
  called-closed (Step p) b e = refused_unless s (first_ground (step_grounds s.memory p)) _ (step_refused s p e)
