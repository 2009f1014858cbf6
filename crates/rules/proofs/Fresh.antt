-- A run from a fresh start: its state is zero, its limits hold, and its twin is alike. Assumes nothing.
use mathlib.Core.Path.{◌≡◌, refl, sym, ◌∙◌, ap, ap₂, subst}
use mathlib.Core.Bool.{Bool, true, false, false≢true, cond, not, ◌&&◌, ◌||◌}
use mathlib.Core.Option.{some, none}
use mathlib.Core.List.{List, [], ◌∷◌}
use Prim.Native.Nat.{ℕ, zero, suc, ◌*◌, ◌≤◌}
use native.Mathlib.Omega.{arith}
use native.Mathlib.Nat.{le_trans}
use lib.Dec.{leb, eqb}
use borrow.Author.Tests.{leb-true, le-leb}
use lib.ListN.{length, take, replicate, length-take, length-replicate}
use lib.IntN.{ℤ, pos, ◌+ℤ◌}
use Rattle.integers.specs.Order.{within-zero}
use Rattle.integers.specs.Sum.{AllWithin, pick}
use Rattle.rules.specs.Limits.{unit, offset_per_round}
use Rattle.rules.specs.Refusal.{gives, must, buffer_short}
use Rattle.rules.specs.Table.{Table, edges, edges_of}
use Rattle.rules.specs.Parity.{turns}
use Rattle.rules.specs.CodeFile.{code_file}
use Rattle.rules.specs.Step.{minus}
use Rattle.rules.specs.Bound.{gather}
use Rattle.rules.specs.Round.{first_of, sums_of}
use Rattle.rules.specs.Buffers.{Buffer, nought, Buffers, the, Lengths, lengths_of, needs, part_of, over, over_all, write, zeroed, zeros, fits_start, zeroing}
use Rattle.rules.specs.Run.{state_in, sums_in, start_by, start, fresh, Safe}
use Rattle.rules.specs.Calls.{Call, start_on, started_run}
use Rattle.rules.specs.Demand3.{FreshStart, AllLent}
use Rattle.rules.proofs.Basics.{none≢some, some_inj}
use Rattle.rules.proofs.Signs.{turn-zero}
use Rattle.rules.proofs.AnswerLaws.{refused≢gives, must-true, then-of}
use Rattle.rules.proofs.BufferLaws.{take-over, the-each, every_true, true-every, part-refl, fits-part, past-lengths, Small, write-past, write-lent}
use Rattle.rules.proofs.RoundTurns.{signs, turn_state}
use Rattle.rules.proofs.Runs.{running≢certified}
use Rattle.rules.proofs.Lends.{AllPart}
use Rattle.rules.proofs.Twins.{Twin}

-- ---- what a start leaves
-- what a start writes fits where its own 41 has looked
module _ (t : Table) (n : Lengths) (h : fits_start t n ≡ true) where
  room : (x : Buffer) → zeroed x ≡ true → needs t x ≤ n x
  unfolding fits_start
  room x e = leb-true (needs t x) (n x) (by (zeroed x) e (every_true (λ x. not (zeroed x) || leb (needs t x) (n x)) h x))
    where
      by : (z : Bool) → z ≡ true → not z || leb (needs t x) (n x) ≡ true → leb (needs t x) (n x) ≡ true
      by true e k = k
      by false e k = absurd (false≢true e)

  pub zeroing-small : Small n (zeroing t)
  zeroing-small x new = go (zeroed x) refl
    where
      go : (z : Bool) → zeroed x ≡ z → cond z (some (replicate (needs t x) (nought x))) none ≡ some new → length new ≤ n x
      go true p e = subst (λ k. k ≤ n x) (sym (length-replicate (needs t x) (nought x)) ∙ ap length (some_inj (replicate (needs t x) (nought x)) new e)) (room x p)
      go false p e = absurd (none≢some e)

-- where 41 has looked at parts, it need not look at the whole
pub fits-start : (t : Table) (m n : Lengths) → ((x : Buffer) → m x ≤ n x) → fits_start t m ≡ true → fits_start t n ≡ true
unfolding fits_start
fits-start t m n h e = true-every (λ x. not (zeroed x) || leb (needs t x) (n x)) (λ x. go x (zeroed x) refl)
  where
    go : (x : Buffer) (z : Bool) → zeroed x ≡ z → not z || leb (needs t x) (n x) ≡ true
    go x true p = le-leb (needs t x) (n x) (le_trans (room t m e x p) (h x))
    go x false p = refl

-- room for copies, offsets and sums is room enough
pub zero_room : (t : Table) (b : Buffers) → edges_of t ≤ length b.copies → edges_of t ≤ length b.offsets → t.bits ≤ length b.sums → fits_start t (lengths_of b) ≡ true
unfolding fits_start
zero_room t b h k i = ap₂ (λ x y. x && y) (le-leb (edges_of t) (length b.copies) h)
    (ap₂ (λ x y. x && (y && true)) (le-leb (edges_of t) (length b.offsets) k) (le-leb t.bits (length b.sums) i))

-- a start with room enough
pub started-on : (file : List ℕ) (t : Table) (b : Buffers) → code_file file ≡ gives t → fits_start t (lengths_of b) ≡ true
    → start file b ≡ record { answer = gives fresh; buffers = write (zeroing t) b }
unfolding start
started-on file t b is_file h = ap (start_by b) (then-of (code_file file) t (λ x. must (fits_start x (lengths_of b)) buffer_short (gives x)) is_file
    ∙ must-true (fits_start t (lengths_of b)) buffer_short (gives t) h)

-- one that is not refused had it
started-fits : (file : List ℕ) (t : Table) (b : Buffers) → code_file file ≡ gives t → (start file b).answer ≡ gives fresh → fits_start t (lengths_of b) ≡ true
unfolding start must
started-fits file t b is_file e =
    let asked = then-of (code_file file) t (λ x. must (fits_start x (lengths_of b)) buffer_short (gives x)) is_file in
    go (fits_start t (lengths_of b)) (ap (λ a. (start_by b a).answer) (sym asked) ∙ e)
  where
    go : (z : Bool) → (start_by b (must z buffer_short (gives t))).answer ≡ gives fresh → z ≡ true
    go true q = refl
    go false q = absurd (refused≢gives q)

module _ (file : List ℕ) (t : Table) (b : Buffers) (f : FreshStart file t b) where
  on-parts : fits_start t (lengths_of (part_of f.lent b)) ≡ true
  on-parts = started-fits file t (part_of f.lent b) f.is_table f.started

  part-size : (x : Buffer) → lengths_of (part_of f.lent b) x ≡ length (take (f.lent x) (the x b))
  part-size x = ap length (the-each (λ x. take (f.lent x) (the x b)) x)

  on-whole : fits_start t (lengths_of b) ≡ true
  on-whole = fits-start t (lengths_of (part_of f.lent b)) (lengths_of b) (λ x. least (f.lent x) (the x b) (part-size x)) on-parts
    where
      least : {A : Type 0} {k : ℕ} (n : ℕ) (l : List A) → k ≡ length (take n l) → k ≤ length l
      least n l e = omega (arith, length-take n l)

  on-lent : fits_start t f.lent ≡ true
  on-lent = fits-start t (lengths_of (part_of f.lent b)) f.lent (λ x. least (f.lent x) (the x b) (part-size x)) on-parts
    where
      least : {A : Type 0} {k : ℕ} (n : ℕ) (l : List A) → k ≡ length (take n l) → k ≤ n
      least n l e = omega (arith, length-take n l)

  at-start : start file b ≡ record { answer = gives fresh; buffers = write (zeroing t) b }
  at-start = started-on file t b f.is_table on-whole

  -- what a start that is lent parts leaves in the whole is what it would leave if it were lent the whole
  pub started-back : over_all (start_on file f.lent b).buffers b ≡ (start file b).buffers
  started-back = ap (λ s. over_all s.buffers b) (started-on file t (part_of f.lent b) f.is_table on-parts)
      ∙ write-lent f.lent (zeroing t) b (zeroing-small t f.lent on-lent) ∙ ap (λ s. s.buffers) (sym at-start)

  -- its copies and offsets are zero
  pub started-state : state_in t (started_run file b).buffers ≡ record { copies = zeros (edges_of t); offsets = zeros (edges_of t) }
  started-state = ap (λ s. state_in t s.buffers) at-start ∙ ap₂ (λ z y. record { copies = z; offsets = y }) (front b.copies) (front b.offsets)
    where
      front : (l : List ℤ) → take (edges_of t) (over (replicate (edges_of t) (pos 0)) l) ≡ replicate (edges_of t) (pos 0)
      front l = take-over (edges_of t) (replicate (edges_of t) (pos 0)) l (length-replicate (edges_of t) (pos 0))

  -- and so are its sums
  pub started-sums : sums_in t (started_run file b).buffers ≡ zeros t.bits
  started-sums = ap (λ s. sums_in t s.buffers) at-start ∙ take-over t.bits (replicate t.bits (pos 0)) b.sums (length-replicate t.bits (pos 0))

  -- its buffers are as long as they were
  pub started-lengths : lengths_of (started_run file b).buffers ≡ lengths_of b
  started-lengths = ap (λ s. lengths_of s.buffers) at-start
      ∙ past-lengths (lengths_of b) (write (zeroing t) b) b (write-past (lengths_of b) (zeroing t) b (zeroing-small t (lengths_of b) on-whole) (part-refl (lengths_of b)))

-- ---- so it is safe
pub zeros_within : (m e : ℕ) → AllWithin m (zeros e)
zeros_within m zero = tt
zeros_within m (suc e) = (within-zero m, zeros_within m e)

-- copies and offsets of 0 add nothing to a total
pub zero-sum : (i : ℕ) (ms : List ℕ) (e : ℕ) → gather i ms (minus (zeros e) (zeros e)) ≡ pos 0
zero-sum i ms zero = refl
zero-sum i [] (suc e) = refl
zero-sum i (m ∷ ms) (suc e) = ap₂ ◌+ℤ◌ (nothing (eqb m i)) (zero-sum i ms e)
  where
    nothing : (b : Bool) → pick b (pos 0) ≡ pos 0
    nothing true = refl
    nothing false = refl

first-zeros : (n : ℕ) (f : ℕ → ℤ) → ((i : ℕ) → f i ≡ pos 0) → zeros n ≡ first_of n f
first-zeros zero f h = refl
first-zeros (suc n) f h = ap₂ ◌∷◌ (sym (h 0)) (first-zeros n (λ i. f (suc i)) (λ i. h (suc i)))

-- so there zero is the true sum
zeros-sums : (n : ℕ) (es : List ℕ) (e : ℕ) → zeros n ≡ sums_of n es (record { copies = zeros e; offsets = zeros e })
unfolding sums_of
zeros-sums n es e = first-zeros n _ (λ i. zero-sum i es e)

pub started-safe : (file : List ℕ) (t : Table) (b : Buffers) → FreshStart file t b → Safe t (started_run file b)
started-safe file t b f = record {
  copies = subst (λ s. AllWithin unit s.copies) (sym (started-state file t b f)) (zeros_within unit (edges_of t));
  offsets = subst (λ s. AllWithin (offset_per_round * 0) s.offsets) (sym (started-state file t b f)) (zeros_within (offset_per_round * 0) (edges_of t));
  sums = started-sums file t b f ∙ zeros-sums t.bits (edges t.checks) (edges_of t)
      ∙ ap (sums_of t.bits (edges t.checks)) (sym (started-state file t b f));
  early = λ e. omega arith;
}

-- ---- and so is its twin
zeros-turn : (xs : List Bool) (e : ℕ) → zeros e ≡ turns xs (zeros e)
zeros-turn [] e = refl
zeros-turn (x ∷ xs) zero = refl
zeros-turn (x ∷ xs) (suc e) = ap₂ ◌∷◌ (turn-zero x) (zeros-turn xs e)

pub started-twin : (file : List ℕ) (t : Table) (c : List Bool) (a b : Buffers) → FreshStart file t a → FreshStart file t b → Twin t c (started_run file a) (started_run file b)
started-twin file t c a b f g = record {
  progress = refl;
  state = started-state file t b g ∙ ap₂ (λ z y. record { copies = z; offsets = y }) (zeros-turn (signs c t.checks) (edges_of t)) (zeros-turn (signs c t.checks) (edges_of t))
      ∙ ap (turn_state c t.checks) (sym (started-state file t a f));
  sums = started-sums file t b g ∙ zeros-turn c t.bits ∙ ap (turns c) (sym (started-sums file t a f));
  multipliers = λ h. absurd (omega arith);
  depths = λ h. absurd (omega arith);
  words = λ e. absurd (running≢certified e);
}

-- ---- the parts that its calls are lent
pub all-part : (file : List ℕ) (t : Table) (b : Buffers) (xs : List Call) → FreshStart file t b → AllLent b xs → AllPart (lengths_of (started_run file b).buffers) xs
all-part file t b xs f h = subst (λ n. AllPart n xs) (sym (started-lengths file t b f)) (go xs h)
  where
    go : (xs : List Call) → AllLent b xs → AllPart (lengths_of b) xs
    go [] h = tt
    go (x ∷ xs) h = (fits-part x.lent (lengths_of b) h.0, go xs h.1)
