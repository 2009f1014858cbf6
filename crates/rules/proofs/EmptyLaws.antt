-- Empty checks (document 02, #106): met by every word, cut by no point, without a multiplier, refused in a certificate, and so never in a bound.
-- A round is as on the table without them. Assumes nothing.
use mathlib.Core.Path.{◌≡◌, refl, sym, ◌∙◌, ap, ap₂, subst}
use mathlib.Core.Bool.{Bool, true, false, not, ◌&&◌, false≢true}
use mathlib.Core.Logic.{◌↔◌}
use mathlib.Core.List.{List, [], ◌∷◌, ◌++◌, map}
use mathlib.Core.Option.{Option, some, none}
use Prim.Native.Nat.{ℕ, suc, ◌≤◌}
use native.Mathlib.Omega.{arith}
use lib.Dec.{ltb}
use lib.ListN.{length, drop}
use lib.IntN.{ℤ}
use Rattle.rules.specs.Limits.{unit, max_multiplier}
use Rattle.rules.specs.Refusal.{Answer, must, entry_range, mask_wrong, entry_order}
use Rattle.rules.specs.Table.{Table, edges, checks_of, at, bits_at}
use Rattle.rules.specs.Parity.{odd, Alike, KeepsOne, Keeps, Point, meets, Codeword}
use Rattle.rules.specs.Mask.{mask_right}
use Rattle.rules.specs.CodeFile.{in_range}
use Rattle.rules.specs.Cut.{cut, keep}
use Rattle.rules.specs.Step.{Entry, inactive, active, Step, step}
use Rattle.rules.specs.Bound.{Row, rows_of, gap}
use Rattle.rules.specs.Round.{State, spin, values, pass, copies_in, offsets_in, entries_in, candidate, is_zero, certify, sums_of, round_by, round}
use Rattle.rules.specs.Certificate.{Item, members_at, follows, on_item, items_of, rows_at}
use Rattle.rules.specs.Judge.{Verdict}
use Rattle.rules.specs.Empty.{filled, without_empty, at_filled, SameRound, names_empty, AllFilled}
use Rattle.rules.proofs.AnswerLaws.{must-false}
use Rattle.rules.proofs.Masks.{mask-odd}
use Rattle.rules.proofs.Pass.{steps_in, Good}
use Rattle.rules.proofs.Optimal.{round-good}
use Rattle.rules.proofs.Judged.{Judged}

-- ---- "An empty check is always met"
pub empty-met : (w : List Bool) → odd (bits_at w []) ≡ false
empty-met w = refl

pub meets-filled : (w : List Bool) (cs : List (List ℕ)) → meets w (filled cs) ≡ meets w cs
meets-filled w [] = refl
meets-filled w ([] ∷ cs) = meets-filled w cs
meets-filled w ((m ∷ ms) ∷ cs) = ap (λ b. not (odd (bits_at w (m ∷ ms))) && b) (meets-filled w cs)

-- so the codewords are those of the table without it
pub codeword-filled⇔ : (t : Table) (c : List Bool) → Codeword t c ↔ Codeword (without_empty t) c
codeword-filled⇔ t c = (
  λ h. record { size = h.size; even = meets-filled c t.checks ∙ h.even },
  λ h. record { size = h.size; even = sym (meets-filled c t.checks) ∙ h.even },
)

-- ---- "has no cut": it has no odd set
pub empty-even : (vs : List Bool) → Alike {B = ℕ} vs [] → odd vs ≡ false
empty-even [] h = refl
empty-even (v ∷ vs) h = absurd h

pub empty-uncut : (u : ℕ) → cut u [] ≡ none
unfolding cut
empty-uncut u = refl

pub empty-kept : (d : ℕ) (f : ℕ → ℤ) → KeepsOne d f []
empty-kept d f vs o h = absurd (false≢true (sym (empty-even vs h) ∙ o))

keeps-filled : (d : ℕ) (f : ℕ → ℤ) (cs : List (List ℕ)) → Keeps d f cs → Keeps d f (filled cs)
keeps-filled d f [] h = tt
keeps-filled d f ([] ∷ cs) h = keeps-filled d f cs h.1
keeps-filled d f ((m ∷ ms) ∷ cs) h = (h.0, keeps-filled d f cs h.1)

filled_keeps : (d : ℕ) (f : ℕ → ℤ) (cs : List (List ℕ)) → Keeps d f (filled cs) → Keeps d f cs
filled_keeps d f [] h = tt
filled_keeps d f ([] ∷ cs) h = (empty-kept d f, filled_keeps d f cs h)
filled_keeps d f ((m ∷ ms) ∷ cs) h = (h.0, filled_keeps d f cs h.1)

-- so the relaxation is that of the table without it
pub point-filled⇔ : (t : Table) (d : ℕ) (p : List ℤ) → Point t d p ↔ Point (without_empty t) d p
point-filled⇔ t d p = (
  λ h. record { positive = h.positive; size = h.size; box = h.box; keeps = keeps-filled d (at p) t.checks h.keeps },
  λ h. record { positive = h.positive; size = h.size; box = h.box; keeps = filled_keeps d (at p) t.checks h.keeps },
)

-- ---- "gets multiplier 0 and mask 0", and depth 0: its step is without an entry and changes nothing
pub empty-step : (u : ℕ) (f : ℕ → ℤ) (ys : List ℤ) → step u (values f [] ys) ≡ record { copies = []; offsets = []; entry = inactive; depth = 0 }
unfolding step cut
empty-step u f ys = refl

-- ---- a pass as over the checks that have members
edges-filled : (cs : List (List ℕ)) → edges (filled cs) ≡ edges cs
edges-filled [] = refl
edges-filled ([] ∷ cs) = edges-filled cs
edges-filled ((m ∷ ms) ∷ cs) = ap (λ l. (m ∷ ms) ++ l) (edges-filled cs)

-- the copies and offsets that steps leave, and those with one step more in front
abbrev state_after : List Step → State
state_after ss = record { copies = copies_in ss; offsets = offsets_in ss }

abbrev in_front : Step → State → State
in_front x s = record { copies = x.copies ++ s.copies; offsets = x.offsets ++ s.offsets }

row_more : (ms : List ℕ) (e : Entry) (cs ds : List (List ℕ)) (xs ys : List Entry) → rows_of cs xs ≡ rows_of ds ys → rows_of (ms ∷ cs) (e ∷ xs) ≡ rows_of (ms ∷ ds) (e ∷ ys)
row_more ms inactive cs ds xs ys h = h
row_more ms (active b ts) cs ds xs ys h = ap (λ rs. record { members = ms; multiplier = b; set = ts } ∷ rs) h

module _ (u : ℕ) (f : ℕ → ℤ) where
  state-filled : (cs : List (List ℕ)) (ys : List ℤ) → state_after (pass u f (filled cs) ys) ≡ state_after (pass u f cs ys)
  unfolding step cut
  state-filled [] ys = refl
  state-filled ([] ∷ cs) ys = state-filled cs ys
  state-filled ((m ∷ ms) ∷ cs) ys = ap (in_front (step u (values f (m ∷ ms) ys))) (state-filled cs (drop (suc (length ms)) ys))

  -- of one thing per step
  each-filled : {A : Type 0} (g : Step → A) (cs : List (List ℕ)) (ys : List ℤ) → map g (pass u f (filled cs) ys) ≡ at_filled cs (map g (pass u f cs ys))
  each-filled g [] ys = refl
  each-filled g ([] ∷ cs) ys = each-filled g cs ys
  each-filled g ((m ∷ ms) ∷ cs) ys = ap (λ l. g (step u (values f (m ∷ ms) ys)) ∷ l) (each-filled g cs (drop (suc (length ms)) ys))

  rows-filled : (cs : List (List ℕ)) (ys : List ℤ) → rows_of (filled cs) (entries_in (pass u f (filled cs) ys)) ≡ rows_of cs (entries_in (pass u f cs ys))
  unfolding step cut
  rows-filled [] ys = refl
  rows-filled ([] ∷ cs) ys = rows-filled cs ys
  rows-filled ((m ∷ ms) ∷ cs) ys = row_more (m ∷ ms) (step u (values f (m ∷ ms) ys)).entry (filled cs) cs _ _ (rows-filled cs (drop (suc (length ms)) ys))

-- ---- a round as on the table without its empty checks: spins, copies, offsets and word, and the entries of the checks that are left
certify-filled : (t : Table) (l : List ℤ) (rs : List Row) (w : Option (List Bool)) → certify (without_empty t) l rs w ≡ certify t l rs w
certify-filled t l rs none = refl
certify-filled t l rs (some w) = ap (λ b. keep (b && is_zero (gap t.bits 1 l rs w)) w) (meets-filled w t.checks)

pub round_filled : (t : Table) (l : List ℤ) (s : State) → SameRound t (round t l s) (round (without_empty t) l s)
unfolding round
round_filled t l s = subst (λ es. SameRound t (round t l s) (by es)) (sym (edges-filled t.checks)) (record {
  spins = refl;
  state = state-filled unit f t.checks s.offsets;
  sums = ap₂ (sums_of t.bits) (edges-filled t.checks) (state-filled unit f t.checks s.offsets);
  entries = each-filled unit f _ t.checks s.offsets;
  depths = each-filled unit f _ t.checks s.offsets;
  word = ap (λ rs. certify (without_empty t) l rs (candidate t.bits f)) (rows-filled unit f t.checks s.offsets)
      ∙ certify-filled t l (rows_of t.checks (entries_in (steps_in t l s))) (candidate t.bits f);
})
  where
    f : ℕ → ℤ
    f = spin unit (edges t.checks) l s

    by : List ℕ → Rattle.rules.specs.Round.Round
    by es = round_by (without_empty t) l (spin unit es l s) (pass unit (spin unit es l s) (filled t.checks) s.offsets)

-- ---- 13 for an entry that names it, "as no odd mask fits"
no-mask : (mask : ℕ) → mask_right 0 mask ≡ false
no-mask mask = go (mask_right 0 mask) refl
  where
    go : (b : Bool) → mask_right 0 mask ≡ b → b ≡ false
    go true e = absurd (false≢true (mask-odd 0 mask e))
    go false e = refl

pub empty-refused : {A : Type 0} (t : Table) (p : Option Item) (i : Item) (a : Answer A) → members_at t i.check ≡ [] → on_item t p i a ≡ names_empty t i
unfolding on_item
empty-refused t p i a e =
    ap (must (ltb i.check (checks_of t) && in_range 1 max_multiplier i.multiplier) entry_range)
    (must-false (mask_right (length (members_at t i.check)) i.mask) mask_wrong (must (follows p i) entry_order a) (ap (λ ms. mask_right (length ms) i.mask) e ∙ no-mask i.mask))

-- ---- d − 2 never counts at an empty check: a bound's rows have odd sets, and so members
some-member : (vs : List Bool) (ms : List ℕ) → odd vs ≡ true → Alike vs ms → 1 ≤ length ms
some-member vs [] o h = absurd (false≢true (sym (empty-even vs h) ∙ o))
some-member vs (m ∷ ms) o h = omega arith

good-filled : (rs : List Row) → Good rs → AllFilled rs
good-filled [] h = tt
good-filled (r ∷ rs) h = (some-member r.set r.members h.0 h.1, good-filled rs h.2)

-- of a round
pub round-rows : (t : Table) (l : List ℤ) (s : State) → AllFilled (rows_of t.checks (round t l s).entries)
round-rows t l s = good-filled (rows_of t.checks (round t l s).entries) (round-good t l s)

-- and of a certificate that the judge doesn't refuse, whoever wrote it: those that a run writes among them (`written-passes`)
pub judged-rows : {file : List ℕ} {l : List ℤ} {w bs : List ℕ} {v : Verdict} (j : Judged file l w bs v) → AllFilled (rows_at j.table (items_of bs))
judged-rows {bs = bs} j = good-filled (rows_at j.table (items_of bs)) j.good
