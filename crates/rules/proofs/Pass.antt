-- The pass over all checks: each check's step is as long as the check. Assumes nothing.
use mathlib.Core.Path.{◌≡◌, refl, sym, ◌∙◌, ap, ap₂}
use mathlib.Core.Bool.{true}
use mathlib.Core.Logic.{◌↔◌}
use mathlib.Core.List.{List, [], ◌∷◌, ◌++◌}
use Prim.Native.Nat.{ℕ, zero, suc, ◌+◌, ◌*◌, ◌^◌, ◌≤◌}
use native.Mathlib.Omega.{arith}
use native.Mathlib.Nat.{le-add_right}
use lib.ListN.{length, get_or, take, drop, length-append, length-map}
use lib.IntN.{ℤ}
use Rattle.integers.specs.Linear.{Within}
use Rattle.integers.specs.Order.{within_wider, within-add}
use Rattle.integers.specs.Sum.{AllWithin}
use Rattle.rules.specs.Limits.{unit}
use Rattle.rules.specs.Table.{Table, edges}
use Rattle.rules.specs.Parity.{odd, Alike}
use Rattle.rules.specs.Cut.{cut, depth}
use Rattle.rules.specs.Step.{Entry, inactive, active, Step, step}
use Rattle.rules.specs.Bound.{Row, rows_of}
use Rattle.rules.specs.Round.{State, spin, values, pass, copies_in, offsets_in, entries_in, depths_in, round}
use Rattle.rules.specs.Buffers.{multiplier_of}
use Rattle.rules.proofs.Signs.{alike-sym, alike-trans, alike-length}
use Rattle.rules.proofs.Steps.{Proper, Shape, step-shape, values_after, depth-again, cut_in, set-again, step-depth-most, step-inactive⇔}

pub state-eq : {a b y z : List ℤ} → a ≡ b → y ≡ z → ◌≡◌ {A = State} (record { copies = a; offsets = y }) (record { copies = b; offsets = z })
state-eq p q = λ i. record { copies = p i; offsets = q i }

pub values-alike : (f : ℕ → ℤ) (ms : List ℕ) (ys : List ℤ) → Alike ms (values f ms ys)
values-alike f [] ys = tt
values-alike f (m ∷ ms) [] = values-alike f ms []
values-alike f (m ∷ ms) (y ∷ ys) = values-alike f ms ys

-- ---- check by check
pub record Laid (u : ℕ) (ms : List ℕ) (s : Step) : Type 0 where
  pub copies : Alike ms s.copies
  pub offsets : Alike ms s.offsets
  pub within : AllWithin u s.copies
  pub proper : Proper ms s.entry

abbrev pub AllLaid : ℕ → List (List ℕ) → List Step → Type 0
AllLaid u [] [] = Unit {0}
AllLaid u [] (s ∷ ss) = ⊥
AllLaid u (ms ∷ cs) [] = ⊥
AllLaid u (ms ∷ cs) (s ∷ ss) = Laid u ms s × AllLaid u cs ss

proper-on : {A B : Type 0} (xs : List A) (ys : List B) (e : Entry) → Alike xs ys → Proper xs e → Proper ys e
proper-on xs ys inactive h p = tt
proper-on xs ys (active b ts) h p = (p.0, alike-trans ts xs ys p.1 h, p.2)

step-laid : (u : ℕ) (f : ℕ → ℤ) (ms : List ℕ) (ys : List ℤ) → Laid u ms (step u (values f ms ys))
step-laid u f ms ys = record {
  copies = alike-trans ms (values f ms ys) (step u (values f ms ys)).copies (values-alike f ms ys) s.copies;
  offsets = alike-trans ms (values f ms ys) (step u (values f ms ys)).offsets (values-alike f ms ys) s.offsets;
  within = s.within;
  proper = proper-on (values f ms ys) ms (step u (values f ms ys)).entry (alike-sym ms (values f ms ys) (values-alike f ms ys)) s.proper;
}
  where
    s : Shape u (values f ms ys) (step u (values f ms ys))
    s = step-shape u (values f ms ys)

pub pass-laid : (u : ℕ) (f : ℕ → ℤ) (cs : List (List ℕ)) (ys : List ℤ) → AllLaid u cs (pass u f cs ys)
pass-laid u f [] ys = tt
pass-laid u f (ms ∷ cs) ys = (step-laid u f ms ys, pass-laid u f cs (drop (length ms) ys))

-- a round's spins, and its steps
abbrev pub spins_in : Table → List ℤ → State → ℕ → ℤ
spins_in t l s = spin unit (edges t.checks) l s

abbrev pub steps_in : Table → List ℤ → State → List Step
steps_in t l s = pass unit (spins_in t l s) t.checks s.offsets

pub steps-laid : (t : Table) (l : List ℤ) (s : State) → AllLaid unit t.checks (steps_in t l s)
steps-laid t l s = pass-laid unit (spins_in t l s) t.checks s.offsets

-- ---- lengths
steps-length : (u : ℕ) (cs : List (List ℕ)) (ss : List Step) → AllLaid u cs ss → length ss ≡ length cs
steps-length u [] [] h = refl
steps-length u [] (s ∷ ss) h = absurd h
steps-length u (ms ∷ cs) [] h = absurd h
steps-length u (ms ∷ cs) (s ∷ ss) h = ap suc (steps-length u cs ss h.1)

pub entries-length : (u : ℕ) (cs : List (List ℕ)) (ss : List Step) → AllLaid u cs ss → length (entries_in ss) ≡ length cs
entries-length u cs ss h = length-map ss _ ∙ steps-length u cs ss h

pub depths-length : (u : ℕ) (cs : List (List ℕ)) (ss : List Step) → AllLaid u cs ss → length (depths_in ss) ≡ length cs
depths-length u cs ss h = length-map ss _ ∙ steps-length u cs ss h

part_length : (ms : List ℕ) (zs more : List ℤ) (es : List ℕ) → Alike ms zs → length more ≡ length es → length (zs ++ more) ≡ length (ms ++ es)
part_length ms zs more es h e = length-append zs more ∙ ap₂ ◌+◌ (alike-length ms zs h) e ∙ sym (length-append ms es)

pub copies_length : (u : ℕ) (cs : List (List ℕ)) (ss : List Step) → AllLaid u cs ss → length (copies_in ss) ≡ length (edges cs)
copies_length u [] [] h = refl
copies_length u [] (s ∷ ss) h = absurd h
copies_length u (ms ∷ cs) [] h = absurd h
copies_length u (ms ∷ cs) (s ∷ ss) h = part_length ms s.copies (copies_in ss) (edges cs) h.0.copies (copies_length u cs ss h.1)

pub offsets-length : (u : ℕ) (cs : List (List ℕ)) (ss : List Step) → AllLaid u cs ss → length (offsets_in ss) ≡ length (edges cs)
offsets-length u [] [] h = refl
offsets-length u [] (s ∷ ss) h = absurd h
offsets-length u (ms ∷ cs) [] h = absurd h
offsets-length u (ms ∷ cs) (s ∷ ss) h = part_length ms s.offsets (offsets_in ss) (edges cs) h.0.offsets (offsets-length u cs ss h.1)

-- ---- the rows of a pass: odd sets, as long as their checks
abbrev pub Good : List Row → Type 0
Good [] = Unit {0}
Good (r ∷ rs) = (odd r.set ≡ true) × Alike r.set r.members × Good rs

pub rows-good : (u : ℕ) (cs : List (List ℕ)) (ss : List Step) → AllLaid u cs ss → Good (rows_of cs (entries_in ss))
rows-good u [] ss h = tt
rows-good u (ms ∷ cs) [] h = absurd h
rows-good u (ms ∷ cs) (s ∷ ss) h = go s.entry h.0.proper (rows-good u cs ss h.1)
  where
    go : (e : Entry) → Proper ms e → Good (rows_of cs (entries_in ss)) → Good (rows_of (ms ∷ cs) (e ∷ entries_in ss))
    go inactive p g = g
    go (active b ts) p g = (p.0, p.1, g)

-- ---- limits
pub append-within : (m : ℕ) (xs ys : List ℤ) → AllWithin m xs → AllWithin m ys → AllWithin m (xs ++ ys)
append-within m [] ys h k = k
append-within m (x ∷ xs) ys h k = (h.0, append-within m xs ys h.1 k)

pub drop-within : (m k : ℕ) (ys : List ℤ) → AllWithin m ys → AllWithin m (drop k ys)
drop-within m zero ys h = h
drop-within m (suc k) [] h = tt
drop-within m (suc k) (y ∷ ys) h = drop-within m k ys h.1

pub take_within : (m k : ℕ) (ys : List ℤ) → AllWithin m ys → AllWithin m (take k ys)
take_within m zero ys h = tt
take_within m (suc k) [] h = tt
take_within m (suc k) (y ∷ ys) h = (h.0, take_within m k ys h.1)

-- a wider limit
pub all-wider : (a b : ℕ) (xs : List ℤ) → a ≤ b → AllWithin a xs → AllWithin b xs
all-wider a b [] h w = tt
all-wider a b (x ∷ xs) h w = (within_wider a b x h w.0, all-wider a b xs h w.1)

pub copies-within : (u : ℕ) (cs : List (List ℕ)) (ss : List Step) → AllLaid u cs ss → AllWithin u (copies_in ss)
copies-within u [] [] h = tt
copies-within u [] (s ∷ ss) h = absurd h
copies-within u (ms ∷ cs) [] h = absurd h
copies-within u (ms ∷ cs) (s ∷ ss) h = append-within u s.copies (copies_in ss) h.0.within (copies-within u cs ss h.1)

pub values-within : (u m : ℕ) (f : ℕ → ℤ) (ms : List ℕ) (ys : List ℤ) → ((i : ℕ) → Within u (f i)) → AllWithin m ys → AllWithin (u + m) (values f ms ys)
values-within u m f [] ys w h = tt
values-within u m f (i ∷ ms) [] w h = (within_wider u (u + m) (f i) (le-add_right u m) (w i), values-within u m f ms [] w h)
values-within u m f (i ∷ ms) (y ∷ ys) w h = (within-add u m (f i) y (w i) h.0, values-within u m f ms ys w h.1)

-- every multiplier is at most n
abbrev pub AtMost : ℕ → List Entry → Type 0
AtMost n [] = Unit {0}
AtMost n (e ∷ es) = (multiplier_of e ≤ n) × AtMost n es

module _ (u m : ℕ) (f : ℕ → ℤ) (w : (i : ℕ) → Within u (f i)) where
  pub offsets-within : (cs : List (List ℕ)) (ys : List ℤ) → AllWithin m ys → AllWithin (u + m + u) (offsets_in (pass u f cs ys))
  offsets-within [] ys h = tt
  offsets-within (ms ∷ cs) ys h = append-within (u + m + u) (step u (values f ms ys)).offsets (offsets_in (pass u f cs (drop (length ms) ys)))
      ((step-shape u (values f ms ys)).limit (u + m) (values-within u m f ms ys w h)) (offsets-within cs (drop (length ms) ys) (drop-within m (length ms) ys h))

  pub multipliers-within : (cs : List (List ℕ)) (ys : List ℤ) → AllWithin m ys → u + (u + m) ≤ 2 ^ 24 → AtMost (u + (u + m)) (entries_in (pass u f cs ys))
  multipliers-within [] ys h k = tt
  multipliers-within (ms ∷ cs) ys h k = (
    (step-shape u (values f ms ys)).priced (u + m) (values-within u m f ms ys w h) k,
    multipliers-within cs (drop (length ms) ys) (drop-within m (length ms) ys h) k,
  )

-- ---- the depths, check by check (document 02, #101): 0 is that of a check without a cut, and none is above 2U
module _ (u : ℕ) (f : ℕ → ℤ) where
  depth-inactive⇔ : (cs : List (List ℕ)) (ys : List ℤ) (j : ℕ) → (get_or (depths_in (pass u f cs ys)) j 0 ≡ 0) ↔ (get_or (entries_in (pass u f cs ys)) j inactive ≡ inactive)
  depth-inactive⇔ [] ys j = (λ _. refl, λ _. refl)
  depth-inactive⇔ (ms ∷ cs) ys zero = step-inactive⇔ u (values f ms ys)
  depth-inactive⇔ (ms ∷ cs) ys (suc j) = depth-inactive⇔ cs (drop (length ms) ys) j

  depths-most : (cs : List (List ℕ)) (ys : List ℤ) (j : ℕ) → get_or (depths_in (pass u f cs ys)) j 0 ≤ 2 * u
  depths-most [] ys j = omega arith
  depths-most (ms ∷ cs) ys zero = step-depth-most u (values f ms ys)
  depths-most (ms ∷ cs) ys (suc j) = depths-most cs (drop (length ms) ys) j

-- each step's set and depth are the cut search's at what the step leaves
abbrev pub AllAgain : ℕ → List Step → Type 0
AllAgain u [] = Unit {0}
AllAgain u (s ∷ ss) = (cut_in s.entry ≡ cut u (values_after u s)) × (s.depth ≡ depth u (values_after u s)) × AllAgain u ss

pass-again : (u : ℕ) (f : ℕ → ℤ) (cs : List (List ℕ)) (ys : List ℤ) → AllAgain u (pass u f cs ys)
pass-again u f [] ys = tt
pass-again u f (ms ∷ cs) ys = (set-again u (values f ms ys), depth-again u (values f ms ys), pass-again u f cs (drop (length ms) ys))

-- "Each round leaves its checks' depths, 0 for none"
module _ (t : Table) (l : List ℤ) (s : State) where
  pub round-depth⇔ : (j : ℕ) → (get_or (round t l s).depths j 0 ≡ 0) ↔ (get_or (round t l s).entries j inactive ≡ inactive)
  unfolding round
  round-depth⇔ j = depth-inactive⇔ unit (spins_in t l s) t.checks s.offsets j

  pub round-depth-most : (j : ℕ) → get_or (round t l s).depths j 0 ≤ 2 * unit
  unfolding round
  round-depth-most j = depths-most unit (spins_in t l s) t.checks s.offsets j

  -- copies, offsets, entries and depths of a round are those of its steps
  pub round-again : AllAgain unit (steps_in t l s)
  round-again = pass-again unit (spins_in t l s) t.checks s.offsets
