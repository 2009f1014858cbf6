-- Sums of z − y: edge by edge they become what each bit gathers, and stay within 32 bits. Assumes nothing.
use mathlib.Core.Path.{◌≡◌, refl, sym, ◌∙◌, ap, ap₂, subst}
use mathlib.Core.Bool.{Bool, true, false, cond}
use mathlib.Core.List.{List, [], ◌∷◌, ◌++◌}
use Prim.Native.Nat.{ℕ, ◌+◌, ◌-◌, ◌*◌, ◌≤◌, ◌<◌}
use native.Mathlib.Nat.{suc_inj, zero-add}
use native.Mathlib.Numerals.{add-one}
use native.Mathlib.Omega.{arith}
use native.Mathlib.Decide.{ℕ_discrete}
use lib.Dec.{eqb}
use lib.ListN.{length, get_or, drop, set, length-set, length-replicate, get_or-replicate, drop_of_length-le}
use lib.Seq.{get_or-set_same, get_or-set_other, drop-cons, ext_get_or}
use lib.IntN.{ℤ, pos, ◌+ℤ◌, +ℤ_idl}
use mir.Syntax.{w32}
use mir.Val.{SFits}
use borrow.Author.Tests.{eq-eqb, ne_eqb}
use Rattle.integers.specs.Linear.{lin, arith_z, Within}
use Rattle.integers.specs.Order.{within-zero}
use Rattle.integers.specs.Sum.{AllWithin, pick}
use Rattle.rules.specs.Limits.{max_bit_degree, weight_limit, sum_limit}
use Rattle.rules.specs.Table.{degree_of, at}
use Rattle.rules.specs.Sound.{Below}
use Rattle.rules.specs.Bound.{gather}
use Rattle.rules.specs.Round.{first_of}
use Rattle.rules.specs.Buffers.{zeros}
use Rattle.rules.specs.Scatter.{scatter, Room, Added}
use Rattle.rules.proofs.RoundSizes.{first-length, first-at}
use Rattle.rules.proofs.ScatterLaws.{scatter-length, scatter-gather}

-- ---- room
-- one edge less to come: its own bit's sum has grown by its weight
grown : (d : ℕ) (x w : ℤ) → 1 + d ≤ max_bit_degree → Within (weight_limit * (max_bit_degree - (1 + d))) x → Within weight_limit w → Within (weight_limit * (max_bit_degree - d)) (x +ℤ w)
grown d x w = simp lin (omega arith_z)

room_next : {m : ℕ} {ms : List ℕ} {ls : List ℤ} (w : ℤ) → Room (m ∷ ms) ls → m < length ls → Within weight_limit w → Room ms (set ls m (at ls m +ℤ w))
room_next {m} {ms} {ls} w r h b = record {
  few = λ i k. fewer (cond (eqb m i) 1 0) (degree_of i ms) (r.few i (inside i k));
  sizes = λ i k. go i (inside i k) (ℕ_discrete m i);
}
  where
    inside : (i : ℕ) → i < length (set ls m (at ls m +ℤ w)) → i < length ls
    inside i k = omega (arith, length-set ls m (at ls m +ℤ w))

    fewer : (a d : ℕ) → a + d ≤ max_bit_degree → d ≤ max_bit_degree
    fewer a d k = omega arith

    go : (i : ℕ) → i < length ls → Dec (m ≡ i) → Within (weight_limit * (max_bit_degree - degree_of i ms)) (at (set ls m (at ls m +ℤ w)) i)
    go i k (yes e) =
        let one : degree_of i (m ∷ ms) ≡ 1 + degree_of i ms = ap (λ b. cond b 1 0 + degree_of i ms) (eq-eqb m i e) in
        let read : at (set ls m (at ls m +ℤ w)) i ≡ at ls i +ℤ w = ap (at (set ls m (at ls m +ℤ w))) (sym e) ∙ get_or-set_same ls m (at ls m +ℤ w) (pos 0) h ∙ ap (λ j. at ls j +ℤ w) e in
        subst (Within (weight_limit * (max_bit_degree - degree_of i ms))) (sym read)
        (grown (degree_of i ms) (at ls i) w (subst (λ d. d ≤ max_bit_degree) one (r.few i k)) (subst (λ d. Within (weight_limit * (max_bit_degree - d)) (at ls i)) one (r.sizes i k)) b)
    go i k (no f) =
        let none : degree_of i (m ∷ ms) ≡ degree_of i ms = ap (λ b. cond b 1 0 + degree_of i ms) (ne_eqb m i f) ∙ zero-add (degree_of i ms) in
        subst (Within (weight_limit * (max_bit_degree - degree_of i ms))) (sym (get_or-set_other ls m i (at ls m +ℤ w) (pos 0) (λ e. f (sym e))))
        (subst (λ d. Within (weight_limit * (max_bit_degree - d)) (at ls i)) none (r.sizes i k))

fits_more : (d : ℕ) (x w : ℤ) → Within (weight_limit * (max_bit_degree - d)) x → Within weight_limit w → SFits w32 (x +ℤ w)
fits_more d x w = simp lin (omega arith_z)

degree-++ : (i : ℕ) (xs ys : List ℕ) → degree_of i (xs ++ ys) ≡ degree_of i xs + degree_of i ys
degree-++ i [] ys = sym (zero-add (degree_of i ys))
degree-++ i (x ∷ xs) ys = ap (λ n. cond (eqb x i) 1 0 + n) (degree-++ i xs ys) ∙ regroup (cond (eqb x i) 1 0) (degree_of i xs) (degree_of i ys)
  where
    regroup : (a b c : ℕ) → a + (b + c) ≡ a + b + c
    regroup a b c = omega arith

-- room for all is room for the first
pub room-first : (xs ys : List ℕ) {ls : List ℤ} → Room (xs ++ ys) ls → Room xs ls
room-first xs ys {ls} r = record {
  few = λ i k. fewer (degree_of i xs) (degree_of i ys) (subst (λ d. d ≤ max_bit_degree) (degree-++ i xs ys) (r.few i k));
  sizes = λ i k. wider (degree_of i xs) (degree_of i ys) (at ls i) (subst (λ d. Within (weight_limit * (max_bit_degree - d)) (at ls i)) (degree-++ i xs ys) (r.sizes i k));
}
  where
    fewer : (a b : ℕ) → a + b ≤ max_bit_degree → a ≤ max_bit_degree
    fewer a b h = omega arith

    wider : (a b : ℕ) (x : ℤ) → Within (weight_limit * (max_bit_degree - (a + b))) x → Within (weight_limit * (max_bit_degree - a)) x
    wider a b x = simp lin (omega arith_z)

-- and once those are added, for the others
room-rest : (xs ys : List ℕ) (us ls : List ℤ) → length us ≡ length xs → Below (length ls) xs → AllWithin weight_limit us → Room (xs ++ ys) ls → Room ys (scatter xs us ls)
room-rest [] ys [] ls e b w r = r
room-rest [] ys (u ∷ us) ls e b w r = absurd (omega arith)
room-rest (x ∷ xs) ys [] ls e b w r = absurd (omega arith)
room-rest (x ∷ xs) ys (u ∷ us) ls e b w r =
    room-rest xs ys us (set ls x (at ls x +ℤ u)) (suc_inj e) (subst (λ n. Below n xs) (sym (length-set ls x (at ls x +ℤ u))) b.1) w.1 (room_next u r b.0 w.0)

-- zeros have room for every edge of a table
pub zeros-room : (n : ℕ) (ms : List ℕ) → ((i : ℕ) → i < n → degree_of i ms ≤ max_bit_degree) → Room ms (zeros n)
zeros-room n ms h = record {
  few = λ i k. h i (below i k);
  sizes = λ i k. subst (Within (weight_limit * (max_bit_degree - degree_of i ms)))
      (sym (get_or-replicate n i (pos 0) (pos 0) (below i k))) (within-zero (weight_limit * (max_bit_degree - degree_of i ms)));
}
  where
    below : (i : ℕ) → i < length (zeros n) → i < n
    below i k = omega (arith, length-replicate n (pos 0))

-- ---- edge after edge
scatter-none : (ws ls : List ℤ) → scatter [] ws ls ≡ ls
scatter-none [] ls = refl
scatter-none (w ∷ ws) ls = refl

module _ {ms : List ℕ} {ws : List ℤ} where
  pub added_none : {ls : List ℤ} → Room ms ls → Added ms ws ls 0 ls
  added_none r = record { long = refl; numbers = refl; room = r }

  module _ {ls₀ ls : List ℤ} {k : ℕ} (p : Added ms ws ls₀ k ls) where
    pub added-all : length ms ≤ k → ls ≡ scatter ms ws ls₀
    added-all h = sym (scatter-none (drop k ws) ls) ∙ ap (λ l. scatter l (drop k ws) ls) (sym (drop_of_length-le ms h)) ∙ p.numbers

    -- the next edge: its member, and its weight
    module _ (h : k < length ms) (i : k < length ws) (inside : get_or ms k 0 < length ls) (w : Within weight_limit (at ws k)) where
      next : drop k ms ≡ get_or ms k 0 ∷ drop (k + 1) ms
      next = drop-cons ms k 0 h ∙ ap (λ n. get_or ms k 0 ∷ drop n ms) (sym (add-one k))

      weight : drop k ws ≡ at ws k ∷ drop (k + 1) ws
      weight = drop-cons ws k (pos 0) i ∙ ap (λ n. at ws k ∷ drop n ws) (sym (add-one k))

      pub added-fits : SFits w32 (at ls (get_or ms k 0) +ℤ at ws k)
      added-fits = fits_more (degree_of (get_or ms k 0) (drop k ms)) (at ls (get_or ms k 0)) (at ws k) (p.room.sizes (get_or ms k 0) inside) w

      pub added_more : {y : ℤ} → y ≡ at ls (get_or ms k 0) +ℤ at ws k → Added ms ws ls₀ (k + 1) (set ls (get_or ms k 0) y)
      added_more {y} e = record {
        long = length-set ls (get_or ms k 0) y ∙ p.long;
        numbers = ap (λ z. scatter (drop (k + 1) ms) (drop (k + 1) ws) (set ls (get_or ms k 0) z)) e ∙ ap₂ (λ l v. scatter l v ls) (sym next) (sym weight) ∙ p.numbers;
        room = subst (λ z. Room (drop (k + 1) ms) (set ls (get_or ms k 0) z)) (sym e) (room_next (at ws k) (subst (λ l. Room l ls) next p.room) inside w);
      }

-- ---- several edges at once
scatter-++ : (xs ys : List ℕ) (us vs ls : List ℤ) → length us ≡ length xs → scatter (xs ++ ys) (us ++ vs) ls ≡ scatter ys vs (scatter xs us ls)
scatter-++ [] ys [] vs ls e = refl
scatter-++ [] ys (u ∷ us) vs ls e = absurd (omega arith)
scatter-++ (x ∷ xs) ys [] vs ls e = absurd (omega arith)
scatter-++ (x ∷ xs) ys (u ∷ us) vs ls e = scatter-++ xs ys us vs (set ls x (at ls x +ℤ u)) (suc_inj e)

-- those from k on begin with xs and us
pub added-part : {ms : List ℕ} {ws ls₀ ls : List ℤ} {k : ℕ} (j : ℕ) (xs : List ℕ) (us : List ℤ) → Added ms ws ls₀ k ls
    → drop k ms ≡ xs ++ drop j ms → drop k ws ≡ us ++ drop j ws → length us ≡ length xs → Below (length ls) xs → AllWithin weight_limit us → Added ms ws ls₀ j (scatter xs us ls)
added-part {ms} {ws} {ls₀} {ls} j xs us p e f g b w = record {
  long = scatter-length xs us ls ∙ p.long;
  numbers = sym (scatter-++ xs (drop j ms) us (drop j ws) ls g) ∙ ap₂ (λ l v. scatter l v ls) (sym e) (sym f) ∙ p.numbers;
  room = room-rest xs (drop j ms) us ls g b w (subst (λ l. Room l ls) e p.room);
}

-- ---- from zero, the sums of all edges
pub scatter-sums : (n : ℕ) (ms : List ℕ) (ws : List ℤ) → scatter ms ws (zeros n) ≡ first_of n (λ i. gather i ms ws)
scatter-sums n ms ws = ext_get_or (pos 0) (scatter ms ws (zeros n)) (first_of n (λ i. gather i ms ws)) (long ∙ sym (first-length n (λ i. gather i ms ws)))
    (λ i h. at_place i (omega (arith, long)))
  where
    long : length (scatter ms ws (zeros n)) ≡ n
    long = scatter-length ms ws (zeros n) ∙ length-replicate n (pos 0)

    at_place : (i : ℕ) → i < n → at (scatter ms ws (zeros n)) i ≡ at (first_of n (λ i. gather i ms ws)) i
    at_place i h = scatter-gather ms ws (zeros n) i (omega (arith, length-replicate n (pos 0))) ∙ ap (λ x. x +ℤ gather i ms ws) (get_or-replicate n i (pos 0) (pos 0) h)
        ∙ +ℤ_idl (gather i ms ws) ∙ sym (first-at n (λ i. gather i ms ws) i h)

-- ---- a bit's sum is within its degree times the limit of a weight
within-one : (b n : ℕ) (t : Bool) (w g : ℤ) → Within b w → Within (b * n) g → Within (b * (cond t 1 0 + n)) (pick t w +ℤ g)
within-one b n true w g = simp lin (omega arith_z)
within-one b n false w g = simp lin (omega arith_z)

gather-within : (b i : ℕ) (ms : List ℕ) (ws : List ℤ) → AllWithin b ws → Within (b * degree_of i ms) (gather i ms ws)
gather-within b i ms [] h = within-zero (b * degree_of i ms)
gather-within b i [] (w ∷ ws) h = within-zero (b * 0)
gather-within b i (m ∷ ms) (w ∷ ws) h = within-one b (degree_of i ms) (eqb m i) w (gather i ms ws) h.0 (gather-within b i ms ws h.1)

pub sum-within : (i : ℕ) (ms : List ℕ) (ws : List ℤ) → degree_of i ms ≤ max_bit_degree → AllWithin weight_limit ws → Within sum_limit (gather i ms ws)
sum-within i ms ws h w = wider (degree_of i ms) (gather i ms ws) h (gather-within weight_limit i ms ws w)
  where
    wider : (d : ℕ) (x : ℤ) → d ≤ max_bit_degree → Within (weight_limit * d) x → Within sum_limit x
    wider d x = simp lin (omega arith_z)
