-- The bytes of a certificate: one check more, all parts, and the whole written or refused. Assumes nothing.
use mathlib.Core.Path.{◌≡◌, refl, sym, ◌∙◌, ap, ap₂}
use mathlib.Core.Bool.{Bool, true, false, cond}
use mathlib.Core.List.{List, [], ◌∷◌, ◌++◌}
use Prim.Native.Nat.{ℕ, suc, ◌+◌, ◌*◌, ◌≤◌, ◌<◌, zero-le}
use native.Mathlib.Omega.{arith}
use native.Mathlib.Numerals.{add-one}
use lib.Dec.{eqb}
use lib.ListN.{length, get_or, drop, length-append, drop_of_length-le}
use lib.Seq.{sets}
use Rattle.std.proofs.Common.{◌⊎◌, inl, inr, not}
use Rattle.std.specs.List.{count_by}
use Rattle.std.proofs.lemmas.Bool.Decides.{nat_tests}
use Rattle.std.proofs.lemmas.List.Recursion.{is_count_by}
use Rattle.rules.specs.Limits.{max_checks, certificate_length}
use Rattle.rules.specs.Refusal.{must}
use Rattle.rules.specs.Bytes.{le16, le32}
use Rattle.rules.specs.Buffers.{over}
use Rattle.rules.proofs.StoreLaws.{drop-next, sets-next, sets_over}
use Rattle.writing.specs.Written.{if_cut, PutAt, cuts_from, contents_from, bodies_from, certificate_from, certificate_written}

-- ---- what a check writes, if its mask is not 0
pub if-most : (k n : ℕ) (xs : List ℕ) → length xs ≤ n → length (if_cut k xs) ≤ n
if-most k n xs h = go (eqb k 0)
  where
    go : (b : Bool) → length (cond b [] xs) ≤ n
    go true = omega arith
    go false = h

-- ---- how many cuts
abbrev pub is_cut : ℕ → Bool
is_cut k = not (eqb k 0)

cut-counts : (b : Bool) (n : ℕ) → cond b 0 1 + n ≡ cond (not b) (1 + n) n
cut-counts true n = omega arith
cut-counts false n = refl

pub cuts-count : (ks : List ℕ) → cuts_from ks ≡ count_by is_cut ks
unfolding cuts_from
cuts-count = is_count_by cuts_from is_cut refl (λ k ks. cut-counts (eqb k 0) (cuts_from ks))

-- ---- contents
contents-cons : (j b : ℕ) (bs : List ℕ) (k : ℕ) (ks : List ℕ) → contents_from j (b ∷ bs) (k ∷ ks) ≡ if_cut k (le16 j ++ le32 b) ++ contents_from (suc j) bs ks
unfolding contents_from
contents-cons j b bs k ks = refl

pub contents-next : {bs bs' ks ks' : List ℕ} {i j i' b k : ℕ} → bs ≡ b ∷ bs' → ks ≡ k ∷ ks' → j ≡ i → i' ≡ i + 1 → contents_from i bs ks ≡ if_cut k (le16 j ++ le32 b) ++ contents_from i' bs' ks'
contents-next {bs} {bs'} {ks} {ks'} {i} {j} {i'} {b} {k} p q e g = ap₂ (contents_from i) p q ∙ contents-cons i b bs' k ks'
    ∙ ap₂ (λ x y. if_cut k (le16 x ++ le32 b) ++ contents_from y bs' ks') (sym e) (sym (g ∙ add-one i))

pub contents-end : (j : ℕ) (bs ks : List ℕ) → (length bs ≡ 0) ⊎ (length ks ≡ 0) → contents_from j bs ks ≡ []
unfolding contents_from
contents-end j [] ks h = refl
contents-end j (b ∷ bs) [] h = refl
contents-end j (b ∷ bs) (k ∷ ks) (inl e) = absurd (omega arith)
contents-end j (b ∷ bs) (k ∷ ks) (inr e) = absurd (omega arith)

contents-most : (j : ℕ) (bs ks : List ℕ) → length (contents_from j bs ks) ≤ 6 * length ks
unfolding contents_from
contents-most j [] ks = zero-le
contents-most j (b ∷ bs) [] = zero-le
contents-most j (b ∷ bs) (k ∷ ks) =
    let xs = le16 j ++ le32 b in
    omega (arith, length-append (if_cut k xs) (contents_from (suc j) bs ks), if-most k 6 xs (omega arith), contents-most (suc j) bs ks)

-- ---- bodies
bodies-cons : (k : ℕ) (ks : List ℕ) → bodies_from (k ∷ ks) ≡ if_cut k (le32 k) ++ bodies_from ks
unfolding bodies_from
bodies-cons k ks = refl

bodies-nil : bodies_from [] ≡ []
unfolding bodies_from
bodies-nil = refl

pub bodies-next : (ks : List ℕ) (j : ℕ) → j < length ks → bodies_from (drop j ks) ≡ if_cut (get_or ks j 0) (le32 (get_or ks j 0)) ++ bodies_from (drop (j + 1) ks)
bodies-next ks j h = ap bodies_from (drop-next ks j 0 h) ∙ bodies-cons (get_or ks j 0) (drop (j + 1) ks)

pub bodies-end : (ks : List ℕ) (j : ℕ) → length ks ≤ j → bodies_from (drop j ks) ≡ []
bodies-end ks j h = ap bodies_from (drop_of_length-le ks h) ∙ bodies-nil

bodies-most : (ks : List ℕ) → length (bodies_from ks) ≤ 4 * length ks
unfolding bodies_from
bodies-most [] = zero-le
bodies-most (k ∷ ks) = omega (arith, length-append (if_cut k (le32 k)) (bodies_from ks), if-most k 4 (le32 k) (omega arith), bodies-most ks)

-- where the bodies begin
pub contents-stop : (bs ks : List ℕ) (r : ℕ) → r ≡ 4 + length (contents_from 0 bs ks) → r ≤ 4 + 6 * length ks
contents-stop bs ks r e = omega (arith, contents-most 0 bs ks)

-- ---- the parts, written one after the other
pub record InTurn (bs ks c c1 c2 c3 : List ℕ) (r : ℕ) (c4 : List ℕ) : Type 0 where
  pub count : c1 ≡ sets c 0 (le16 (cuts_from ks))
  pub scale : c2 ≡ sets c1 2 (le16 1)
  pub contents : PutAt c2 4 (contents_from 0 bs ks) c3 r
  pub bodies : c4 ≡ sets c3 r (bodies_from ks)

pub certificate-all : {bs ks c c1 c2 c3 c4 : List ℕ} {r : ℕ} → 4 + 10 * length ks ≤ length c → InTurn bs ks c c1 c2 c3 r c4 → c4 ≡ over (certificate_from bs ks) c
unfolding certificate_from
certificate-all {bs} {ks} {c} {c1} {c2} {c3} {c4} {r} h p =
    let head = le16 (cuts_from ks) ++ le16 1 in
    let most : length (head ++ contents_from 0 bs ks ++ bodies_from ks) ≤ length c =
    omega (arith, length-append (head ++ contents_from 0 bs ks) (bodies_from ks), length-append head (contents_from 0 bs ks), contents-most 0 bs ks, bodies-most ks) in
    let two : c2 ≡ sets c 0 head = p.scale ∙ sets-next c c1 0 2 (le16 (cuts_from ks)) (le16 1) p.count refl in
    let three : c3 ≡ sets c 0 (head ++ contents_from 0 bs ks) = p.contents.0 ∙ sets-next c c2 0 4 head (contents_from 0 bs ks) two refl in
    p.bodies ∙ sets-next c c3 0 r (head ++ contents_from 0 bs ks) (bodies_from ks) three (omega (arith, p.contents.1, length-append head (contents_from 0 bs ks)))
    ∙ sets_over c (head ++ contents_from 0 bs ks ++ bodies_from ks) most

-- ---- written
module _ (bs ks c : List ℕ) (few : length ks ≤ max_checks) (even : length bs ≡ length ks) where
  pub certificate-whole : certificate_length (length ks) ≤ length c → certificate_written bs ks c ≡ record { number = 0; bytes = over (certificate_from bs ks) c }
  unfolding certificate_written must
  certificate-whole h = grind (arith, nat_tests)
