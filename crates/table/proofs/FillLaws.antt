-- A loop that writes a slice: what is written, and what is left to write. Assumes nothing.
use mathlib.Core.Path.{◌≡◌, refl, sym, ◌∙◌, ap, ap₂}
use mathlib.Core.List.{List, [], ◌∷◌, ◌++◌, append_assoc}
use Prim.Native.Nat.{ℕ, suc, ◌+◌, ◌*◌, ◌-◌, ◌≤◌, ◌<◌}
use native.Mathlib.Omega.{arith}
use native.Mathlib.Numerals.{add-one}
use lib.ListN.{length, get_or, take, drop, set, take-append-drop}
use Rattle.std.proofs.Math.Seq.{take-suc-set, drop-cons, set-append_seam}
use Rattle.std.proofs.lemmas.List.{take_all, length-take-le, append-nil}
use Rattle.rules.specs.Limits.{contents_end}
use Rattle.rules.specs.Bytes.{u16_at}
use Rattle.rules.specs.CodeFile.{contents, numbers_at, bodies}
use Rattle.table.specs.Starts.{starts_of}
use Rattle.table.proofs.BodiesLaws.{bodies-more, bodies-end, numbers_more, numbers-end}
use Rattle.table.proofs.ContentsLaws.{total-more}
use Rattle.rules.proofs.FileLaws.{numbers-length}
use lib.Seq.{drop-set-lt}

pub written_more : (l : List ℕ) (k x : ℕ) (rest : List ℕ) → k < length l → take (k + 1) (set l k x) ++ rest ≡ take k l ++ (x ∷ rest)
written_more l k x rest h = ap (λ p. p ++ rest) (ap (λ n. take n (set l k x)) (add-one k) ∙ take-suc-set l k x h) ∙ append_assoc (take k l) (x ∷ []) rest

-- all n places are written
pub written_end : (l : List ℕ) (n k : ℕ) (rest : List ℕ) → length l ≡ n → n ≤ k → take k l ++ rest ≡ l ++ rest
written_end l n k rest e h = ap (λ p. p ++ rest) (take_all k l (omega arith))

-- the place after them
pub fill_next : (l s : List ℕ) (m x : ℕ) → length l ≡ m → m < length s → set (l ++ drop m s) m x ≡ (l ++ (x ∷ [])) ++ drop (m + 1) s
fill_next l s m x e h =
    ap₂ (λ r k. set (l ++ r) k x) (drop-cons s m 0 h) (sym e)
    ∙ set-append_seam l (get_or s m 0) (drop (suc m) s) x
    ∙ ap (λ k. l ++ (x ∷ drop k s)) (sym (add-one m))
    ∙ sym (append_assoc l (x ∷ []) (drop (m + 1) s))

-- ---- the starts that are left, s of the edges being past
starts-cons : (s : ℕ) (ms : List ℕ) (cs : List (List ℕ)) → starts_of s (ms ∷ cs) ≡ s ∷ starts_of (s + length ms) cs
unfolding starts_of
starts-cons s ms cs = refl

abbrev pub starts_left : List ℕ → ℕ → ℕ → ℕ → List ℕ
starts_left file m j s = starts_of s (bodies file (contents_end m + 2 * s) (contents file j (m - j)))

pub starts-left-more : (file : List ℕ) (m j s d : ℕ) → j < m → d ≡ u16_at file (6 + 4 * j) → starts_left file m j s ≡ s ∷ starts_left file m (j + 1) (s + d)
starts-left-more file m j s d h e =
    let a = contents_end m + 2 * s in
    let es = contents file (j + 1) (m - (j + 1)) in
    let next : a + 2 * d ≡ contents_end m + 2 * (s + d) = omega arith in
    ap (starts_of s) (bodies-more file m j a d h e)
    ∙ starts-cons s (numbers_at file a d) (bodies file (a + 2 * d) es)
    ∙ ap₂ (λ k b. s ∷ starts_of (s + k) (bodies file b es)) (numbers-length file a d) next

pub starts-left-end : (file : List ℕ) (m j s : ℕ) → m ≤ j → starts_left file m j s ≡ s ∷ []
unfolding starts_of
starts-left-end file m j s h = ap (starts_of s) (bodies-end file m j (contents_end m + 2 * s) h)

pub ruleset members_steps = (written_more, written_end, numbers_more, numbers-end, length-take-le, append-nil)

pub ruleset starts_steps = (written_more, written_end, fill_next, starts-left-more, starts-left-end, total-more, length-take-le)

-- No proof cites these any more, since the check finds what they say.
pub fill_more : (l : List ℕ) (k e x : ℕ) (rest : List ℕ) → k < e → k < length l → take (k + 1) (set l k x) ++ (rest ++ drop e (set l k x)) ≡ take k l ++ ((x ∷ rest) ++ drop e l)
fill_more l k e x rest h hl =
    ap₂ (λ p q. p ++ (rest ++ q)) (ap (λ n. take n (set l k x)) (add-one k) ∙ take-suc-set l k x hl) (drop-set-lt e l k x h)
    ∙ append_assoc (take k l) (x ∷ []) (rest ++ drop e l)

pub fill_end : (l : List ℕ) (k e : ℕ) → k ≡ e → take k l ++ ([] ++ drop e l) ≡ l
fill_end l k e h = ap (λ n. take n l ++ drop e l) h ∙ take-append-drop e l
