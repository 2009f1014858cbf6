-- Document 01's answers on a table that the code holds: the tests as one refusal's number, then the verdict, in the code's own numbers. Assumes nothing.
use mathlib.Core.Path.{◌≡◌, refl, sym, ◌∙◌, ap, ap₂}
use mathlib.Core.Bool.{Bool, cond, ◌&&◌}
use mathlib.Core.List.{List, ◌∷◌}
use mathlib.Core.Option.{Option, some, none}
use Prim.Native.Nat.{ℕ, zero, suc, ◌+◌, ◌≤◌, ◌<◌}
use native.Mathlib.Omega.{arith}
use lib.Dec.{eqb}
use lib.ListN.{length}
use lib.IntN.{ℤ, pos}
use borrow.Author.Tests.{eqb-true}
use Rattle.integers.specs.Count.{first-in, rest_in}
use Rattle.rules.specs.Limits.{frame_limit}
use Rattle.rules.specs.Refusal.{Answer, refused, gives, then, frame_range}
use Rattle.rules.specs.Table.{Table, checks_of}
use Rattle.rules.specs.Parity.{first_broken, agreement}
use Rattle.rules.specs.Mask.{set_of}
use Rattle.rules.specs.CodeFile.{code_file}
use Rattle.rules.specs.Input.{each_within, each_bit, bits_of}
use Rattle.rules.specs.Bound.{gap}
use Rattle.rules.specs.Certificate.{Item, item_at, items_at, entries_of, scale_of, items_of, row_at, rows_at}
use Rattle.rules.specs.Sole.{sole}
use Rattle.rules.specs.Judge.{Verdict, breaks, passes, weigh, verdict, judge, syndrome, agreement_of}
use Rattle.rules.proofs.Basics.{and_both}
use Rattle.rules.proofs.AnswerLaws.{then-of}
use Rattle.rules.proofs.Judged.{gap_read, sole_read}
use Rattle.limits.specs.declared.refusals.Refusal.{Refusal}
use Rattle.limits.specs.Numbers.{number_of}
use Rattle.limits.proofs.NumberLaws.{number-some}
use Rattle.inputs.specs.Refusals.{frame_refusal, word_refusal, turned_down, or_else}
use Rattle.inputs.proofs.InputLaws.{frame-law, word-law}
use Rattle.inputs.proofs.RefusalLaws.{else-none, cond-none, turned-else, turned-refused, turned_none}
use Rattle.judge.specs.Refusals.{degrees_of, items_refusal, certificate_read}
use Rattle.table.specs.Layout.{checks_from, table_of, Holds}
use Rattle.table.proofs.LayoutLaws.{starts-long, part-is, part_held}
use Rattle.judge.specs.Rows.{Unrefused, gap_on, sole_on, row_in, rows_in, AllPlaced, gap_in, sole_in}
use Rattle.judge.specs.Stages.{verdict_on, judge_on, syndrome_on, agreement_on}
use Rattle.judge.proofs.RefusalLaws.{read-same, certificate-law, each-passed, Passed}

-- ---- what is not refused
frame-long : (n : ℕ) (l : List ℤ) → frame_refusal n l ≡ 0 → length l ≡ n
unfolding frame_refusal
frame-long n l e = eqb-true (length l) n (cond-none (eqb (length l) n) (cond (each_within frame_limit l) 0 frame_range) 7 e).0

pub word-long : (n : ℕ) (w : List ℕ) → word_refusal n w ≡ 0 → length w ≡ n
unfolding word_refusal
word-long n w e = eqb-true (length w) n (and_both (eqb (length w) n) (each_bit w) (cond-none (eqb (length w) n && each_bit w) 0 14 e).0).0

pub inputs-long : (n : ℕ) (l : List ℤ) (w : List ℕ) → or_else (frame_refusal n l) (word_refusal n w) ≡ 0 → (length l ≡ n) × (length w ≡ n)
inputs-long n l w e =
    let p = else-none (frame_refusal n l) (word_refusal n w) e in
    (frame-long n l p.0, word-long n w p.1)

-- ---- a refusal is handed on
then-refused : {A B : Type 0} (a : Answer A) (k : ℕ) (f : A → Answer B) → a ≡ refused k → refused k ≡ then a f
unfolding then
then-refused a k f e = ap (λ x. then x f) (sym e)

-- ---- an answer x behind tests whose refusal is k
module _ {A : Type 0} {x : Answer A} (a : Answer A) (k : ℕ) (law : x ≡ turned_down k a) where
  turned : (r : Refusal) → number_of r ≡ k → refused (number_of r) ≡ x
  turned r e = turned-refused (number_of r) a (number-some r) ∙ ap (λ j. turned_down j a) e ∙ sym law

  past : 0 ≡ k → a ≡ x
  past e = turned_none 0 a refl ∙ ap (λ j. turned_down j a) e ∙ sym law

-- ---- the judge, the syndrome and the agreement on a table
module _ (t : Table) (l : List ℤ) (w bs : List ℕ) where
  -- the entries' refusal
  abbrev entries : List ℕ → ℕ
  entries c = items_refusal (checks_of t) (degrees_of t) none (items_of c)

  abbrev answer : Answer Verdict
  answer = gives (verdict_on t l w bs)

  judge-law : judge_on t l w bs ≡ turned_down (or_else (frame_refusal t.bits l) (word_refusal t.bits w)) (then (certificate_read bs) (λ c. turned_down (entries c) answer))
  judge-law =
      frame-law t l _
      ∙ ap (turned_down (frame_refusal t.bits l)) (word-law t w _ ∙ ap (turned_down (word_refusal t.bits w)) (certificate-law t (degrees_of t) (λ j h. refl) bs answer))
      ∙ turned-else (frame_refusal t.bits l) (word_refusal t.bits w) _

  pub judge-inputs : (r : Refusal) → number_of r ≡ or_else (frame_refusal t.bits l) (word_refusal t.bits w) → refused (number_of r) ≡ judge_on t l w bs
  judge-inputs = turned _ _ judge-law

  module _ (z : 0 ≡ or_else (frame_refusal t.bits l) (word_refusal t.bits w)) where
    pub judge-unread : (k : ℕ) → refused k ≡ certificate_read bs → refused k ≡ judge_on t l w bs
    judge-unread k e = then-refused (certificate_read bs) k _ (sym e) ∙ past _ _ judge-law z

    module _ (c : List ℕ) (e : gives c ≡ certificate_read bs) where
      read-law : judge_on t l w bs ≡ turned_down (entries c) answer
      read-law = sym (past _ _ judge-law z) ∙ then-of (certificate_read bs) c _ (sym e)

      pub judge-entries : (r : Refusal) → number_of r ≡ entries c → refused (number_of r) ≡ judge_on t l w bs
      judge-entries = turned _ _ read-law

      pub judge-passes : 0 ≡ entries c → gives (verdict_on t l w c) ≡ judge_on t l w bs
      judge-passes f = ap (λ x. gives (verdict_on t l w x)) (read-same bs c e) ∙ past _ _ read-law f

pub unrefused : (t : Table) (l : List ℤ) (w bs : List ℕ) → 0 ≡ or_else (frame_refusal t.bits l) (word_refusal t.bits w)
    → 0 ≡ items_refusal (checks_of t) (degrees_of t) none (items_of bs) → Unrefused t l w bs
unrefused t l w bs z e =
    let long = inputs-long t.bits l w (sym z) in
    record { frame = long.0; word = long.1; entries = each-passed (checks_of t) (degrees_of t) bs (sym e) }

module _ (t : Table) (w : List ℕ) where
  pub syndrome-turned : (r : Refusal) → number_of r ≡ word_refusal t.bits w → refused (number_of r) ≡ syndrome_on t w
  syndrome-turned = turned _ _ (word-law t w (gives (first_broken 0 (bits_of w) t.checks)))

  pub syndrome-found : (o : Option ℕ) → 0 ≡ word_refusal t.bits w → o ≡ first_broken 0 (bits_of w) t.checks → gives o ≡ syndrome_on t w
  syndrome-found o z p = ap gives p ∙ past _ _ (word-law t w (gives (first_broken 0 (bits_of w) t.checks))) z

module _ (n : ℕ) (l : List ℤ) (w : List ℕ) where
  agreement-law : agreement_on n l w ≡ turned_down (or_else (frame_refusal n l) (word_refusal n w)) (gives (agreement n l (bits_of w)))
  agreement-law = turned-else (frame_refusal n l) (word_refusal n w) (gives (agreement n l (bits_of w)))

  pub agreement-turned : (r : Refusal) → number_of r ≡ or_else (frame_refusal n l) (word_refusal n w) → refused (number_of r) ≡ agreement_on n l w
  agreement-turned = turned _ _ agreement-law

  pub agreement-sum : (a : ℤ) → 0 ≡ or_else (frame_refusal n l) (word_refusal n w) → a ≡ agreement (length l) l (bits_of w) → gives a ≡ agreement_on n l w
  agreement-sum a z h = ap gives (h ∙ ap (λ k. agreement k l (bits_of w)) (inputs-long n l w (sym z)).0) ∙ past _ _ agreement-law z

-- ---- certified, or the gap
module _ (g : ℤ) (s : Bool) where
  pub weighed-certified : (m : Bool) → g ≡ pos 0 → m ≡ s → passes m ≡ weigh none g s
  weighed-certified m e h = ap₂ (weigh none) (sym e) h

-- ---- the verdict
module _ (t : Table) (l : List ℤ) (w bs : List ℕ) where
  verdict-is : (o : Option ℕ) → o ≡ first_broken 0 (bits_of w) t.checks → weigh o (gap_on t l w bs) (sole_on t l bs) ≡ verdict_on t l w bs
  unfolding verdict
  verdict-is o e = ap (λ x. weigh x (gap_on t l w bs) (sole_on t l bs)) e

  pub verdict-broken : (j : ℕ) → some j ≡ first_broken 0 (bits_of w) t.checks → breaks j ≡ verdict_on t l w bs
  verdict-broken j e = verdict-is (some j) e

  pub verdict-weighed : (g : ℤ) (m : Bool) → none ≡ first_broken 0 (bits_of w) t.checks → g ≡ gap_on t l w bs → m ≡ sole_on t l bs → weigh none g m ≡ verdict_on t l w bs
  verdict-weighed g m e hg hm = ap₂ (weigh none) hg hm ∙ verdict-is none e

-- ---- from the code file on
module _ (file : List ℕ) (k : ℕ) (e : code_file file ≡ refused k) where
  pub judge-none : (l : List ℤ) (w bs : List ℕ) → refused k ≡ judge file l w bs
  unfolding judge
  judge-none l w bs = then-refused (code_file file) k (λ t. judge_on t l w bs) e

  pub syndrome-none : (w : List ℕ) → refused k ≡ syndrome file w
  unfolding syndrome
  syndrome-none w = then-refused (code_file file) k (λ t. syndrome_on t w) e

  pub agreement-none : (l : List ℤ) (w : List ℕ) → refused k ≡ agreement_of file l w
  unfolding agreement_of
  agreement-none l w = then-refused (code_file file) k _ e

module _ (file : List ℕ) (t : Table) (e : code_file file ≡ gives t) where
  pub judge-table : (l : List ℤ) (w bs : List ℕ) → judge_on t l w bs ≡ judge file l w bs
  unfolding judge
  judge-table l w bs = sym (then-of (code_file file) t (λ x. judge_on x l w bs) e)

  pub syndrome-table : (w : List ℕ) → syndrome_on t w ≡ syndrome file w
  unfolding syndrome
  syndrome-table w = sym (then-of (code_file file) t (λ x. syndrome_on x w) e)

  pub agreement-table : (l : List ℤ) (w : List ℕ) → agreement_on t.bits l w ≡ agreement_of file l w
  unfolding agreement_of
  agreement-table l w =
      ap (turned_down (frame_refusal t.bits l)) (sym (word-law t w (gives (agreement t.bits l (bits_of w)))))
      ∙ sym (frame-law t l _) ∙ sym (then-of (code_file file) t _ e)

-- ---- a certificate's gap and its mark are those of rules' laws
pub gap-read : (t : Table) (l : List ℤ) (w bs : List ℕ) → gap_on t l w bs ≡ gap_read t l w bs
gap-read t l w bs = refl

pub sole-read : (t : Table) (l : List ℤ) (bs : List ℕ) → sole_on t l bs ≡ sole_read t l bs
sole-read t l bs = refl

-- No proof cites these any more, since the code reads its entries as one value.
-- ---- on starts and members that hold a table of m checks
module _ (n m : ℕ) (ss ms : List ℕ) (h : Holds n ss ms) (hm : length ss ≡ m + 1) where
  many : length (checks_from ss ms) ≡ m
  many = omega (arith, starts-long n ss ms h)

  -- each of q entries is of one of the checks
  abbrev AllListed : List ℕ → ℕ → Type 0
  AllListed bs q = (k : ℕ) → k < q → (item_at bs q k).check < length (checks_from ss ms)

  listed : (bs : List ℕ) → Passed m bs → AllListed bs (entries_of bs)
  listed bs p k i = omega (arith, many, (p.entry k i).check)

  pub all_placed : (bs : List ℕ) → Passed m bs → AllPlaced n ss ms bs (entries_of bs)
  all_placed bs p = record {
    long = p.long;
    each = λ k i. record { part = part_held n ss ms h (item_at bs (entries_of bs) k).check (listed bs p k i); small = (p.entry k i).multiplier };
  }

  -- the rows are those of the table
  pub row_is : (i : Item) → i.check < length (checks_from ss ms) → row_in ss ms i ≡ row_at (table_of n ss ms) i
  row_is i k = ap (λ l. record { members = l; multiplier = i.multiplier; set = set_of (length l) i.mask }) (part-is n ss ms h i.check k)

  rows-from : (bs : List ℕ) (q : ℕ) → AllListed bs q → (k c : ℕ) → k + c ≤ q → rows_in ss ms (items_at bs q k c) ≡ rows_at (table_of n ss ms) (items_at bs q k c)
  unfolding items_at
  rows-from bs q f k zero g = refl
  rows-from bs q f k (suc c) g = ap₂ ◌∷◌ (row_is (item_at bs q k) (f k (first-in k c q g))) (rows-from bs q f (k + 1) c (rest_in k c q g))

  module _ (l : List ℤ) (bs : List ℕ) (long : length l ≡ n) (p : Passed m bs) where
    pub rows_are : rows_in ss ms (items_of bs) ≡ rows_at (table_of n ss ms) (items_of bs)
    rows_are = rows-from bs (entries_of bs) (listed bs p) 0 (entries_of bs) (omega arith)

    pub gap_is : (w : List ℕ) → gap_in ss ms l w bs ≡ gap_read (table_of n ss ms) l w bs
    gap_is w = ap₂ (λ k rs. gap k (scale_of bs) l rs (bits_of w)) long rows_are

    pub sole-is : sole_in ss ms l bs ≡ sole_read (table_of n ss ms) l bs
    sole-is = ap₂ (λ k rs. sole k (scale_of bs) l rs) long rows_are
