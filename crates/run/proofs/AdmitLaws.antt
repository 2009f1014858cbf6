-- The refusals of a call for rounds: buffers too short, what admitting a call leaves, and rules' own tests in the code's numbers. Assumes nothing.
use mathlib.Core.Path.{◌≡◌, refl, sym, ◌∙◌, ap, ap₂, subst}
use mathlib.Core.Bool.{Bool, true, false, cond, ◌&&◌}
use mathlib.Core.List.{List, [], ◌∷◌}
use Prim.Native.Nat.{ℕ, zero, suc, ◌≤◌, ◌<◌}
use native.Mathlib.Omega.{arith}
use lib.Dec.{leb, ltb, eqb}
use lib.ListN.{length, take, drop, length-append}
use lib.IntN.{ℤ, pos}
use borrow.Author.Tests.{lt-ltb, le-leb, eqb-true}
use Rattle.rules.specs.Limits.{max_checks, max_edges, frame_limit, round_limit}
use Rattle.rules.specs.Refusal.{Answer, refused, gives, must, then, Reply, reply_of, frame_length, frame_range, asked_too_much, buffer_short, run_ended, run_damaged}
use Rattle.rules.specs.Table.{Table, edges, edges_of, checks_of}
use Rattle.rules.specs.CodeFile.{code_file, table_values}
use Rattle.rules.specs.Sound.{Sound}
use Rattle.rules.specs.Input.{each_within, on_frame}
use Rattle.rules.specs.Buffers.{Each, by_name, each, Lengths, needs, fits, over, Part}
use Rattle.rules.specs.Run.{Progress, Run, is_running, sound_run, state_in, sums_in, admits}
use Rattle.rules.proofs.BufferLaws.{take-over, fits-part, part-fits}
use Rattle.rules.proofs.Tables.{file-sound}
use Rattle.rules.proofs.AnswerLaws.{refused≢gives, gives-inj, must-gives, must-true, then-gives}
use Rattle.table.specs.Loaded.{with_room, loaded_as, laid, loaded}
use Rattle.std.specs.Prelude.{Ok, Err}
use Rattle.limits.specs.declared.refusals.Refusal.{Refusal}
use Rattle.limits.specs.Numbers.{number_of}
use Rattle.table.specs.declared.Sizes as table
use Rattle.table.specs.Reply.{numbered}
use Rattle.table.proofs.AnswerLaws.{and-holds}
use Rattle.table.proofs.AcceptedLaws.{readable-table}
use Rattle.table.proofs.LoadedLaws.{laid-reply}
use Rattle.table.proofs.LayoutLaws.{below-edges}
use Rattle.inputs.specs.Refusals.{frame_refusal, turned_down}
use Rattle.inputs.proofs.RefusalLaws.{cond-none, turned-refused}
use Rattle.inputs.proofs.InputLaws.{frame-law}
use Rattle.run.specs.Sums.{EdgesOf}
use Rattle.run.specs.Admitted.{Sizes, sizes_by, sizes_of, admits_by, first_state, admission_as, admission_by, admission}

-- ---- 41
module _ (a b : Lengths) where
  pub short : (Each (λ x. a x ≤ b x) → ⊥) → buffer_short ≡ cond (fits a b) 0 buffer_short
  short h = go (fits a b) refl
    where
      go : (x : Bool) → fits a b ≡ x → buffer_short ≡ cond x 0 buffer_short
      go true e = absurd (h (each (fits-part a b e)))
      go false e = refl

  pub long : Each (λ x. a x ≤ b x) → 0 ≡ cond (fits a b) 0 buffer_short
  long h = ap (λ x. cond x 0 buffer_short) (sym (part-fits a b (by_name h)))

  pub long-part : 0 ≡ cond (fits a b) 0 buffer_short → Part a b
  long-part e = fits-part a b (cond-none (fits a b) 0 _ (sym e)).0

-- ---- what a load tells of the code file, and what admitting the call then leaves
-- the table, once there is room for it
module _ (file s ms : List ℕ) where
  abbrev roomy : Answer Table
  roomy = then (code_file file) (with_room s ms)

  roomy-file : (t : Table) → roomy ≡ gives t → code_file file ≡ gives t
  unfolding with_room
  roomy-file t e =
      let f = then-gives (code_file file) (with_room s ms) t e in
      f.first ∙ (must-gives (ltb (checks_of f.value) (length s) && leb (edges_of f.value) (length ms)) buffer_short (gives f.value) t f.second).1

  -- room for the largest table is room for every table
  module _ (hs : max_checks < length s) (hm : max_edges ≤ length ms) where
    enough : (a : Answer Table) → code_file file ≡ a → then a (with_room s ms) ≡ a
    unfolding then with_room
    enough (refused k) e = refl
    enough (gives t) e =
        let r = readable-table file t.bits (checks_of t) (edges_of t) t e refl refl refl in
        let starts = lt-ltb (checks_of t) (length s) (omega (arith, r.many)) in
        let members = le-leb (edges_of t) (length ms) (omega (arith, r.few)) in
        must-true (ltb (checks_of t) (length s) && leb (edges_of t) (length ms)) buffer_short (gives t) (and-holds (ltb (checks_of t) (length s)) (leb (edges_of t) (length ms)) starts ∙ members)

    pub admission-room : (l : List ℤ) (wanted : ℕ) (lent : Lengths) (p : Progress) (z y x : List ℤ)
        → admission file l wanted lent p z y x s ms ≡ admission_by (code_file file) l wanted lent p z y x s ms
    unfolding admission
    admission-room l wanted lent p z y x = ap (λ a. admission_by a l wanted lent p z y x s ms) (enough (code_file file) refl)

  -- its edges, in front of ms
  in-front : (t : Table) → roomy ≡ gives t → {ms' : List ℕ} → ms' ≡ over (edges t.checks) ms → (edges_of t ≤ length ms') × EdgesOf t.bits (take (edges_of t) ms')
  in-front t e {ms'} f = (
    omega (arith, ap length f, length-append (edges t.checks) (drop (edges_of t) ms)),
    subst (EdgesOf t.bits) (sym (ap (take (edges_of t)) f ∙ take-over (edges_of t) (edges t.checks) ms refl)) (record {
      bits = sound.bits.1;
      below = below-edges t.bits t.checks sound.below;
      standing = λ i h. (sound.standing i h).1;
    }),
  )
    where
      sound : Sound t
      sound = file-sound file t (roomy-file t e)

-- q the load's reply, s' and ms' what it left
module _ (file s ms : List ℕ) (q : Reply) (s' ms' : List ℕ) (h : loaded_as q s' ms' ≡ loaded file s ms) where
  laid-is : loaded_as q s' ms' ≡ laid (roomy file s ms) s ms
  unfolding loaded
  laid-is = h

  pub checks-few : (v : table.Sizes) → q ≡ numbered (Ok v) → v.checks ≤ max_checks
  unfolding reply_of
  checks-few v g = go (roomy file s ms) refl (ap (λ r. r.values) (sym g ∙ ap (λ r. r.reply) laid-is ∙ laid-reply (roomy file s ms) s ms))
    where
      go : (a : Answer Table) → roomy file s ms ≡ a → pos v.bits ∷ pos v.checks ∷ pos v.edges ∷ [] ≡ (reply_of table_values a).values → v.checks ≤ max_checks
      go (refused x) f g = absurd (let z : ◌≡◌ {A = ℕ} 0 1 = cc in omega arith)
      go (gives t) f g = (readable-table file v.bits v.checks v.edges t (roomy-file file s ms t f) (cc) (cc) (cc)).many

  -- the table's edges are at the front of the members
  pub edges-loaded : (v : table.Sizes) → q ≡ numbered (Ok v) → (v.edges ≤ length ms') × EdgesOf v.bits (take v.edges ms')
  unfolding laid reply_of
  edges-loaded v g = go (roomy file s ms) refl laid-is
    where
      go : (a : Answer Table) → roomy file s ms ≡ a → loaded_as q s' ms' ≡ laid a s ms → (v.edges ≤ length ms') × EdgesOf v.bits (take v.edges ms')
      go (refused j) f h = absurd (let z : ◌≡◌ {A = ℕ} 0 1 = cc (ap (λ r. r.values) (sym g ∙ ap (λ r. r.reply) h)) in omega arith)
      go (gives t) f h =
          let values : pos v.bits ∷ pos v.checks ∷ pos v.edges ∷ [] ≡ table_values t = ap (λ r. r.values) (sym g ∙ ap (λ r. r.reply) h) in
          let bits : t.bits ≡ v.bits = cc in
          let many : edges_of t ≡ v.edges = cc in
          let members = ap (λ r. r.members) h in
          subst (λ k. (k ≤ length ms') × EdgesOf v.bits (take k ms')) many (subst (λ k. (edges_of t ≤ length ms') × EdgesOf k (take (edges_of t) ms')) bits (in-front file s ms t f members))

  module _ (l : List ℤ) (wanted : ℕ) (lent : Lengths) (p : Progress) (z y x : List ℤ) where
    pub admission-refused : (k : Refusal) → q ≡ numbered (Err k) → admission_as (refused (number_of k)) s' ms' ≡ admission file l wanted lent p z y x s ms
    unfolding laid reply_of admission
    admission-refused k g = go (roomy file s ms) laid-is
      where
        go : (b : Answer Table) → loaded_as q s' ms' ≡ laid b s ms → admission_as (refused (number_of k)) s' ms' ≡ admission_by b l wanted lent p z y x s ms
        go (refused j) f =
            let number : number_of k ≡ j = ap (λ r. r.number) (sym g ∙ ap (λ r. r.reply) f) in
            let starts : s' ≡ s = ap (λ r. r.starts) f in
            let members : ms' ≡ ms = ap (λ r. r.members) f in
            cc
        go (gives t) f = absurd (let z : ◌≡◌ {A = ℕ} 0 1 = cc (ap (λ r. r.values) (sym g ∙ ap (λ r. r.reply) f)) in omega arith)

    module _ (v : table.Sizes) (g : q ≡ numbered (Ok v)) where
      pub admission-sized : (a : Answer Sizes) → a ≡ admits_by (sizes_by v) (take v.edges ms') l wanted lent p (first_state v.edges z y) (take v.bits x)
          → admission_as a s' ms' ≡ admission file l wanted lent p z y x s ms
      unfolding laid reply_of admission
      admission-sized a w = go (roomy file s ms) laid-is
        where
          go : (b : Answer Table) → loaded_as q s' ms' ≡ laid b s ms → admission_as a s' ms' ≡ admission_by b l wanted lent p z y x s ms
          go (refused j) f = absurd (let z : ◌≡◌ {A = ℕ} 0 1 = cc (ap (λ r. r.values) (sym g ∙ ap (λ r. r.reply) f)) in omega arith)
          go (gives t) f =
              let values : pos v.bits ∷ pos v.checks ∷ pos v.edges ∷ [] ≡ table_values t = ap (λ r. r.values) (sym g ∙ ap (λ r. r.reply) f) in
              let bits : v.bits ≡ t.bits = cc in
              let checks : v.checks ≡ checks_of t = cc in
              let many : v.edges ≡ edges_of t = cc in
              let starts = ap (λ r. r.starts) f in
              let members = ap (λ r. r.members) f in
              let front : take v.edges ms' ≡ edges t.checks = ap₂ take many members ∙ take-over (edges_of t) (edges t.checks) ms refl in
              cc

-- ---- rules' own tests
-- 8 or 9 as k, then 17, 41, 42 and 43 by their tests
abbrev tested : {A : Type 0} → ℕ → Bool → Bool → Bool → Bool → A → Answer A
tested k asked room runs sounds a = turned_down k (must asked asked_too_much (must room buffer_short (must runs run_ended (must sounds run_damaged (gives a)))))

module _ (z : Sizes) where
  then-must : (k : ℕ) (a b c d : Bool) → then (tested k a b c d (tt {0})) (λ u. gives z) ≡ tested k a b c d z
  unfolding then turned_down must
  then-must (suc k) a b c d = refl
  then-must zero false b c d = refl
  then-must zero true false c d = refl
  then-must zero true true false d = refl
  then-must zero true true true false = refl
  then-must zero true true true true = refl

  then-refused : (a : Answer (Unit {0})) (k : ℕ) → then a (λ u. gives z) ≡ refused k → a ≡ refused k
  unfolding then
  then-refused (refused x) k e = cc
  then-refused (gives u) k e = absurd (refused≢gives (sym e))

  then-unit : (a : Answer (Unit {0})) (v : Sizes) → then a (λ u. gives z) ≡ gives v → (a ≡ gives tt) × (v ≡ z)
  unfolding then
  then-unit (refused x) v e = absurd (refused≢gives e)
  then-unit (gives u) v e = (refl, sym (gives-inj z v e))

module _ (t : Table) (l : List ℤ) (wanted : ℕ) (lent : Lengths) (r : Run) where
  pub admits-by : then (admits t l wanted lent r) (λ u. gives (sizes_of t)) ≡ admits_by (sizes_of t) (edges t.checks) l wanted lent r.progress (state_in t r.buffers) (sums_in t r.buffers)
  unfolding admits admits_by
  admits-by = ap (λ a. then a (λ u. gives (sizes_of t))) (frame-law t l _)
      ∙ then-must (sizes_of t) (frame_refusal t.bits l) (leb wanted round_limit) (fits (needs t) lent) (is_running r.progress.status) (sound_run t r)

  pub admits-refused : (k : ℕ) → admits_by (sizes_of t) (edges t.checks) l wanted lent r.progress (state_in t r.buffers) (sums_in t r.buffers) ≡ refused k
      → admits t l wanted lent r ≡ refused k
  admits-refused k e = then-refused (sizes_of t) (admits t l wanted lent r) k (admits-by ∙ e)

  -- every test held
  pub record Admits (z : Sizes) : Type 0 where
    pub admitted : admits t l wanted lent r ≡ gives tt
    pub sizes : z ≡ sizes_of t
    pub frame_long : length l ≡ t.bits
    pub frame : each_within frame_limit l ≡ true
    pub asked : leb wanted round_limit ≡ true
    pub room : fits (needs t) lent ≡ true
    pub running : is_running r.progress.status ≡ true
    pub sound : sound_run t r ≡ true

  pub admits-gives : (z : Sizes) → admits_by (sizes_of t) (edges t.checks) l wanted lent r.progress (state_in t r.buffers) (sums_in t r.buffers) ≡ gives z → Admits z
  unfolding admits on_frame
  admits-gives z e =
      let p = then-unit (sizes_of t) (admits t l wanted lent r) z (admits-by ∙ e) in
      let p1 = must-gives (eqb (length l) t.bits) frame_length _ tt p.0 in
      let p2 = must-gives (each_within frame_limit l) frame_range _ tt p1.1 in
      let p3 = must-gives (leb wanted round_limit) asked_too_much _ tt p2.1 in
      let p4 = must-gives (fits (needs t) lent) buffer_short _ tt p3.1 in
      let p5 = must-gives (is_running r.progress.status) run_ended _ tt p4.1 in
      let p6 = must-gives (sound_run t r) run_damaged _ tt p5.1 in
      record {
        admitted = p.0;
        sizes = p.1;
        frame_long = eqb-true (length l) t.bits p1.0;
        frame = p2.0;
        asked = p3.0;
        room = p4.0;
        running = p5.0;
        sound = p6.0;
      }

-- No proof cites these any more, since the check finds what they say.
pub turned_down_lem : {A : Type 0} (j k : ℕ) (a : Answer A) → (k ≡ 0 → ⊥) → k ≡ j → refused k ≡ turned_down j a
turned_down_lem j k a h e = turned-refused k a h ∙ ap (λ x. turned_down x a) e
