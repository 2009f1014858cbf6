-- A loaded table: where each check's members stand, what the code relies on there, and that a load leaves the file's table. Assumes nothing.
use mathlib.Core.Path.{◌≡◌, refl, sym, ◌∙◌, ap, ap₂, subst}
use mathlib.Core.Bool.{◌&&◌}
use mathlib.Core.List.{List, [], ◌∷◌, ◌++◌}
use Prim.Native.Nat.{ℕ, zero, suc, ◌+◌, ◌-◌, ◌≤◌, ◌<◌}
use native.Mathlib.Nat.{add_assoc, add_comm, add-sub_cancel_left}
use native.Mathlib.Omega.{arith}
use native.Mathlib.Numerals.{add-one}
use lib.Dec.{leb, ltb}
use lib.IntN.{pos}
use lib.ListN.{length, get_or, take, drop, replicate, length-append, length-drop}
use lib.Seq.{take_at, drop_at, length-take-le}
use borrow.Author.Tests.{lt-ltb, le-leb, ltb-true, leb-true}
use Rattle.std.specs.Cmp.Derive.{both_true}
use Rattle.rules.specs.Limits.{max_bits, max_checks, max_degree, max_edges}
use Rattle.rules.specs.Refusal.{Answer, refused, gives, then, reply_of, buffer_short}
use Rattle.rules.specs.Table.{Table, edges, edges_of, checks_of}
use Rattle.rules.specs.CodeFile.{code_file, table_values}
use Rattle.rules.specs.Sound.{Below, AllBelow, Sound}
use Rattle.rules.specs.Buffers.{over}
use Rattle.rules.proofs.AnswerLaws.{gives-inj, must-gives, must-true, then-gives}
use Rattle.rules.proofs.Basics.{and_both}
use Rattle.rules.proofs.Duality.{below_more}
use Rattle.rules.proofs.Judged as judged
use Rattle.rules.proofs.Tables.{degree-at, file-sound}
use Rattle.rules.proofs.BufferLaws.{take-over, over-length}
use Rattle.std.specs.Prelude.{Result, Ok, Err}
use Rattle.limits.specs.Numbers.{number_of}
use Rattle.limits.specs.declared.refusals.Refusal.{Refusal}
use Rattle.table.specs.declared.Sizes.{Sizes}
use Rattle.table.specs.Reply.{numbered}
use Rattle.table.specs.Starts.{starts_of}
use Rattle.table.specs.Loaded.{with_room, loaded_as, laid, loaded}
use Rattle.table.specs.Layout.{checks_from, table_of, Holds, edges_before, degree_at, part_at, Start, Part, Opened}
use Rattle.table.proofs.StartsLaws.{starts-length, starts_first, starts-next, check-part}
use Rattle.table.proofs.AcceptedLaws.{no-values}
use Rattle.table.proofs.LoadedLaws.{laid-reply}

-- ---- the edges before a check
before-next : (cs : List (List ℕ)) (j : ℕ) → j < length cs → edges_before (suc j) cs ≡ edges_before j cs + length (get_or cs j [])
before-next [] j h = absurd (omega arith)
before-next (ms ∷ cs) zero h = add_comm (length ms) 0
before-next (ms ∷ cs) (suc j) h = ap (λ n. length ms + n) (before-next cs j (omega arith)) ∙ sym (add_assoc (length ms) (edges_before j cs) (length (get_or cs j [])))

pub before-all : (cs : List (List ℕ)) → edges_before (length cs) cs ≡ length (edges cs)
before-all [] = refl
before-all (ms ∷ cs) = ap (λ n. length ms + n) (before-all cs) ∙ sym (length-append ms (edges cs))

pub before-most : (cs : List (List ℕ)) (j : ℕ) → edges_before j cs ≤ length (edges cs)
before-most cs zero = omega arith
before-most [] (suc j) = omega arith
before-most (ms ∷ cs) (suc j) = more (length ms) (edges_before j cs) (length (edges cs)) (length (ms ++ edges cs)) (length-append ms (edges cs)) (before-most cs j)
  where
    more : (a b e n : ℕ) → n ≡ a + e → b ≤ e → a + b ≤ n
    more a b e n p h = omega arith

starts-at : (cs : List (List ℕ)) (j : ℕ) → j ≤ length cs → get_or (starts_of 0 cs) j 0 ≡ edges_before j cs
starts-at cs zero h = starts_first 0 cs
starts-at cs (suc j) h = starts-next 0 cs j h ∙ ap (λ n. n + length (get_or cs j [])) (starts-at cs j (lower j (length cs) h)) ∙ sym (before-next cs j h)
  where
    lower : (j n : ℕ) → suc j ≤ n → j ≤ n
    lower j n h = omega arith

-- ---- members below n
below-++ : (n : ℕ) (ms es : List ℕ) → Below n ms → Below n es → Below n (ms ++ es)
below-++ n [] es h k = k
below-++ n (m ∷ ms) es h k = (h.0, below-++ n ms es h.1 k)

pub below-edges : (n : ℕ) (cs : List (List ℕ)) → AllBelow n cs → Below n (edges cs)
below-edges n [] h = tt
below-edges n (ms ∷ cs) h = below-++ n ms (edges cs) h.0 (below-edges n cs h.1)

-- ---- a loaded table
module _ (n : ℕ) (ss ms : List ℕ) (h : Holds n ss ms) where
  abbrev cs : List (List ℕ)
  cs = checks_from ss ms

  pub starts-long : length ss ≡ length (checks_from ss ms) + 1
  starts-long = ap length h.starts ∙ starts-length 0 cs

  pub members-long : length ms ≡ length (edges (checks_from ss ms))
  members-long = ap length h.members

  pub members-below : Below n ms
  members-below = subst (Below n) (sym h.members) (below-edges n cs h.sound.below)

  pub members-fit : (length ms ≤ max_edges) × Below max_bits ms
  members-fit = (subst (λ es. length es ≤ max_edges) (sym h.members) h.sound.few, below_more n max_bits ms h.sound.bits.1 members-below)

  pub start_is_lem : (j : ℕ) → j ≤ length (checks_from ss ms) → get_or ss j 0 ≡ edges_before j (checks_from ss ms)
  start_is_lem j l = ap (λ x. get_or x j 0) h.starts ∙ starts-at cs j l

  module _ (j : ℕ) (hj : j < length (checks_from ss ms)) where
    pub start-next : get_or ss (j + 1) 0 ≡ get_or ss j 0 + length (get_or (checks_from ss ms) j [])
    start-next = ap₂ (λ l k. get_or l k 0) h.starts (add-one j) ∙ starts-next 0 cs j hj ∙ ap (λ l. get_or l j 0 + length (get_or cs j [])) (sym h.starts)

    -- check j's part of the members
    pub part-is : part_at ss ms j ≡ get_or (checks_from ss ms) j []
    part-is = ap₂ part_by h.starts (add-one j) ∙ ap (part_in (starts_of 0 cs) (suc j)) h.members ∙ check-part cs j hj
      where
        part_in : List ℕ → ℕ → List ℕ → List ℕ
        part_in l k es = take (get_or l k 0 - get_or l j 0) (drop (get_or l j 0) es)

        part_by : List ℕ → ℕ → List ℕ
        part_by l k = part_in l k ms

    -- the same by the two starts that the code has read
    pub part-lent : {a e : ℕ} → a ≡ get_or ss j 0 → e ≡ get_or ss (j + 1) 0 → take (e - a) (drop a ms) ≡ get_or (checks_from ss ms) j []
    part-lent p q = ap₂ (λ x y. take (y - x) (drop x ms)) p q ∙ part-is

    pub part-degree : length (get_or (checks_from ss ms) j []) ≤ max_degree
    part-degree = degree-at cs j hj h.sound.degrees

    pub part-below : Below n (get_or (checks_from ss ms) j [])
    part-below = judged.members-below n cs j hj h.sound.below

    pub part_in_lem : (get_or ss j 0 ≤ get_or ss (j + 1) 0) × (get_or ss (j + 1) 0 ≤ length ms)
    part_in_lem = omega (arith, start-next, start_is_lem (j + 1) (omega arith), before-most cs (j + 1), members-long)

    pub start-held : Start ss j
    start-held = record { room = omega (arith, starts-long); order = part_in_lem.0; degree = omega (arith, start-next, part-degree) }

    pub part_held : Part n ss ms j
    part_held = record { start = start-held; end = part_in_lem.1; inside = subst (Below n) (sym part-is) part-below }

pub part_length : (n : ℕ) (ss ms : List ℕ) (j : ℕ) → Part n ss ms j → length (part_at ss ms j) ≡ degree_at ss j
part_length n ss ms j p = length-take-le (degree_at ss j) (drop (get_or ss j 0) ms) (omega (arith, p.end, length-drop (get_or ss j 0) ms))

-- ---- a table's own starts and edges hold it
checks-step : (s d : ℕ) (cs : List (List ℕ)) (es : List ℕ) → checks_from (s ∷ starts_of (s + d) cs) es ≡ take d es ∷ checks_from (starts_of (s + d) cs) (drop d es)
unfolding checks_from starts_of
checks-step s d [] es = ap (λ k. take k es ∷ []) (add-sub_cancel_left s d)
checks-step s d (ns ∷ cs) es = ap (λ k. take k es ∷ checks_from (starts_of (s + d) (ns ∷ cs)) (drop k es)) (add-sub_cancel_left s d)

checks-back : (s : ℕ) (cs : List (List ℕ)) → checks_from (starts_of s cs) (edges cs) ≡ cs
unfolding checks_from starts_of
checks-back s [] = refl
checks-back s (ms ∷ cs) =
    checks-step s (length ms) cs (ms ++ edges cs)
    ∙ ap₂ (λ a b. a ∷ checks_from (starts_of (s + length ms) cs) b) (take_at ms (edges cs) (length ms) refl) (drop_at ms (edges cs) (length ms) refl)
    ∙ ap (λ l. ms ∷ l) (checks-back (s + length ms) cs)

holds-checks : (t : Table) → Sound t → Holds t.bits (starts_of 0 t.checks) (edges t.checks)
holds-checks t h = record {
  starts = ap (starts_of 0) (sym back);
  members = ap edges (sym back);
  sound = subst (λ cs. Sound (record { bits = t.bits; checks = cs })) (sym back) h;
}
  where
    back : checks_from (starts_of 0 t.checks) (edges t.checks) ≡ t.checks
    back = checks-back 0 t.checks

-- ---- a file's table laid over slices
module _ (file : List ℕ) (t : Table) (is_file : code_file file ≡ gives t) (ss ms : List ℕ) where
  abbrev starts : List ℕ
  starts = starts_of 0 t.checks

  abbrev members : List ℕ
  members = edges t.checks

  -- with room for it
  laid-there : checks_of t < length ss → edges_of t ≤ length ms → Opened file t.bits (checks_of t) (edges_of t) (over starts ss) (over members ms)
  laid-there hs hm =
      let long = starts-length 0 t.checks in
      let room : length starts ≤ length ss = omega (arith, long) in
      let starts-are = take-over (checks_of t + 1) starts ss long in
      let members-are = take-over (edges_of t) members ms refl in
      record {
        starts_room = omega (arith, long, over-length starts ss room);
        members_room = omega (arith, over-length members ms hm);
        holds = subst (λ x. Holds t.bits x (take (edges_of t) (over members ms))) (sym starts-are) (subst (Holds t.bits starts) (sym members-are) (holds-checks t (file-sound file t is_file)));
        is_file = is_file ∙ ap (λ cs. gives (record { bits = t.bits; checks = cs })) (sym (ap₂ checks_from starts-are members-are ∙ checks-back 0 t.checks));
      }

  -- with room for every table
  pub laid-opened : max_checks < length ss → max_edges ≤ length ms → Opened file t.bits (checks_of t) (edges_of t) (over (starts_of 0 t.checks) ss) (over (edges t.checks) ms)
  laid-opened hs hm =
      let sound = file-sound file t is_file in
      laid-there (omega (arith, sound.checks)) (omega (arith, sound.few))

module _ {file : List ℕ} {n m e : ℕ} {ss ms : List ℕ} (o : Opened file n m e ss ms) where
  pub opened-starts : length (take (m + 1) ss) ≡ m + 1
  opened-starts = length-take-le (m + 1) ss o.starts_room

  pub opened-few : (m ≤ max_checks) × (e ≤ max_edges)
  opened-few = (
    omega (arith, opened-starts, starts-long _ _ _ o.holds, o.holds.sound.checks),
    omega (arith, length-take-le e ms o.members_room, (members-fit _ _ _ o.holds).0),
  )

-- ---- what a load answers and leaves
module _ (file s₀ ms₀ : List ℕ) (r : Result Sizes Refusal) {s ms : List ℕ} (e : loaded_as (numbered r) s ms ≡ loaded file s₀ ms₀) where
  abbrev roomy : Answer Table
  roomy = then (code_file file) (with_room s₀ ms₀)

  laid-is : loaded_as (numbered r) s ms ≡ laid roomy s₀ ms₀
  unfolding loaded
  laid-is = e

  reply-is : numbered r ≡ reply_of table_values roomy
  reply-is = ap (λ x. x.reply) laid-is ∙ laid-reply roomy s₀ ms₀

  pub load-refused : {k : Refusal} → r ≡ Err k → then (code_file file) (with_room s₀ ms₀) ≡ refused (number_of k)
  load-refused {k} h =
      let q = ap numbered (sym h) ∙ reply-is in
      no-values (number_of k) roomy (ap (λ x. x.number) q) (ap (λ x. x.values) q)

  -- a table that is given is the file's, and there is room for it
  given-file : (t : Table) → roomy ≡ gives t → (code_file file ≡ gives t) × (checks_of t < length s₀) × (edges_of t ≤ length ms₀)
  unfolding with_room
  given-file t f =
      let g = then-gives (code_file file) (with_room s₀ ms₀) t f in
      let u = g.value in
      let p = must-gives (ltb (checks_of u) (length s₀) && leb (edges_of u) (length ms₀)) buffer_short (gives u) t g.second in
      let b = and_both (ltb (checks_of u) (length s₀)) (leb (edges_of u) (length ms₀)) p.0 in
      subst (λ x. (code_file file ≡ gives x) × (checks_of x < length s₀) × (edges_of x ≤ length ms₀)) (gives-inj u t p.1)
      (g.first, ltb-true (checks_of u) (length s₀) b.0, leb-true (edges_of u) (length ms₀) b.1)

  given-opened : (t : Table) → roomy ≡ gives t → Opened file t.bits (checks_of t) (edges_of t) (laid (gives t) s₀ ms₀).starts (laid (gives t) s₀ ms₀).members
  unfolding laid
  given-opened t f = let g = given-file t f in laid-there file t g.0 s₀ ms₀ g.1 g.2

  sizes-opened : (z : Sizes) (a : Answer Table) → roomy ≡ a → pos z.bits ∷ pos z.checks ∷ pos z.edges ∷ [] ≡ (reply_of table_values a).values
      → Opened file z.bits z.checks z.edges (laid a s₀ ms₀).starts (laid a s₀ ms₀).members
  unfolding reply_of
  sizes-opened z (refused k) f v = absurd (let x : ◌≡◌ {A = ℕ} 0 1 = cc in omega arith)
  sizes-opened z (gives t) f v =
      let bits : t.bits ≡ z.bits = cc in
      let checks : checks_of t ≡ z.checks = cc in
      let few : edges_of t ≡ z.edges = cc in
      let left = laid (gives t) s₀ ms₀ in
      subst (λ n. Opened file n z.checks z.edges left.starts left.members) bits
      (subst (λ m. Opened file t.bits m z.edges left.starts left.members) checks
      (subst (λ k. Opened file t.bits (checks_of t) k left.starts left.members) few (given-opened t f)))

  pub load-opened : {z : Sizes} → r ≡ Ok z → Opened file z.bits z.checks z.edges s ms
  load-opened {z} h =
      subst (λ x. Opened file z.bits z.checks z.edges x.starts x.members) (sym laid-is) (sizes-opened z roomy refl (ap (λ x. x.values) (ap numbered (sym h) ∙ reply-is)))

  given-by : (z : Sizes) (a : Answer Table) → roomy ≡ a → pos z.bits ∷ pos z.checks ∷ pos z.edges ∷ [] ≡ (reply_of table_values a).values → roomy ≡ code_file file
  unfolding reply_of
  given-by z (refused k) f v = absurd (let x : ◌≡◌ {A = ℕ} 0 1 = cc in omega arith)
  given-by z (gives t) f v = f ∙ sym (given-file t f).0

  pub load-gives : {z : Sizes} → r ≡ Ok z → then (code_file file) (with_room s₀ ms₀) ≡ gives (table_of z.bits (take (z.checks + 1) s) (take z.edges ms))
  load-gives {z} h = given-by z roomy refl (ap (λ x. x.values) (ap numbered (sym h) ∙ reply-is)) ∙ (load-opened h).is_file

-- slices with room for every table: the file's own answer
pub roomy-whole : (file s ms : List ℕ) → max_checks < length s → max_edges ≤ length ms → (a : Answer Table) → code_file file ≡ a → then a (with_room s ms) ≡ a
unfolding then with_room
roomy-whole file s ms hs hm (refused k) e = refl
roomy-whole file s ms hs hm (gives t) e =
    let sound = file-sound file t e in
    must-true (ltb (checks_of t) (length s) && leb (edges_of t) (length ms)) buffer_short (gives t)
    (both_true (lt-ltb (checks_of t) (length s) (omega (arith, sound.checks))) (le-leb (edges_of t) (length ms) (omega (arith, sound.few))))

-- No proof cites this any more, since a load that is given needs no room: the same, of arrays as long as the limits ask
pub opened-whole : (file : List ℕ) {r : Result Sizes Refusal} {s ms : List ℕ} {z : Sizes}
    → loaded_as (numbered r) s ms ≡ loaded file (replicate (max_checks + 1) 0) (replicate max_edges 0) → r ≡ Ok z → Opened file z.bits z.checks z.edges s ms
opened-whole file {r} e h = load-opened file _ _ r e h
