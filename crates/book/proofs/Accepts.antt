-- The book is accepted exactly when sound entries spell it.
use Rattle.std.proofs.Common.{◌≡◌, ℕ, ◌+◌, ◌≤◌, true, false, cond, ◌||◌, eqb, ltb, List, [], ◌∷◌, ◌++◌, length, get_or, Some, None, Ok, Err, Option, Result, sym, refl, ap, ◌∙◌, subst, inl, inr, ⊎_elim, append_assoc, arith}
use Rattle.std.proofs.lemmas.List.{append-nil}
use Rattle.std.proofs.lemmas.Bool.{cond-true, cond-false, cases_Bool, cases_eq, lt-ltb, le-ltb, ltb-true, ltb-false, eqb-true, eqb-false, ne_eqb, or_parts, or_from, both_ways}
use Rattle.book.specs.FirstFault.{Lacks}
use Rattle.book.specs.Grammar.{Name, WellFormed}
use Rattle.book.proofs.Entries.{Follows, SoundAfter, Entries, spell, spelled}
use Rattle.book.specs.declared.faults.Layer.TheVariants.{Line as line_layer, Book as book_layer}
use Rattle.book.specs.Faults.{Spot, Fault, fault_in, spot_at}
use Rattle.book.specs.Reading.{Entry, station, tie, stations, found, given_read, ties_read, shape_read, entry_read, onward, lines_read, last_read, reading, words_read, line_read, Shape, gives, ties, split, next, empty, is_byte, unless, name_fault, after_s, after_t}
use Rattle.book.proofs.Splits.{split_cons}
use Rattle.book.proofs.Splits.{unsplit, unsplit_split, split_lacks, split_only, name_lacks, fault_none, none_fault, not_empty, found_at, none_among, found_cases, among_some, among_none}

-- the line has the shape, its second word being at r
abbrev pub Spells : ℕ → Shape → List ℕ → Type 0
Spells r (gives a p) l = (l ≡ 83 ∷ 32 ∷ a) × WellFormed a × (p ≡ r)
Spells r (ties a p b q) l = (l ≡ 84 ∷ 32 ∷ (a ++ 32 ∷ b)) × WellFormed a × WellFormed b × (p ≡ r) × (q ≡ next r a)

-- a word that is one byte
pub is_byte_lem : (c : ℕ) (w : List ℕ) → is_byte c w ≡ true → w ≡ c ∷ []
is_byte_lem c [] e = absurd (both_ways false refl e)
is_byte_lem c (b ∷ []) e = ap (λ x. x ∷ []) (eqb-true b c e)
is_byte_lem c (b ∷ d ∷ w) e = absurd (both_ways false refl e)

-- a shape comes out only where there was no fault before it
unless_ok : (o : Option Spot) (r : Result Shape Spot) (sh : Shape) → unless o r ≡ Ok sh → (o ≡ None) × (r ≡ Ok sh)
unless_ok None r sh e = (refl, e)
unless_ok (Some s) r sh e = let z : ◌≡◌ {A = ℕ} 0 1 = cc in absurd (omega arith)

-- a fault is no answer
pub no_shape : {A : Type 0} {B : Type 0} (s : Spot) (x : A) → ◌≡◌ {A = Result A Spot} (Err s) (Ok x) → B
no_shape s x e = let z : ◌≡◌ {A = ℕ} 0 1 = cc in absurd (omega arith)

-- what is read after S was spelled
after_s_spells : (at p : ℕ) (ws : List (List ℕ)) (sh : Shape) → after_s at p ws ≡ Ok sh → Spells p sh (unsplit 32 ((83 ∷ []) ∷ ws))
after_s_spells at p [] sh e = no_shape _ sh e
after_s_spells at p (a ∷ b ∷ ws) sh e = no_shape _ sh e
after_s_spells at p (a ∷ []) sh e =
    ⊎_elim
    (λ (t : empty a ≡ true). no_shape (spot_at line_layer 23 at) sh (sym (cond-true (empty a) (Err (spot_at line_layer 23 at)) (unless (name_fault p a) (Ok (gives a p))) t) ∙ e))
    (λ (t : empty a ≡ false).
    let u = unless_ok (name_fault p a) (Ok (gives a p)) sh (sym (cond-false (empty a) (Err (spot_at line_layer 23 at)) (unless (name_fault p a) (Ok (gives a p))) t) ∙ e) in
    let v = u.1 in
    let q : gives a p ≡ sh = cc in
    subst (λ s. Spells p s (83 ∷ 32 ∷ a)) q (refl, fault_none p a u.0 t, refl))
    (cases_Bool (empty a))

-- what is read after T was spelled
after_t_spells : (at p : ℕ) (ws : List (List ℕ)) (sh : Shape) → after_t at p ws ≡ Ok sh → Spells p sh (unsplit 32 ((84 ∷ []) ∷ ws))
after_t_spells at p [] sh e = no_shape _ sh e
after_t_spells at p (a ∷ []) sh e = no_shape _ sh e
after_t_spells at p (a ∷ b ∷ c ∷ ws) sh e = no_shape _ sh e
after_t_spells at p (a ∷ b ∷ []) sh e =
    let n = next p a in
    let r : Result Shape Spot = unless (name_fault p a) (unless (name_fault n b) (Ok (ties a p b n))) in
    ⊎_elim
    (λ (t : (empty a || empty b) ≡ true). no_shape (spot_at line_layer 23 at) sh (sym (cond-true (empty a || empty b) (Err (spot_at line_layer 23 at)) r t) ∙ e))
    (λ (t : (empty a || empty b) ≡ false).
    let u = unless_ok (name_fault p a) (unless (name_fault n b) (Ok (ties a p b n))) sh (sym (cond-false (empty a || empty b) (Err (spot_at line_layer 23 at)) r t) ∙ e) in
    let v = unless_ok (name_fault n b) (Ok (ties a p b n)) sh u.1 in
    let both = or_parts (empty a) (empty b) t in
    let w = v.1 in
    let q : ties a p b n ≡ sh = cc in
    subst (λ s. Spells p s (84 ∷ 32 ∷ (a ++ 32 ∷ b))) q (refl, fault_none p a u.0 both.0, fault_none n b v.0 both.1, refl, refl))
    (cases_Bool (empty a || empty b))

-- a line whose words are read was spelled so
words_spelled : (at : ℕ) (ws : List (List ℕ)) (sh : Shape) → words_read at ws ≡ Ok sh → Spells (next at (83 ∷ [])) sh (unsplit 32 ws)
words_spelled at [] sh e = no_shape _ sh e
words_spelled at (w ∷ ws) sh e =
    let S = after_s at (next at w) ws in
    let T = after_t at (next at w) ws in
    let N : Result Shape Spot = Err (spot_at line_layer 22 at) in
    ⊎_elim
    (λ (s : is_byte 83 w ≡ true). subst (λ x. Spells (next at (83 ∷ [])) sh (unsplit 32 (x ∷ ws))) (sym (is_byte_lem 83 w s)) (subst (λ x. Spells (next at x) sh (unsplit 32 ((83 ∷ []) ∷ ws))) (is_byte_lem 83 w s) (after_s_spells at (next at w) ws sh (sym (cond-true (is_byte 83 w) S (cond (is_byte 84 w) T N) s) ∙ e))))
    (λ (s : is_byte 83 w ≡ false).
    let f = sym (cond-false (is_byte 83 w) S (cond (is_byte 84 w) T N) s) ∙ e in
    ⊎_elim
    (λ (t : is_byte 84 w ≡ true). subst (λ x. Spells (next at (83 ∷ [])) sh (unsplit 32 (x ∷ ws))) (sym (is_byte_lem 84 w t)) (subst (λ x. Spells (next at x) sh (unsplit 32 ((84 ∷ []) ∷ ws))) (is_byte_lem 84 w t) (after_t_spells at (next at w) ws sh (sym (cond-true (is_byte 84 w) T N t) ∙ f))))
    (λ (t : is_byte 84 w ≡ false). no_shape (spot_at line_layer 22 at) sh (sym (cond-false (is_byte 84 w) T N t) ∙ f))
    (cases_Bool (is_byte 84 w)))
    (cases_Bool (is_byte 83 w))

-- a line that is read was spelled so
pub line_spelled : (at : ℕ) (l : List ℕ) (sh : Shape) → line_read at l ≡ Ok sh → Spells (next at (83 ∷ [])) sh l
line_spelled at l sh e = subst (Spells (next at (83 ∷ [])) sh) (unsplit_split 32 l) (words_spelled at (split 32 l) sh e)

-- a shape that is taken among the stations above may follow them
pub shape_follows : (above : List Entry) (k : ℕ) (sh : Shape) (e : Entry) (l : List ℕ) → shape_read (stations above) sh ≡ Ok e → Spells k sh l → (l ++ 10 ∷ [] ≡ spell e) × Follows above e
shape_follows above k (gives a p) e l r s =
    let ns = stations above in
    elim (found_cases (found a ns)) [
      | inl n ↦
          (let f = sym (ap (given_read ns a p) n) ∙ r in
          ⊎_elim
          (λ (t : ltb (length ns) 256 ≡ true).
          let g = sym (cond-true (ltb (length ns) 256) (Ok (station a)) (Err (spot_at book_layer 29 p)) t) ∙ f in
          let q : station a ≡ e = cc in
          subst (λ x. (l ++ 10 ∷ [] ≡ spell x) × Follows above x) q (ap (λ x. x ++ 10 ∷ []) s.0, (s.1, none_among 0 a ns n, ltb-true (length ns) 256 t)))
          (λ (t : ltb (length ns) 256 ≡ false). no_shape (spot_at book_layer 29 p) e (sym (cond-false (ltb (length ns) 256) (Ok (station a)) (Err (spot_at book_layer 29 p)) t) ∙ f))
          (cases_Bool (ltb (length ns) 256)))
      | inr m ↦ no_shape (spot_at book_layer 26 p) e (sym (ap (given_read ns a p) m.1) ∙ r)
    ]
shape_follows above k (ties a p b q) e l r s =
    let ns = stations above in
    elim (found_cases (found a ns)) [
      | inl n ↦ no_shape (spot_at book_layer 27 p) e (sym (ap (λ x. ties_read a p b q x (found b ns)) n) ∙ r)
      | inr u ↦
          (let f = sym (ap (λ x. ties_read a p b q x (found b ns)) u.1) ∙ r in
          elim (found_cases (found b ns)) [
            | inl n ↦ no_shape (spot_at book_layer 27 q) e (sym (ap (ties_read a p b q (Some u.0)) n) ∙ f)
            | inr v ↦
                (let g = sym (ap (ties_read a p b q (Some u.0)) v.1) ∙ f in
                ⊎_elim
                (λ (t : eqb u.0 v.0 ≡ true). no_shape (spot_at book_layer 28 q) e (sym (cond-true (eqb u.0 v.0) (Err (spot_at book_layer 28 q)) (Ok (tie a b)) t) ∙ g))
                (λ (t : eqb u.0 v.0 ≡ false).
                let h = sym (cond-false (eqb u.0 v.0) (Err (spot_at book_layer 28 q)) (Ok (tie a b)) t) ∙ g in
                let z : tie a b ≡ e = cc in
                let fa = found_at 0 a ns u.0 u.1 in
                let fb = found_at 0 b ns v.0 v.1 in
                let differ : a ≡ b → ⊥ = λ d. eqb-false u.0 v.0 t (let m = sym u.1 ∙ ap (λ x. found x ns) d ∙ v.1 in cc) in
                subst (λ x. (l ++ 10 ∷ [] ≡ spell x) × Follows above x) z (
                  ap (λ x. x ++ 10 ∷ []) s.0 ∙ ap (λ x. 84 ∷ 32 ∷ x) (append_assoc a (32 ∷ b) (10 ∷ [])),
                  (s.1, s.2, (fa.0, fa.2, fa.3), (fb.0, fb.2, fb.3), differ),
                ))
                (cases_Bool (eqb u.0 v.0)))
          ])
    ]

-- what is spelled is read
abbrev pub bare : Entry → List ℕ
bare (station a) = 83 ∷ 32 ∷ a
bare (tie a b) = 84 ∷ 32 ∷ (a ++ 32 ∷ b)

-- an entry is its bare line and byte 10
pub spell_bare : (e : Entry) (t : List ℕ) → spell e ++ t ≡ bare e ++ 10 ∷ t
spell_bare (station a) t = ap (λ x. 83 ∷ 32 ∷ x) (append_assoc a (10 ∷ []) t)
spell_bare (tie a b) t = ap (λ x. 84 ∷ 32 ∷ x) (append_assoc a (32 ∷ (b ++ 10 ∷ [])) t ∙ ap (λ x. a ++ 32 ∷ x) (append_assoc b (10 ∷ []) t) ∙ sym (append_assoc a (32 ∷ b) (10 ∷ t)))

-- what two lists lack, both lack together
lacks_both : (c : ℕ) (p q : List ℕ) → Lacks c p → Lacks c q → Lacks c (p ++ q)
lacks_both c [] q h k = k
lacks_both c (x ∷ p) q h k = (h.0, lacks_both c p q h.1 k)

-- a bare line has no byte 10
pub bare_lacks : (above : List Entry) (e : Entry) → Follows above e → Lacks 10 (bare e)
bare_lacks above (station a) f = (λ e. omega arith, (λ e. omega arith, name_lacks 10 a refl f.0.bytes))
bare_lacks above (tie a b) f = (λ e. omega arith, (λ e. omega arith, lacks_both 10 a (32 ∷ b) (name_lacks 10 a refl f.0.bytes) (λ e. omega arith, name_lacks 10 b refl f.1.bytes)))

-- the bare line of an entry that may follow is read as the entry
pub entry_read_lem : (above : List Entry) (at : ℕ) (e : Entry) → Follows above e → entry_read (stations above) (line_read at (bare e)) ≡ Ok e
entry_read_lem above at (station a) f =
    let ns = stations above in
    let p = next at (83 ∷ []) in
    ap (entry_read ns)
    (ap (λ s. words_read at ((83 ∷ []) ∷ s)) (split_only 32 a (name_lacks 32 a refl f.0.bytes))
    ∙ cond-false (empty a) (Err (spot_at line_layer 23 at)) (unless (name_fault p a) (Ok (gives a p))) (not_empty a f.0)
    ∙ ap (λ o. unless o (Ok (gives a p))) (none_fault p a f.0))
    ∙ ap (given_read ns a p) (among_none a ns f.1)
    ∙ cond-true (ltb (length ns) 256) (Ok (station a)) (Err (spot_at book_layer 29 p)) (lt-ltb (length ns) 256 f.2)
entry_read_lem above at (tie a b) f =
    let ns = stations above in
    let p = next at (84 ∷ []) in
    let q = next p a in
    let u = among_some a ns f.2 in
    let v = among_some b ns f.3 in
    let fu = found_at 0 a ns u.0 u.1 in
    let fv = found_at 0 b ns v.0 v.1 in
    let differ : u.0 ≡ v.0 → ⊥ = λ d. f.4 (sym fu.3 ∙ ap (λ j. get_or ns j []) (omega (arith, fu.1, fv.1)) ∙ fv.3) in
    ap (entry_read ns)
    (ap (λ s. words_read at ((84 ∷ []) ∷ s)) (split_lacks 32 a b (name_lacks 32 a refl f.0.bytes) ∙ ap (λ s. a ∷ s) (split_only 32 b (name_lacks 32 b refl f.1.bytes)))
    ∙ cond-false (empty a || empty b) (Err (spot_at line_layer 23 at)) (unless (name_fault p a) (unless (name_fault q b) (Ok (ties a p b q)))) (or_from (empty a) (empty b) (not_empty a f.0) (not_empty b f.1))
    ∙ ap (λ o. unless o (unless (name_fault q b) (Ok (ties a p b q)))) (none_fault p a f.0)
    ∙ ap (λ o. unless o (Ok (ties a p b q))) (none_fault q b f.1))
    ∙ ap (λ x. ties_read a p b q x (found b ns)) u.1
    ∙ ap (ties_read a p b q (Some u.0)) v.1
    ∙ cond-false (eqb u.0 v.0) (Err (spot_at book_layer 28 q)) (Ok (tie a b)) (ne_eqb u.0 v.0 differ)

-- all the lines
pub entry_ok : (ns : List Name) (x : Result Shape Spot) (e : Entry) → entry_read ns x ≡ Ok e → (sh : Shape) × (x ≡ Ok sh) × (shape_read ns sh ≡ Ok e)
entry_ok ns (Err s) e h = no_shape s e h
entry_ok ns (Ok sh) e h = (sh, refl, h)

-- on with an entry only where one was read
onward_ok : (k : ℕ) (r : Result Entry Spot) (f : Entry → Result (List Entry) Fault) (all : List Entry) → onward k r f ≡ Ok all → (e : Entry) × (r ≡ Ok e) × (f e ≡ Ok all)
onward_ok k (Err s) f all h = let z : ◌≡◌ {A = ℕ} 0 1 = cc in absurd (omega arith)
onward_ok k (Ok e) f all h = (e, refl, h)

-- the lines are those of sound entries below the entries above
pub record Told (above : List Entry) (text : List ℕ) (all : List Entry) : Type 0 where
  pub es : List Entry
  pub whole : all ≡ above ++ es
  pub text_is : text ≡ spelled es
  pub sound : SoundAfter above es
  pub any : 1 ≤ length (stations all)

-- nothing may stand after the last byte 10
last_told : (above : List Entry) (at k : ℕ) (l : List ℕ) (all : List Entry) → last_read above at k l ≡ Ok all → Told above l all
last_told above at k (x ∷ l) all e = let z : ◌≡◌ {A = ℕ} 0 1 = cc in absurd (omega arith)
last_told above at k [] all e =
    let n = length (stations above) in
    let F : Result (List Entry) Fault = Err (fault_in 0 (spot_at book_layer 30 at)) in
    ⊎_elim
    (λ (t : eqb n 0 ≡ true). let f = sym (cond-true (eqb n 0) F (Ok above) t) ∙ e in let z : ◌≡◌ {A = ℕ} 0 1 = cc in absurd (omega arith))
    (λ (t : eqb n 0 ≡ false).
    let f = sym (cond-false (eqb n 0) F (Ok above) t) ∙ e in
    let q : above ≡ all = cc in
    let some : 1 ≤ n = (let d = eqb-false n 0 t in elim (cases_eq n 0) [ inl z ↦ absurd (d z) | inr nz ↦ omega arith ]) in
    record { es = []; whole = sym q ∙ sym (append-nil above); text_is = refl; sound = tt; any = subst (λ x. 1 ≤ length (stations x)) q some })
    (cases_Bool (eqb n 0))

-- lines that are read were spelled by sound entries
pub lines_told : (above : List Entry) (at k : ℕ) (l : List ℕ) (ls : List (List ℕ)) (all : List Entry) → lines_read above at k (l ∷ ls) ≡ Ok all → Told above (unsplit 10 (l ∷ ls)) all
lines_told above at k l [] all h = last_told above at k l all h
lines_told above at k l (m ∷ ls) all h =
    let o = onward_ok k (entry_read (stations above) (line_read at l)) (λ e. lines_read (above ++ e ∷ []) (next at l) (k + 1) (m ∷ ls)) all h in
    let e = o.0 in
    let x = entry_ok (stations above) (line_read at l) e o.1 in
    let s = shape_follows above (next at (83 ∷ [])) x.0 e l x.2 (line_spelled at l x.0 x.1) in
    let t = lines_told (above ++ e ∷ []) (next at l) (k + 1) m ls all o.2 in
    record {
      es = e ∷ t.es;
      whole = t.whole ∙ append_assoc above (e ∷ []) t.es;
      text_is = sym (append_assoc l (10 ∷ []) (unsplit 10 (m ∷ ls))) ∙ ap (λ y. y ++ unsplit 10 (m ∷ ls)) s.0 ∙ ap (λ y. spell e ++ y) t.text_is;
      sound = (s.1, t.sound);
      any = t.any;
    }

-- lines that sound entries spell are read as these entries
pub lines_read_lem : (above : List Entry) (at k : ℕ) (es : List Entry) → SoundAfter above es → 1 ≤ length (stations (above ++ es)) → lines_read above at k (split 10 (spelled es)) ≡ Ok (above ++ es)
lines_read_lem above at k [] s h =
    let F : Result (List Entry) Fault = Err (fault_in 0 (spot_at book_layer 30 at)) in
    let n : 1 ≤ length (stations above) = subst (λ x. 1 ≤ length (stations x)) (append-nil above) h in
    cond-false (eqb (length (stations above)) 0) F (Ok above) (ne_eqb (length (stations above)) 0 (λ z. omega arith)) ∙ ap Ok (sym (append-nil above))
lines_read_lem above at k (e ∷ es) s h =
    let q = split_cons 10 (spelled es) in
    let go : Entry → List (List ℕ) → Result (List Entry) Fault = λ d ls. lines_read (above ++ d ∷ []) (next at (bare e)) (k + 1) ls in
    ap (lines_read above at k) (ap (split 10) (spell_bare e (spelled es)) ∙ split_lacks 10 (bare e) (spelled es) (bare_lacks above e s.0) ∙ ap (λ r. bare e ∷ r) q.2)
    ∙ ap (λ r. onward k r (λ d. go d (q.0 ∷ q.1))) (entry_read_lem above at e s.0)
    ∙ ap (go e) (sym q.2)
    ∙ lines_read_lem (above ++ e ∷ []) (next at (bare e)) (k + 1) es s.1 (subst (λ x. 1 ≤ length (stations x)) (sym (append_assoc above (e ∷ []) es)) h)
    ∙ ap Ok (append_assoc above (e ∷ []) es)

-- a book of at most 65,536 bytes that is read was spelled by sound entries
pub accepts : (b : List ℕ) (es : List Entry) → length b ≤ 65536 → lines_read [] 0 1 (split 10 b) ≡ Ok es → Entries es b
accepts b all h r =
    let q = split_cons 10 b in
    let t = lines_told [] 0 1 q.0 q.1 all (ap (lines_read [] 0 1) (sym q.2) ∙ r) in
    let same : t.es ≡ all = sym t.whole in
    let text : unsplit 10 (q.0 ∷ q.1) ≡ b = ap (unsplit 10) (sym q.2) ∙ unsplit_split 10 b in
    record {
      spelling = sym text ∙ t.text_is ∙ ap spelled same;
      sound = record { each = subst (SoundAfter []) same t.sound; any = t.any };
      small = h;
    }

-- a book that is not too large is read line by line
pub reading_small : (b : List ℕ) → length b ≤ 65536 → reading b ≡ lines_read [] 0 1 (split 10 b)
reading_small b h = cond-false (ltb 65536 (length b)) (Err (fault_in 0 (spot_at book_layer 20 (length b)))) (lines_read [] 0 1 (split 10 b)) (le-ltb 65536 (length b) h)

-- what is read is spelled by sound entries
pub accepts_all : (b : List ℕ) (es : List Entry) → reading b ≡ Ok es → Entries es b
accepts_all b es r =
    let F : Result (List Entry) Fault = Err (fault_in 0 (spot_at book_layer 20 (length b))) in
    ⊎_elim
    (λ (t : ltb 65536 (length b) ≡ true). let f = sym (cond-true (ltb 65536 (length b)) F (lines_read [] 0 1 (split 10 b)) t) ∙ r in let z : ◌≡◌ {A = ℕ} 0 1 = cc in absurd (omega arith))
    (λ (t : ltb 65536 (length b) ≡ false). accepts b es (ltb-false 65536 (length b) t) (sym (cond-false (ltb 65536 (length b)) F (lines_read [] 0 1 (split 10 b)) t) ∙ r))
    (cases_Bool (ltb 65536 (length b)))

-- a book that sound entries spell is read as these entries
pub reads : (es : List Entry) (b : List ℕ) → Entries es b → reading b ≡ Ok es
reads es b e = reading_small b e.small ∙ ap (λ x. lines_read [] 0 1 (split 10 x)) e.spelling ∙ lines_read_lem [] 0 1 es e.sound.each e.sound.any

-- no other entries spell a book that is read
pub alone : (b : List ℕ) (es fs : List Entry) → Entries es b → reading b ≡ Ok fs → es ≡ fs
alone b es fs e r = let p = reads es b e in cc

-- no entries spell a book that has a fault
pub nothing : (b : List ℕ) (f : Fault) (es : List Entry) → reading b ≡ Err f → Entries es b → ⊥
nothing b f es r e = let p = reads es b e in let z : ◌≡◌ {A = ℕ} 0 1 = cc in omega arith
