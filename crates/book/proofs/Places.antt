-- Where parts stand in the book.
use Rattle.std.proofs.Common.{◌≡◌, ℕ, suc, ◌+◌, ◌-◌, ◌≤◌, List, [], ◌∷◌, ◌++◌, length, take, drop, Some, Ok, sym, ap, ◌∙◌, append_assoc, arith, length-append, length-drop}
use Rattle.std.proofs.lemmas.List.{drop-drop}
use Rattle.std.proofs.Math.Seq.{drop-append_seam, take-append_seam, drop-append-add}
use Rattle.book.specs.declared.part.Part.{Part}
use Rattle.book.specs.declared.lines.Line.{Line}
use Rattle.book.specs.declared.lines.Line.TheVariants.{Station, Tie}
use Rattle.book.specs.Reading.{line_read}
use Rattle.book.specs.Shown.{Halves, Stands, Placed, part_of, shape_of}
use Rattle.book.proofs.Accepts.{line_spelled}

-- what lies at a place in the book stands there
stands_at : (b : List ℕ) (at : ℕ) (p : Part) (front back : List ℕ) → at ≤ length b → drop at b ≡ front ++ (p.bytes.now ++ back) → p.at ≡ at + length front → Stands b p
stands_at b at p front back h e a =
    let n = length p.bytes.now in
    let long : length b - at ≡ length front + (n + length back) = sym (length-drop at b) ∙ ap length e ∙ (simp length-append) in
    record {
      inside = omega arith;
      same = sym (ap (λ k. take n (drop k b)) a ∙ ap (take n) (sym (drop-drop (length front) at b) ∙ ap (drop (length front)) e ∙ drop-append_seam front (p.bytes.now ++ back)) ∙ take-append_seam p.bytes.now back);
    }

-- what follows a line is the rest of the book
pub rest_left : (b : List ℕ) (t l s : Part) → t.bytes.now ≡ drop t.at b → Halves 10 t l (Some s) → s.bytes.now ≡ drop s.at b
rest_left b t l s h cut =
    let n = length l.bytes.now in
    let q : s.at ≡ t.at + (n + 1) = cut.3 ∙ (omega arith) in
    sym (ap (λ k. drop k b) q ∙ sym (drop-drop (n + 1) t.at b) ∙ ap (drop (n + 1)) (sym h ∙ cut.1) ∙ drop-append-add l.bytes.now (10 ∷ s.bytes.now) 1)

-- and begins in the book
pub rest_within : (b : List ℕ) (t l s : Part) → t.at ≤ length b → t.bytes.now ≡ drop t.at b → Halves 10 t l (Some s) → s.at ≤ length b
rest_within b t l s w h cut =
    let long : length b - t.at ≡ length l.bytes.now + suc (length s.bytes.now) = sym (length-drop t.at b) ∙ ap length (sym h ∙ cut.1) ∙ (simp length-append) in
    omega (arith, cut.3)

-- the names of a line that is read stand in the book
pub placed_by : (b : List ℕ) (t l s : Part) (x : Line) → t.at ≤ length b → t.bytes.now ≡ drop t.at b → Halves 10 t l (Some s) → line_read t.at l.bytes.now ≡ Ok (shape_of x) → Placed b x
placed_by b t l s (Station w) g h cut e =
    let p = line_spelled t.at l.bytes.now (shape_of (Station w)) e in
    stands_at b t.at (part_of w) (83 ∷ 32 ∷ []) (10 ∷ s.bytes.now) g (sym h ∙ cut.1 ∙ ap (λ x. x ++ 10 ∷ s.bytes.now) p.0) (p.2 ∙ (omega arith))
placed_by b t l s (Tie w x) g h cut e =
    let p = line_spelled t.at l.bytes.now (shape_of (Tie w x)) e in
    let q : drop t.at b ≡ (84 ∷ 32 ∷ ((part_of w).bytes.now ++ 32 ∷ (part_of x).bytes.now)) ++ 10 ∷ s.bytes.now = sym h ∙ cut.1 ∙ ap (λ y. y ++ 10 ∷ s.bytes.now) p.0 in
    let first = part_of w in (
      stands_at b t.at first (84 ∷ 32 ∷ []) (32 ∷ ((part_of x).bytes.now ++ 10 ∷ s.bytes.now)) g (q ∙ (simp append_assoc)) (p.3 ∙ (omega arith)),
      stands_at b t.at (part_of x) (84 ∷ 32 ∷ (first.bytes.now ++ 32 ∷ [])) (10 ∷ s.bytes.now) g (q ∙ (simp append_assoc)) (p.4 ∙ (simp length-append (omega arith))),
    )
