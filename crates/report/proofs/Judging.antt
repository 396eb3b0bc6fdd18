-- From what reading and judging promise to what the judgement promises.
use Rattle.std.proofs.Common.{◌≡◌, ℕ, ◌-◌, ◌<◌, ◌≤◌, Bool, true, false, cond, ◌||◌, eqb, List, [], ◌∷◌, length, get_or, take, drop, Ok, Err, Result, sym, refl, ap, ◌∙◌, subst, inl, inr, arith, length-append}
use Rattle.std.proofs.lemmas.List.{take_at, get_or_append_left, get_or-append_right}
use Rattle.std.proofs.lemmas.Bool.{cases_lt}
use Rattle.graph.specs.Graphs.{Graph, Order, at}
use Rattle.store.specs.declared.refusal.Refusal.{Refusal}
use Rattle.store.specs.declared.matrix.Matrix.{Matrix}
use Rattle.store.specs.Nets.{Net, standing}
use Rattle.store.specs.Squares.{wiped}
use Rattle.store.specs.Matrices.{bytes_of, net_of}
use Rattle.search.specs.declared.judging.Verdict.{Verdict}
use Rattle.search.specs.declared.judging.Verdict.TheVariants.{Chordal, Ring}
use Rattle.search.specs.Calls.{Says}
use Rattle.search.specs.Searches.{SearchMade}
use Rattle.search.specs.Strips.{zeroed, fronted}
use Rattle.search.proofs.Standing.{moved}
use Rattle.book.specs.declared.reader.ReadError.{ReadError}
use Rattle.book.specs.declared.reader.ReadError.TheVariants.{Store, Book}
use Rattle.book.specs.declared.names.Names.{Names}
use Rattle.book.specs.Grammar.{Name, Lines, none, station, tie, tied}
use Rattle.book.specs.Faults.{fault_of}
use Rattle.book.specs.Promise.{Accepted, Reads, Holds}
use Rattle.book.specs.Tables.{names_in}
use Rattle.book.proofs.Table.{names_length, names_at}
use Rattle.report.specs.Judgements.{AreasLong, Judged, Judgements, chordal, ring, refused}
use Rattle.report.specs.Lines.{Wrote}
use Rattle.report.specs.Promise.{Explains}
use Rattle.report.specs.Verdicts.{shown, verdict_text, Named, ShowsVerdict, chordal_text, ring_text}

-- a field book's names have at most 12 bytes
names_short : {text : List ℕ} {names : List Name} {ties : List (Name × Name)} → Lines text names ties → (u : ℕ) → u < length names → length (get_or names u []) ≤ 12
names_short none u l = absurd (omega arith)
names_short (station {names = names} a lines well new few) u l =
    elim (cases_lt u (length names)) [
      | inl k ↦ subst (λ x. length x ≤ 12) (sym (get_or_append_left names (a ∷ []) [] u k)) (names_short lines u k)
      | inr k ↦
          let e : u - length names ≡ 0 = omega (arith, length-append names (a ∷ [])) in
          subst (λ x. length x ≤ 12) (sym (get_or-append_right names (a ∷ []) (length names) u [] refl k ∙ ap (λ i. get_or (a ∷ []) i []) e)) well.short
    ]
names_short (tie a b lines one other apart) u l = names_short lines u l

one_or_none : (t : Bool) → (eqb (cond t 1 0) 1 || eqb (cond t 1 0) 2) ≡ t
one_or_none true = refl
one_or_none false = refl

module _ {book : List ℕ} {table : Names} {old new : Matrix} (a : Accepted book table old new) where
  pub count_is : table.count ≡ length a.names
  count_is = sym (names_length book table table.count) ∙ ap length a.listed

  size_is : (net_of new).size ≡ length a.names
  size_is = ap (λ (net : Net). net.size) a.net

  -- what stands in the matrix is what the book ties
  stands_tied : (u v : ℕ) → standing (net_of new) u v ≡ tied a.names a.ties u v
  stands_tied u v = ap (λ (net : Net). standing net u v) a.net ∙ one_or_none (tied a.names a.ties u v)

  -- what holds of the standing network holds of the book's
  pub of_book : (P : ℕ → Graph → Type 0) → P (net_of new).size (standing (net_of new)) → P (length a.names) (tied a.names a.ties)
  of_book P = moved P (net_of new).size (length a.names) (standing (net_of new)) (tied a.names a.ties) size_is stands_tied

  -- the strip begins with stations of the book
  pub named : (stations : List ℕ) → ((i : ℕ) → i < length stations → at stations i < length a.names) → Named book table stations
  named stations below =
      record {
        inside = a.inside;
        known = λ i l. subst (λ n. at stations i < n) (sym count_is) (below i l);
        short = λ v l.
            subst (λ x. length x ≤ 12) (ap (λ ns. get_or ns v []) (sym a.listed) ∙ names_at book table table.count v l)
            (names_short a.follows.lines v (subst (λ n. v < n) count_is l));
      }

-- the strip begins with the stations that show the verdict
module _ (n : ℕ) (g : Graph) (order strip strip' : List ℕ) where
  front : (list : List ℕ) (k : ℕ) → length list ≡ k → strip' ≡ fronted list strip → take k strip' ≡ list
  front list k e f = ap (take k) f ∙ take_at list (drop (length list) strip) k e

  pub shown_few : (v : Verdict) → n ≤ 256 → Says n g order strip strip' v → shown n v ≤ 256
  shown_few Chordal few s = few
  shown_few (Ring k) few s = s.1.3

  pub shown_below :
      (v : Verdict) → Order n order → Says n g order strip strip' v → (i : ℕ) → i < length (take (shown n v) strip') → at (take (shown n v) strip') i < n
  shown_below Chordal o s =
      subst (λ xs. (i : ℕ) → i < length xs → at xs i < n) (sym (front order n o.full s.2)) (λ i l. o.below i (omega (arith, o.full)))
  shown_below (Ring k) o s =
      let r = s.1 in
      subst (λ xs. (i : ℕ) → i < length xs → at xs i < n) (sym (front r.0 k r.2 r.4)) r.1.below

module _ {L : Type 0} (blank : L) (raise : L → ℕ → L) (less : L → L → Bool) {book : List ℕ} {table : Names} {old new : Matrix} (a : Accepted book table old new)
    (area final : List ℕ) (labels labels' : List L) (strip strip' marks marks' : List ℕ)
    (begin : bytes_of old ≡ area) (end : final ≡ bytes_of new) (zero : marks' ≡ zeroed marks) where
  abbrev n : ℕ
  n = length a.names

  abbrev tie_graph : Graph
  tie_graph = tied a.names a.ties

  held : Holds a.names a.ties area final
  held = subst (λ x. Holds a.names a.ties x final) begin (subst (Holds a.names a.ties (bytes_of old)) (sym end) a.bytes)

  text_judged :
      (v : Verdict) (order : List ℕ) → SearchMade blank raise less n tie_graph order labels labels' → Says n tie_graph order strip strip' v →
      Judged blank raise less book area final labels labels' strip strip' marks marks' (verdict_text a.names (take (shown n v) strip') v)
  text_judged Chordal order made s =
      subst (λ xs. Judged blank raise less book area final labels labels' strip strip' marks marks' (chordal_text a.names xs))
      (sym (front n tie_graph order strip strip' order n made.searched.order.full s.2))
      (chordal a.names a.ties order a.follows held made s.0 s.1 s.2 zero)
  text_judged (Ring k) order made s =
      let r = s.1 in
      subst (λ xs. Judged blank raise less book area final labels labels' strip strip' marks marks' (ring_text a.names xs k))
      (sym (front n tie_graph order strip strip' r.0 k r.2 r.4))
      (subst (λ j. Judged blank raise less book area final labels labels' strip strip' marks marks' (ring_text a.names r.0 j)) r.2
      (ring a.names a.ties order r.0 a.follows held made r.1 r.4 zero))

  pub judged_wrote :
      (v : Verdict) (out out' : List ℕ) (written : ℕ) →
      ((order : List ℕ) × SearchMade blank raise less (net_of new).size (standing (net_of new)) order labels labels'
      × Says (net_of new).size (standing (net_of new)) order strip strip' v) →
      Wrote (verdict_text (names_in book table) (take (shown table.count v) strip') v) out out' written →
      (text : List ℕ) × Judged blank raise less book area final labels labels' strip strip' marks marks' text × Wrote text out out' written
  judged_wrote v out out' written m w = (
    verdict_text a.names (take (shown n v) strip') v,
    text_judged v m.0
        (of_book a (λ k h. SearchMade blank raise less k h m.0 labels labels') m.1)
        (of_book a (λ k h. Says k h m.0 strip strip' v) m.2),
    subst (λ k. Wrote (verdict_text a.names (take (shown k v) strip') v) out out' written) (count_is a)
        (subst (λ ns. Wrote (verdict_text ns (take (shown table.count v) strip') v) out out' written) a.listed w),
  )

-- what the text of a verdict asks of the strip
pub judged_shown :
    {L : Type 0} (blank : L) (raise : L → ℕ → L) (less : L → L → Bool) {book : List ℕ} {table : Names} {old new : Matrix} (a : Accepted book table old new)
    (labels labels' : List L) (strip strip' : List ℕ) (v : Verdict) → 256 ≤ length strip' →
    ((order : List ℕ) × SearchMade blank raise less (net_of new).size (standing (net_of new)) order labels labels'
    × Says (net_of new).size (standing (net_of new)) order strip strip' v) →
    ShowsVerdict book table strip' v
judged_shown blank raise less {book} {table} a labels labels' strip strip' v long m =
    let n = length a.names in
    let g = tied a.names a.ties in
    let made = of_book a (λ k h. SearchMade blank raise less k h m.0 labels labels') m.1 in
    let says = of_book a (λ k h. Says k h m.0 strip strip' v) m.2 in
    let few : shown table.count v ≤ 256 = subst (λ k. shown k v ≤ 256) (sym (count_is a)) (shown_few n g m.0 strip strip' v a.network.few says) in
    record {
      few = few;
      within = omega arith;
      named =
          subst (λ k. Named book table (take (shown k v) strip')) (sym (count_is a))
          (named a (take (shown n v) strip') (shown_below n g m.0 strip strip' v made.searched.order says));
    }

-- a book that is not read is judged by its fault, since the area is long enough for a store
pub error_judged :
    {L : Type 0} (blank : L) (raise : L → ℕ → L) (less : L → L → Bool) (book area final : List ℕ) (labels : List L) (strip marks out out' : List ℕ) (old new : Matrix)
    (error : ReadError) (answer : Result ℕ Refusal) → bytes_of old ≡ area → final ≡ bytes_of new → AreasLong area out →
    256 ≤ length strip → 256 ≤ length labels → 256 ≤ length marks → Reads book old new (Err error) → Explains error out out' answer →
    Judgements blank raise less book area final labels labels strip strip marks marks out out' answer
error_judged blank raise less book area final labels strip marks out out' old new (Book fault) (Ok written) begin end areas strip_long labels_long marks_long r w = (
  areas,
  strip_long,
  labels_long,
  marks_long,
  (_, refused (fault_of fault) r.1.first r.1.read r.1.none (end ∙ r.1.bytes ∙ ap wiped begin) refl refl refl, w),
)
error_judged blank raise less book area final labels strip marks out out' old new (Book fault) (Err refusal) begin end areas strip_long labels_long marks_long r w = absurd w
error_judged blank raise less book area final labels strip marks out out' old new (Store refusal) answer begin end areas strip_long labels_long marks_long r w =
    absurd (omega (arith, ap length begin))
