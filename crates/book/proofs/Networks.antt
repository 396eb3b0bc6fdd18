-- A field book's names and ties are a network.
use Rattle.std.proofs.Common.{◌≡◌, ℕ, ◌<◌, ◌≤◌, Bool, true, false, ◌&&◌, ◌||◌, ltb, ◌⊎◌, List, [], ◌∷◌, ◌++◌, length, get_or, sym, refl, ap, ◌∙◌, subst, inl, inr, ⊎_elim, arith}
use Rattle.std.specs.Str.{bytes_eq}
use Rattle.std.proofs.lemmas.Slice.Eq.{bytes_eq-Decides}
use Rattle.std.proofs.lemmas.List.{length_push, get_or_push, get_or_append_left}
use Rattle.std.proofs.lemmas.Bool.{cases_Bool, cases_eq, lt-ltb, ltb-true, or_cases, or_left, or_right, and_parts, and_from, both_ways}
use Rattle.book.specs.Grammar.{Name, WellFormed, Numbered, Among, Lines, none, station, tie, FieldBook, named, tied, Written, Tied, Networked}

-- no two places of a list have one name
abbrev pub Distinct : List Name → Type 0
Distinct ns = (u v : ℕ) → u < length ns → v < length ns → get_or ns u [] ≡ get_or ns v [] → u ≡ v

-- one more name, not among the others, keeps them distinct
distinct_push : (ns : List Name) (a : Name) → Distinct ns → (Among a ns → ⊥) → Distinct (ns ++ a ∷ [])
distinct_push ns a d n = λ i j hi hj e.
    let len = length_push ns a in
    let last = get_or_push ns a [] (length ns) refl in
    ⊎_elim
    (λ (p : i ≡ length ns). ⊎_elim
    (λ (q : j ≡ length ns). omega arith)
    (λ (q : j ≡ length ns → ⊥). absurd (n (j, omega arith, sym (get_or_append_left ns (a ∷ []) [] j (omega arith)) ∙ sym e ∙ ap (λ k. get_or (ns ++ a ∷ []) k []) p ∙ last)))
    (cases_eq j (length ns)))
    (λ (p : i ≡ length ns → ⊥). ⊎_elim
    (λ (q : j ≡ length ns). absurd (n (i, omega arith, sym (get_or_append_left ns (a ∷ []) [] i (omega arith)) ∙ e ∙ ap (λ k. get_or (ns ++ a ∷ []) k []) q ∙ last)))
    (λ (q : j ≡ length ns → ⊥). d i j (omega arith) (omega arith) (sym (get_or_append_left ns (a ∷ []) [] i (omega arith)) ∙ e ∙ get_or_append_left ns (a ∷ []) [] j (omega arith)))
    (cases_eq j (length ns)))
    (cases_eq i (length ns))

-- what holds of each name holds with one more
all_push : (P : Name → Type 0) (ns : List Name) (a : Name) → ((u : ℕ) → u < length ns → P (get_or ns u [])) → P a → (u : ℕ) → u < length (ns ++ a ∷ []) → P (get_or (ns ++ a ∷ []) u [])
all_push P ns a h pa = λ u l.
    let len = length_push ns a in
    ⊎_elim
    (λ (e : u ≡ length ns). subst P (sym (get_or_push ns a [] u (sym e))) pa)
    (λ (e : u ≡ length ns → ⊥). subst P (sym (get_or_append_left ns (a ∷ []) [] u (omega arith))) (h u (omega arith)))
    (cases_eq u (length ns))

-- one more tie
written_push : (t s : Name × Name) (ts : List (Name × Name)) → Written t (ts ++ s ∷ []) → Written t ts ⊎ (t ≡ s)
written_push t s [] (inl e) = inr e
written_push t s [] (inr w) = absurd w
written_push t s (r ∷ ts) (inl e) = inl (inl e)
written_push t s (r ∷ ts) (inr w) = ⊎_elim (λ x. inl (inr x)) (λ e. inr e) (written_push t s ts w)

-- what lines keep: few names, no two the same, each well formed; and no tie of a name with itself
pub record Kept (names : List Name) (ts : List (Name × Name)) : Type 0 where
  pub few : length names ≤ 256
  pub apart : Distinct names
  pub formed : (u : ℕ) → u < length names → WellFormed (get_or names u [])
  pub differ : (a b : Name) → Written (a, b) ts → a ≡ b → ⊥

-- lines keep all this
pub kept : {text : List ℕ} {names : List Name} {ts : List (Name × Name)} → Lines text names ts → Kept names ts
kept none = record { few = omega arith; apart = λ u v h k e. absurd (omega arith); formed = λ u h. absurd (omega arith); differ = λ a b w e. w }
kept (station {names = ns} a l w new few) =
    let k = kept l in
    record {
      few = (let q = length_push ns a in omega arith);
      apart = distinct_push ns a k.apart new;
      formed = all_push WellFormed ns a k.formed w;
      differ = k.differ;
    }
kept (tie {ties = ts} c d l kc kd ne) =
    let k = kept l in
    record {
      few = k.few;
      apart = k.apart;
      formed = k.formed;
      differ = λ a b w e. ⊎_elim
          (λ x. k.differ a b x e)
          (λ q. ne (sym (ap (λ t. t.0) q) ∙ e ∙ ap (λ t. t.1) q))
          (written_push (a, b) (c, d) ts w);
    }

-- a place that tests as named has the name
pub named_is : (ns : List Name) (u : ℕ) (a : Name) → named ns u a ≡ true → Numbered ns u a
named_is ns u a t =
    let h = and_parts (ltb u (length ns)) (bytes_eq (get_or ns u []) a) t in
    (ltb-true u (length ns) h.0, (bytes_eq-Decides (get_or ns u []) a).0 h.1)

-- a place that has the name tests so
pub is_named : (ns : List Name) (u : ℕ) (a : Name) → Numbered ns u a → named ns u a ≡ true
is_named ns u a h = and_from (ltb u (length ns)) (bytes_eq (get_or ns u []) a) (lt-ltb u (length ns) h.0) ((bytes_eq-Decides (get_or ns u []) a).1 h.1)

-- the tie t is of u and v, in this order
abbrev fits : List Name → Name × Name → ℕ → ℕ → Bool
fits ns t u v = named ns u t.0 && named ns v t.1

-- the same, the other way round
abbrev turned : List Name → Name × Name → ℕ → ℕ → Bool
turned ns t u v = named ns u t.1 && named ns v t.0

-- a tie stays with one more before it
tied_later : (ns : List Name) (t : Name × Name) (ts : List (Name × Name)) (u v : ℕ) → Tied ns ts u v → Tied ns (t ∷ ts) u v
tied_later ns t ts u v f = record { one = f.one; other = f.other; one_is = f.one_is; other_is = f.other_is; written = ⊎_elim (λ w. inl (inr w)) (λ w. inr (inr w)) f.written }

-- what tests as tied is written
to_tied : (ns : List Name) (ts : List (Name × Name)) (u v : ℕ) → tied ns ts u v ≡ true → Tied ns ts u v
to_tied ns [] u v e = absurd (both_ways false refl e)
to_tied ns (t ∷ ts) u v e =
    ⊎_elim
    (λ (p : (fits ns t u v || turned ns t u v) ≡ true). ⊎_elim
    (λ (q : fits ns t u v ≡ true). let w = and_parts (named ns u t.0) (named ns v t.1) q in
    record { one = t.0; other = t.1; one_is = named_is ns u t.0 w.0; other_is = named_is ns v t.1 w.1; written = inl (inl refl) })
    (λ (q : turned ns t u v ≡ true). let w = and_parts (named ns u t.1) (named ns v t.0) q in
    record { one = t.1; other = t.0; one_is = named_is ns u t.1 w.0; other_is = named_is ns v t.0 w.1; written = inr (inl refl) })
    (or_cases (fits ns t u v) (turned ns t u v) p))
    (λ (p : tied ns ts u v ≡ true). tied_later ns t ts u v (to_tied ns ts u v p))
    (or_cases (fits ns t u v || turned ns t u v) (tied ns ts u v) e)

-- a tie that is written is there, either way round
from_written : (ns : List Name) (ts : List (Name × Name)) (u v : ℕ) (a b : Name) → Numbered ns u a → Numbered ns v b → Written (a, b) ts → (tied ns ts u v ≡ true) × (tied ns ts v u ≡ true)
from_written ns [] u v a b ha hb w = absurd w
from_written ns (t ∷ ts) u v a b ha hb (inl e) =
    let na = is_named ns u t.0 (subst (Numbered ns u) (ap (λ x. x.0) e) ha) in
    let nb = is_named ns v t.1 (subst (Numbered ns v) (ap (λ x. x.1) e) hb) in (
      or_left (fits ns t u v || turned ns t u v) (tied ns ts u v) (or_left (fits ns t u v) (turned ns t u v) (and_from (named ns u t.0) (named ns v t.1) na nb)),
      or_left (fits ns t v u || turned ns t v u) (tied ns ts v u) (or_right (fits ns t v u) (turned ns t v u) (and_from (named ns v t.1) (named ns u t.0) nb na)),
    )
from_written ns (t ∷ ts) u v a b ha hb (inr w) =
    let h = from_written ns ts u v a b ha hb w in
    (or_right (fits ns t u v || turned ns t u v) (tied ns ts u v) h.0, or_right (fits ns t v u || turned ns t v u) (tied ns ts v u) h.1)

-- what is written tests as tied, either way round
from_tied : (ns : List Name) (ts : List (Name × Name)) (u v : ℕ) → Tied ns ts u v → (tied ns ts u v ≡ true) × (tied ns ts v u ≡ true)
from_tied ns ts u v t =
    elim t.written [
      | inl w ↦ from_written ns ts u v t.one t.other t.one_is t.other_is w
      | inr w ↦ (let h = from_written ns ts v u t.other t.one t.other_is t.one_is w in (h.1, h.0))
    ]

-- no station is tied to itself
no_loop : (ns : List Name) (ts : List (Name × Name)) (u : ℕ) → Kept ns ts → Tied ns ts u u → ⊥
no_loop ns ts u k t =
    let same : t.one ≡ t.other = sym t.one_is.1 ∙ t.other_is.1 in
    elim t.written [ inl w ↦ k.differ t.one t.other w same | inr w ↦ k.differ t.other t.one w (sym same) ]

-- a field book gives a network
pub networked : (book : List ℕ) (ns : List Name) (ts : List (Name × Name)) → FieldBook book ns ts → Networked ns ts
networked book ns ts f =
    let k = kept f.lines in
    record {
      some = f.some;
      few = k.few;
      apart = k.apart;
      as_written = λ u v. (to_tied ns ts u v, λ t. (from_tied ns ts u v t).0);
      symmetric = λ u v t. (from_tied ns ts u v (to_tied ns ts u v t)).1;
      loopless = λ u. elim (cases_Bool (tied ns ts u u)) [ inl t ↦ absurd (no_loop ns ts u k (to_tied ns ts u u t)) | inr e ↦ e ];
      within = λ u v t. ((to_tied ns ts u v t).one_is.0, (to_tied ns ts u v t).other_is.0);
    }
